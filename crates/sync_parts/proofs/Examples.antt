-- The definitions on literals. Assumes nothing.
use mathlib.Core.Path.{◌≡◌, refl}
use mathlib.Core.Bool.{true, false}
use mathlib.Core.List.{[], ◌∷◌, map}
use Prim.Native.Nat.{◌-◌, ◌^◌}
use lib.ListN.{replicate}
use Rattle.std.specs.Prelude.{Ok, Err, None, Some}
use Rattle.answers.specs.Answers.{given, refused}
use Rattle.answers.specs.declared.Refusal.TheVariants.{LengthUnfit}
use Rattle.meta_map.specs.Tags as tags
use Rattle.page_diff.specs.Diff.{marked, slots_below}
use Rattle.sync_parts.specs.Parts.{bucket, none, named_by, name_said, tag_fits, body_of, cells_at, full_tags}
use Rattle.sync_parts.specs.declared.Where.TheVariants.{Known, Fresh as FreshPage, Cell}

-- a known bucket, none, that of a cell, an unset cell, a cell that is not there
pub names : map (λ w. named_by w (4 ∷ (2 ^ 64 - 1) ∷ [])) (Known 7 ∷ FreshPage ∷ Cell 0 ∷ Cell 1 ∷ Cell 2 ∷ [])
    ≡ given (bucket 7) ∷ given none ∷ given (bucket 4) ∷ given none ∷ refused 2 ∷ []
names = refl

pub said : map name_said (Ok (Some 7) ∷ Ok None ∷ Err LengthUnfit ∷ []) ≡ given (bucket 7) ∷ given none ∷ refused 2 ∷ []
said = refl

-- the hash's tag alone: no other full one
pub rule : map (tag_fits (2 ^ 57)) (0x80 ∷ 0x81 ∷ 0x7F ∷ 0 ∷ []) ≡ false ∷ true ∷ false ∷ false ∷ []
rule = refl

pub bodies : body_of true (5 ∷ 0 ∷ []) ∷ body_of false (5 ∷ 0 ∷ []) ∷ [] ≡ 8 ∷ 128 ∷ []
unfolding slots_below marked
bodies = refl

pub cells : map (λ w. cells_at w 7 (4 ∷ 5 ∷ [])) (Known 1 ∷ FreshPage ∷ Cell 1 ∷ Cell 2 ∷ []) ≡ (4 ∷ 5 ∷ []) ∷ (4 ∷ 5 ∷ []) ∷ (4 ∷ 7 ∷ []) ∷ (4 ∷ 5 ∷ []) ∷ []
cells = refl

-- two full tags of three; none are counted of tags that are not those of three buckets
pub counts : full_tags 3 (0x85 ∷ 0x7F ∷ 0x80 ∷ replicate 4093 0) ∷ full_tags 3 (0x85 ∷ 0x7F ∷ 0x80 ∷ []) ∷ [] ≡ 2 ∷ 0 ∷ []
unfolding tags.count_of
counts = refl
