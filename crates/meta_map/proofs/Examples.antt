-- 01, 'Tags': a byte's kind, the full tags of some hashes, and what the calls on lent tags answer, each refusal
-- with its number, in literals. Assumes nothing.
use mathlib.Core.Path.{◌≡◌, refl}
use mathlib.Core.Bool.{true, false}
use mathlib.Core.List.{List, [], ◌∷◌, map}
use Prim.Native.Nat.{ℕ, ◌-◌, ◌^◌}
use lib.ListN.{get_or, replicate}
use Rattle.answers.specs.Answers.{given, refused}
use Rattle.ht_file.specs.Places.{if_tags}
use Rattle.blocks.specs.Blocks.{all_zero}
use Rattle.meta_map.specs.Tags.{empty, tombstone, full, other, kind_of, is_kind, full_tag, count_of, padding_empty, write_answer, tag_written}

-- "0x00 empty, 0x7F tombstone"; "Full means bit 7 set. Bytes 0x01 to 0x7E are none of the three"
pub kinds : map kind_of (0x00 ∷ 0x01 ∷ 0x7E ∷ 0x7F ∷ 0x80 ∷ 0xFF ∷ []) ≡ empty ∷ other ∷ other ∷ tombstone ∷ full ∷ full ∷ []
kinds = refl

pub told : map (λ k. map (is_kind k) (empty ∷ tombstone ∷ full ∷ other ∷ [])) (empty ∷ tombstone ∷ full ∷ other ∷ [])
    ≡ (true ∷ false ∷ false ∷ false ∷ []) ∷ (false ∷ true ∷ false ∷ false ∷ []) ∷ (false ∷ false ∷ true ∷ false ∷ []) ∷ (false ∷ false ∷ false ∷ true ∷ []) ∷ []
told = refl

-- "full tag = 128 + floor(hash / 2^57)"
pub full_tags_lem : map full_tag (5 ∷ (2 ^ 58 - 1) ∷ (2 ^ 58) ∷ (2 ^ 63) ∷ []) ≡ 0x80 ∷ 0x81 ∷ 0x82 ∷ 0xC0 ∷ []
full_tags_lem = refl

-- the tags of three buckets, and a byte in the padding
abbrev three : List ℕ
three = 0x81 ∷ 0x7F ∷ 0x00 ∷ replicate 4093 0

abbrev padded : List ℕ
padded = 0x81 ∷ 0x7F ∷ 0x00 ∷ 0x80 ∷ replicate 4092 0

pub counts : map (λ n. if_tags padded n (given (count_of full padded n))) (3 ∷ 4 ∷ 0 ∷ 4097 ∷ 1048577 ∷ [])
    ∷ map (λ k. if_tags padded 4 (given (count_of k padded 4))) (empty ∷ tombstone ∷ full ∷ other ∷ []) ∷ []
    ≡ (given 1 ∷ given 2 ∷ refused 1 ∷ refused 1 ∷ refused 1 ∷ []) ∷ (given 1 ∷ given 1 ∷ given 2 ∷ given 0 ∷ []) ∷ []
unfolding count_of
counts = refl

pub paddings : if_tags three 3 (given (padding_empty three 3)) ∷ if_tags padded 3 (given (padding_empty padded 3)) ∷ if_tags padded 4 (given (padding_empty padded 4))
    ∷ if_tags three 4097 (given (padding_empty three 4097)) ∷ [] ≡ given true ∷ given false ∷ given true ∷ refused 1 ∷ []
unfolding all_zero
paddings = refl

pub writes : write_answer three 3 2 ∷ write_answer three 3 3 ∷ write_answer three 4097 2 ∷ write_answer three 0 0 ∷ [] ≡ given tt ∷ refused 9 ∷ refused 1 ∷ refused 1 ∷ []
writes = refl

-- the first three tags afterwards: bucket 2's written; at n, and for another table, none
pub written : map (λ ts. get_or ts 0 0 ∷ get_or ts 1 0 ∷ get_or ts 2 0 ∷ get_or ts 3 0 ∷ []) (tag_written three 3 2 0x85 ∷ tag_written three 3 3 0x85 ∷ tag_written three 4097 2 0x85 ∷ [])
    ≡ (0x81 ∷ 0x7F ∷ 0x85 ∷ 0x00 ∷ []) ∷ (0x81 ∷ 0x7F ∷ 0x00 ∷ 0x00 ∷ []) ∷ (0x81 ∷ 0x7F ∷ 0x00 ∷ 0x00 ∷ []) ∷ []
written = refl
