-- 01, 'Refusal numbers': every refusal with its number, and every case of the shared answers, in literals. Assumes
-- nothing.
use mathlib.Core.Path.{◌≡◌, refl}
use mathlib.Core.Bool.{Bool, true, false}
use mathlib.Core.List.{[], ◌∷◌, map}
use Prim.Native.Nat.{ℕ}
use Rattle.std.specs.Prelude.{Ok, Err}
use Rattle.answers.specs.Refusals.{number_of}
use Rattle.answers.specs.Answers.{given, refused, answer_of, accepted}
use Rattle.answers.specs.declared.Refusal.TheVariants.{TableUnfit, LengthUnfit, SlotUnfit, DiffReserved, LogNotPages, LogCut, NoStart, TagUnknown, BucketOutside, PathCrowded, PathClosed, WriterNotOpen, NoRoom, BucketUnfit, MarkerLength, MarkerMagic, MarkerOrder, NothingPending, WouldShrink, PaddingUsed, LabelTwice, TagWrong, EmptyFirst, NotReached, OtherStore, AfterEndUsed}

pub numbers : map number_of
    (TableUnfit ∷ LengthUnfit ∷ SlotUnfit ∷ DiffReserved ∷ LogNotPages ∷ LogCut ∷ NoStart ∷ TagUnknown ∷ BucketOutside ∷ PathCrowded ∷ PathClosed ∷ WriterNotOpen
    ∷ NoRoom ∷ BucketUnfit ∷ MarkerLength ∷ MarkerMagic ∷ MarkerOrder ∷ NothingPending ∷ WouldShrink ∷ PaddingUsed ∷ LabelTwice ∷ TagWrong ∷ EmptyFirst ∷ NotReached ∷ OtherStore ∷ AfterEndUsed ∷ [])
    ≡ 1 ∷ 2 ∷ 3 ∷ 4 ∷ 5 ∷ 6 ∷ 7 ∷ 8 ∷ 9 ∷ 10 ∷ 11 ∷ 12 ∷ 13 ∷ 14 ∷ 15 ∷ 16 ∷ 17 ∷ 18 ∷ 19 ∷ 20 ∷ 21 ∷ 22 ∷ 23 ∷ 24 ∷ 26 ∷ 27 ∷ []
numbers = refl

pub shared : (map (answer_of {A = Unit {0}}) (Ok tt ∷ Err SlotUnfit ∷ []) ≡ given tt ∷ refused 3 ∷ [])
    × (map (answer_of {A = ℕ}) (Ok 7 ∷ Err BucketOutside ∷ []) ≡ given 7 ∷ refused 9 ∷ [])
    × (map (answer_of {A = Bool}) (Ok true ∷ Ok false ∷ Err NotReached ∷ []) ≡ given true ∷ given false ∷ refused 24 ∷ [])
    × (map (accepted {A = ℕ}) (given 0 ∷ refused 1 ∷ []) ≡ true ∷ false ∷ [])
shared = (refl, refl, refl, refl)
