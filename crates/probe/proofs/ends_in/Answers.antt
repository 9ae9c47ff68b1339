-- What is compared are the 32 bytes from the place on, where there are so many. Assumes nothing.
use Rattle.std.proofs.Common.{◌≡◌, sym, ap, ◌∙◌, arith, List, ℕ, ◌+◌, ◌<◌, length, take, drop}
use Rattle.std.specs.List.{slice_range}
use Rattle.std.proofs.lemmas.Slice.{between_to_end}
use Rattle.blocks.specs.Blocks.{same_bytes}
use Rattle.blocks.proofs.Same.{same_short}
use Rattle.probe.proofs.ends_in.Goals.{in_default-via-in-None-1, in_default-via-in-Some+in-None-1}
use Rattle.probe.proofs.ends_in.Goals as goal

-- the bytes from place x on are those from `at` on
from_place : (img rest : List ℕ) (at x : ℕ) → rest ≡ slice_range img x (length img) → x ≡ at → rest ≡ drop at img
from_place img rest at x e q = e ∙ between_to_end img x (length img) (omega arith) ∙ ap (λ (k : ℕ). drop k img) q

pub returns : goal.returns
returns c =
    let a = c.args in
    let rest = from_place a.image.now c.in-Some.rest.now a.at _ c.in-Some.ensures.lookup.0.2 (omega arith) in
    c.same_block.ensures ∙ ap (λ (xs : List ℕ). same_bytes xs a.id) (c.in-Some-first_chunk.ensures.cases.same ∙ ap (take 32) rest)

pub returns-2 : goal.returns-2
returns-2 c =
    let a = c.args in
    let few : length a.image.now < a.at + 32 =
    elim c.in_default.branch [
      | in_default-via-in-None-1 w ↦ grind arith
      | in_default-via-in-Some+in-None-1 w ↦ grind arith
    ] in
    sym (same_short a.image.now a.id a.at 32 (omega arith) (omega arith) few)
