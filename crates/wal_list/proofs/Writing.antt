-- A line is written part by part from its start on, and into a part of memory that is lent. Assumes nothing.
use mathlib.Core.Path.{◌≡◌, sym, ap, ap₂, ◌∙◌}
use mathlib.Core.List.{List, [], ◌++◌, append-nil, append_assoc}
use borrow.Rule.Slice.PartMut.{put_mid, mid_of, Post-is}
use Prim.Native.Nat.{ℕ, ◌+◌, ◌-◌, ◌≤◌}
use native.Mathlib.Omega.{arith}
use lib.ListN.{length, take, drop, length-append, length-drop, drop_of_length-le}
use lib.Seq.{take_all, drop-drop}
use Rattle.blocks.specs.Blocks.{put}
use Rattle.blocks.proofs.Laws.{put_fits, put-append}
use Rattle.wal_list.proofs.Decimal.{decimal-length, spelt}

-- the text t stands at the start of the line, which was l₀, and ends at e
abbrev pub Written : List ℕ → List ℕ → List ℕ → ℕ → Type 0
Written l₀ t l e = (l ≡ put l₀ 0 t) × (e ≡ length t)

-- one part more
pub written_on : (l₀ t l : List ℕ) (e : ℕ) (p m : List ℕ) (r : ℕ) → Written l₀ t l e → length t + length p ≤ length l₀ → m ≡ put l e p → r ≡ e + length p → Written l₀ (t ++ p) m r
written_on l₀ t l e p m r w h a b =
    let there : e ≡ 0 + length t = omega arith in
    (a ∙ ap₂ (λ (x : List ℕ) (i : ℕ). put x i p) w.0 there ∙ put-append l₀ 0 t p (omega arith), omega (arith, length-append t p))

-- the same of what is put
pub put_on : (l₀ t : List ℕ) (e : ℕ) (p : List ℕ) → e ≡ length t → length t + length p ≤ length l₀ → put (put l₀ 0 t) e p ≡ put l₀ 0 (t ++ p)
put_on l₀ t e p h l = let there : e ≡ 0 + length t = omega arith in ap (λ (i : ℕ). put (put l₀ 0 t) i p) there ∙ put-append l₀ 0 t p (omega arith)

-- a line's parts one after the other
pub ruleset line_parts = (put_on, decimal-length, length-append)

-- bytes put at the start of the part from `a` on are put at `a`
pub part-put : (s : List ℕ) (a : ℕ) (bs : List ℕ) → a + length bs ≤ length s → put_mid a (length s - a) s (put (mid_of a (length s - a) s) 0 bs) ≡ put s a bs
part-put s a bs h =
    let d : List ℕ = drop a s in
    let all : mid_of a (length s - a) s ≡ d = take_all (length s - a) d (omega (arith, length-drop a s)) in
    let there : put d 0 bs ≡ bs ++ drop (0 + length bs) d = put_fits d 0 bs (omega (arith, length-drop a s)) in
    let same : 0 + length bs ≡ length bs = omega arith in
    let after : drop (0 + length bs) d ≡ drop (a + length bs) s = ap (λ (k : ℕ). drop k d) same ∙ drop-drop (length bs) a s in
    let over : drop (length s - a) d ≡ [] = Post-is a (length s) s (omega arith) ∙ drop_of_length-le s {i = length s} (omega arith) in
    ap₂ (λ (x y : List ℕ). take a s ++ (x ++ y)) (ap (λ (l : List ℕ). put l 0 bs) all ∙ there ∙ ap (λ (l : List ℕ). bs ++ l) after) over
    ∙ ap (λ (l : List ℕ). take a s ++ l) (append-nil (bs ++ drop (a + length bs) s)) ∙ sym (append_assoc (take a s) bs (drop (a + length bs) s))
    ∙ sym (put_fits s a bs h)
