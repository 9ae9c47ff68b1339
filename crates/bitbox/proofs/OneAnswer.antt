-- A promise names one answer only, also where it names the fields of an answer one by one: they are all there are.
-- Assumes nothing.
use mathlib.Core.Path.{◌≡◌, sym, ap₂, ◌∙◌}
use Prim.Native.Nat.{ℕ}
use Rattle.page_diff.proofs.OneAnswer.{one_diff}
use Rattle.wal.specs.Reader.{Next}
use Rattle.bitbox.specs.Words.{Read}
use Rattle.bitbox.specs.declared.DiffAnswer.{DiffAnswer}
use Rattle.bitbox.specs.declared.PackAnswer.{PackAnswer}
use Rattle.bitbox.specs.declared.Entry.{Entry}
use Rattle.bitbox.specs.declared.MarkerBytes.{MarkerBytes}

-- the answers of `bitbox_diff_read` and `bitbox_diff_set`, of `bitbox_pack`, and of `bitbox_write_marker`
pub one_diff_answer : (a b : DiffAnswer) → a.refusal ≡ b.refusal → a.diff.words ≡ b.diff.words → a ≡ b
one_diff_answer a b e f = ap₂ (λ k d. record { refusal = k; diff = d }) e (one_diff a.diff b.diff f)

pub one_pack_answer : (a b : PackAnswer) → a.refusal ≡ b.refusal → a.packed ≡ b.packed → a ≡ b
one_pack_answer a b e f = ap₂ (λ k p. record { refusal = k; packed = p }) e f

pub one_marker_bytes : (a b : MarkerBytes) → a.refusal ≡ b.refusal → a.bytes ≡ b.bytes → a ≡ b
one_marker_bytes a b e f = ap₂ (λ k bs. record { refusal = k; bytes = bs }) e f

-- and of `bitbox_reader_next`
pub one_entry : (n : Next) (at : ℕ) (a b : Entry) → Read n at a → Read n at b → a ≡ b
one_entry n at a b s t =
    let r = s.refusal_is ∙ sym t.refusal_is in
    let k = s.kind_is ∙ sym t.kind_is in
    let b' = s.bucket_is ∙ sym t.bucket_is in
    let p = s.next_is ∙ sym t.next_is in
    let i = s.id_is ∙ sym t.id_is in
    let d = one_diff a.diff b.diff (s.diff_is ∙ sym t.diff_is) in
    let ns = s.packed_is ∙ sym t.packed_is in
    let el = s.elided_is ∙ sym t.elided_is in
    λ j. record { refusal = r j; kind = k j; bucket = b' j; next = p j; id = i j; diff = d j; packed = ns j; elided = el j }
