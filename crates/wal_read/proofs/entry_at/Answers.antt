-- The head tells what stands there; an update's fields are read where it says, and any other entry has none. Assumes nothing.
use Rattle.std.proofs.Common.{arith, ◌≡◌, ◌+◌, ℕ, List, Ok, refl, sym, ap, ◌∙◌}
use Rattle.std.proofs.lemmas.Result.{IfOk-at_ok}
use Rattle.answers.specs.Refusals.{number_of}
use Rattle.blocks.specs.Blocks.{block}
use Rattle.page_diff.specs.Diff.{read_words}
use Rattle.page_diff.specs.Pack.{packed_by}
use Rattle.page_diff.specs.declared.Diff.{Diff}
use Rattle.wal.specs.Reader.{next_by}
use Rattle.wal.specs.declared.AfterEnd.{AfterEnd}
use Rattle.wal.specs.declared.Edition.{Edition}
use Rattle.wal_read.specs.Head.{head_of, head_said}
use Rattle.wal_read.specs.declared.Head.{Head}
use Rattle.wal_read.specs.declared.Head.TheVariants as head
use Rattle.wal_read.proofs.NextLaws.{read_ok}
use Rattle.wal_read.proofs.ReadLaws.{There, head_clear, head_update, head_end, head_stop}
use Rattle.wal_read.proofs.Answered.{bare_clear, bare_end, bare_stop, update_taken}
use Rattle.wal_read.proofs.entry_at.Goals as goal

-- in the arm of an update: all of it stands in the log
there : (rule : AfterEnd) (ed : Edition) (log : List ℕ) (at b c p : ℕ) (h : Head) → h ≡ head.Update b c p → head_said (Ok h) ≡ head_of (next_by rule ed log at) → There rule ed log at b c p
there rule ed log at b c p h e f = head_update rule ed log at b c p (sym (ap (λ (x : Head). head_said (Ok x)) e) ∙ f)

pub overflow_add-body : goal.overflow_add-body
overflow_add-body c = let t = there _ _ _ _ _ _ _ _ c.in-Ok-Update.field-0-is c.in-Ok-Update.ensures in omega (arith, t.within)

pub diff_at-requires : goal.diff_at-requires
diff_at-requires c = let t = there _ _ _ _ _ _ _ _ c.in-Ok-Update.field-0-is c.in-Ok-Update.ensures in omega (arith, t.within)

pub unwrap-diff-requires : goal.unwrap-diff-requires
unwrap-diff-requires c =
    let a = c.args in
    let t = there _ _ _ _ _ _ _ _ c.in-Ok-Update.field-0-is c.in-Ok-Update.ensures in
    read_ok (block 16 a.log.now (a.at + c.mark_size.result + 32)) c.diff_at.result c.diff_at.ensures.answer (simp c.mark_size.ensures t.plain)

pub overflow_add-body-in-Ok-Update : goal.overflow_add-body-in-Ok-Update
overflow_add-body-in-Ok-Update c = let t = there _ _ _ _ _ _ _ _ c.in-Ok-Update.field-0-is c.in-Ok-Update.ensures in omega (arith, t.within)

pub nodes_at-requires : goal.nodes_at-requires
nodes_at-requires c = let t = there _ _ _ _ _ _ _ _ c.in-Ok-Update.field-0-is c.in-Ok-Update.ensures in (t.few, omega (arith, t.within))

pub overflow_add-body-in-Ok-Update-2 : goal.overflow_add-body-in-Ok-Update-2
overflow_add-body-in-Ok-Update-2 c = let t = there _ _ _ _ _ _ _ _ c.in-Ok-Update.field-0-is c.in-Ok-Update.ensures in omega (arith, t.within)

pub overflow_mul-count : goal.overflow_mul-count
overflow_mul-count c = let t = there _ _ _ _ _ _ _ _ c.in-Ok-Update.field-0-is c.in-Ok-Update.ensures in omega (arith, t.few)

pub overflow_add-body-in-Ok-Update-3 : goal.overflow_add-body-in-Ok-Update-3
overflow_add-body-in-Ok-Update-3 c = let t = there _ _ _ _ _ _ _ _ c.in-Ok-Update.field-0-is c.in-Ok-Update.ensures in omega (arith, t.within)

pub returns-in-Ok-Clear : goal.returns-in-Ok-Clear
returns-in-Ok-Clear c =
    let a = c.args in
    let b = c.in-Ok-Clear.bucket in
    let p = c.in-Ok-Clear.next in
    bare_clear a.at p c.bare.result (next_by a.rule a.edition a.log.now a.at) b
    (head_clear (next_by a.rule a.edition a.log.now a.at) b p (sym (ap (λ (h : Head). head_said (Ok h)) c.in-Ok-Clear.field-0-is) ∙ c.in-Ok-Clear.ensures)) c.bare.ensures

pub returns-in-Ok-Update : goal.returns-in-Ok-Update
returns-in-Ok-Update c =
    let a = c.args in
    let t = there _ _ _ _ _ _ _ _ c.in-Ok-Update.field-0-is c.in-Ok-Update.ensures in
    update_taken a.rule a.edition a.log.now a.at c.in-Ok-Update.bucket c.in-Ok-Update.count c.in-Ok-Update.next _ t c.mark_size.result c.mark_size.ensures refl c.block-id.ensures
    (IfOk-at_ok (λ (d : Diff). d.words ≡ read_words (block 16 a.log.now (a.at + c.mark_size.result + 32))) c.unwrap-diff.ensures c.diff_at.ensures.value)
    (c.pack_up-packed.ensures ∙ ap (λ (ns : List (List ℕ)). packed_by ns c.in-Ok-Update.count) c.nodes_at.ensures) c.block-elided.ensures refl

pub returns-in-Ok-End : goal.returns-in-Ok-End
returns-in-Ok-End c =
    let a = c.args in
    bare_end a.at c.bare-in-Ok-End.result (next_by a.rule a.edition a.log.now a.at)
    (head_end (next_by a.rule a.edition a.log.now a.at) (sym (ap (λ (h : Head). head_said (Ok h)) c.in-Ok-End.field-0-is) ∙ c.in-Ok-End.ensures)) c.bare-in-Ok-End.ensures

pub returns-in-Err : goal.returns-in-Err
returns-in-Err c =
    let a = c.args in
    bare_stop a.at c.bare-in-Err.result (next_by a.rule a.edition a.log.now a.at) c.in-Err.why
    (head_stop (next_by a.rule a.edition a.log.now a.at) (number_of c.in-Err.why) c.in-Err.ensures) c.bare-in-Err.ensures
