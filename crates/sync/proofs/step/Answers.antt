-- The tests in order, then the arm of what look_ahead saw: each leaves what the definition says. Assumes nothing.
use Rattle.std.proofs.Common.{◌≡◌, ◌∙◌, refl, sym, ap, ap₂, subst, ℕ, ◌≤◌, true, List, length, set, rules, Result, Ok, Err}
use Rattle.answers.specs.Answers.{given}
use Rattle.answers.specs.Refusals.{number_of}
use Rattle.answers.specs.declared.Refusal.{Refusal}
use Rattle.answers.specs.declared.Refusal.TheVariants.{LengthUnfit, WriterNotOpen}
use Rattle.answers.proofs.Laws.{given_refused}
use Rattle.ht_file.specs.Places.{tags_fit, tag_pages}
use Rattle.ht_file.proofs.Laws.{tags_fit_facts, table_fits}
use Rattle.wal.specs.declared.Writer.{Writer}
use Rattle.sync_parts.specs.Parts.{cells_at}
use Rattle.sync_parts.specs.declared.Where.{Where}
use Rattle.sync.specs.Change.{Wide, mem_of, effect_of, cleared, updated, allocated, state_of, taken_said}
use Rattle.sync.specs.InnerChange.{outlook_said, outlook_fits}
use Rattle.sync.specs.declared.Outlook.{Outlook}
use Rattle.sync.specs.declared.Outlook.TheVariants.{Clears, Updates, Takes}
use Rattle.sync.specs.declared.Change.{Change}
use Rattle.sync.specs.declared.SyncState.{SyncState}
use Rattle.sync.proofs.StepLaws.{Opened, opened, step_unfit, step_page, step_marks, step_closed, step_ahead, refused_left, given_left, clear_taken, page_taken, clear_state, clear_bytes_lem, page_state, page_bytes}
use Rattle.sync.proofs.step.Goals as goal
use Rattle.sync.proofs.step.Goals.{Start, In_ok-check_tags, After-look_ahead}

-- the widths that the types give
wide : (c : Start) → Wide c.args.c
wide c = search rules

-- the tags fit
fits : (c : In_ok-check_tags) → tags_fit c.args.st.now.n (length c.args.m.now.tags.now) ≡ true
fits c = table_fits _ (sym c.in_ok-check_tags.ensures)

-- a page, and a mark for each tag page; what look_ahead saw is what the change comes to
module _ (c : After-look_ahead) where
  abbrev st : SyncState
  st = c.args.st.now

  abbrev tags : List ℕ
  tags = c.args.m.now.tags.now

  abbrev marks : List ℕ
  marks = c.args.m.now.marks.now

  abbrev cells : List ℕ
  cells = c.args.m.now.cells.now

  abbrev log : List ℕ
  log = c.args.m.now.log.now

  abbrev page : List ℕ
  page = c.args.page.now

  abbrev ch : Change
  ch = c.args.c

  is_fit : tags_fit st.n (length tags) ≡ true
  is_fit = table_fits _ (sym c.in_ok-check_tags.ensures)

  paged : length page ≡ 4096
  paged = c.if-page-ne4096.false

  marked : length marks ≡ tag_pages st.n
  marked = c.if-m-tag_pages.false ∙ c.tag_pages.ensures

  is_open : Opened st.writer
  is_open = opened st.writer c.in-Open.field-0 c.in-Open.field-1 c.in-Open.is

  most : st.n ≤ 1048576
  most = (tags_fit_facts st.n (length tags) is_fit).1

  module _ (o : Result Outlook Refusal) (e : c.look_ahead.result ≡ o) where
    seen : effect_of st (mem_of tags marks cells log) page ch ≡ outlook_said o
    seen = step_ahead st tags marks cells log page ch is_fit paged marked is_open o (sym (ap outlook_said e) ∙ c.look_ahead.ensures.0)

    rests : outlook_fits o st log ch
    rests = subst (λ (x : Result Outlook Refusal). outlook_fits x st log ch) e c.look_ahead.ensures.1

pub returns-in_err-check_tags-clause-does : goal.returns-in_err-check_tags-clause-does
returns-in_err-check_tags-clause-does c =
    let x = c.args in
    let why = c.in_err-check_tags.field-0.0 in
    let gone : c.from_residual.result ≡ Err why = search rules in
    refused_left x.st.now x.m.now.tags.now x.m.now.marks.now x.m.now.cells.now x.m.now.log.now x.page.now x.c (number_of why) c.from_residual.result
    (step_unfit x.st.now x.m.now.tags.now x.m.now.marks.now x.m.now.cells.now x.m.now.log.now x.page.now x.c (number_of why) (sym c.in_err-check_tags.ensures)) (ap taken_said gone) (wide (goal.at.returns-in_err-check_tags-clause-does c).Start)

pub returns-then-page-ne4096-clause-does : goal.returns-then-page-ne4096-clause-does
returns-then-page-ne4096-clause-does c =
    let x = c.args in
    refused_left x.st.now x.m.now.tags.now x.m.now.marks.now x.m.now.cells.now x.m.now.log.now x.page.now x.c 2 (Err LengthUnfit)
    (step_page x.st.now x.m.now.tags.now x.m.now.marks.now x.m.now.cells.now x.m.now.log.now x.page.now x.c (fits (goal.at.returns-then-page-ne4096-clause-does c).In_ok-check_tags) c.if-page-ne4096.true) refl (wide (goal.at.returns-then-page-ne4096-clause-does c).Start)

pub returns-then-m-tag_pages-clause-does : goal.returns-then-m-tag_pages-clause-does
returns-then-m-tag_pages-clause-does c =
    let x = c.args in
    refused_left x.st.now x.m.now.tags.now x.m.now.marks.now x.m.now.cells.now x.m.now.log.now x.page.now x.c 2 (Err LengthUnfit)
    (step_marks x.st.now x.m.now.tags.now x.m.now.marks.now x.m.now.cells.now x.m.now.log.now x.page.now x.c (fits (goal.at.returns-then-m-tag_pages-clause-does c).In_ok-check_tags) c.if-page-ne4096.false
    (λ q. c.if-m-tag_pages.true (q ∙ sym c.tag_pages.ensures))) refl (wide (goal.at.returns-then-m-tag_pages-clause-does c).Start)

pub returns-in_default-clause-does : goal.returns-in_default-clause-does
returns-in_default-clause-does c =
    let x = c.args in
    refused_left x.st.now x.m.now.tags.now x.m.now.marks.now x.m.now.cells.now x.m.now.log.now x.page.now x.c 12 (Err WriterNotOpen)
    (step_closed x.st.now x.m.now.tags.now x.m.now.marks.now x.m.now.cells.now x.m.now.log.now x.page.now x.c (fits (goal.at.returns-in_default-clause-does c).In_ok-check_tags) c.if-page-ne4096.false
    (c.if-m-tag_pages.false ∙ c.tag_pages.ensures) c.in_default.not-Open) refl (wide (goal.at.returns-in_default-clause-does c).Start)

pub returns-in_err-ahead-clause-does : goal.returns-in_err-ahead-clause-does
returns-in_err-ahead-clause-does c =
    let x = c.args in
    let l = (goal.at.returns-in_err-ahead-clause-does c).After-look_ahead in
    let why = c.in_err-ahead.field-0.0 in
    let gone : c.from_residual-in_err-ahead.result ≡ Err why = search rules in
    refused_left x.st.now x.m.now.tags.now x.m.now.marks.now x.m.now.cells.now x.m.now.log.now x.page.now x.c (number_of why) c.from_residual-in_err-ahead.result (seen l (Err why) c.in_err-ahead.was) (ap taken_said gone) (wide (goal.at.returns-in_err-ahead-clause-does c).Start)

-- the record's room was looked at, so its call is not refused
pub returns-in_err-write_clear-in-Clears-clause-does : goal.returns-in_err-write_clear-in-Clears-clause-does
returns-in_err-write_clear-in-Clears-clause-does c =
    let l = (goal.at.returns-in_err-write_clear-in-Clears-clause-does c).After-look_ahead in
    let r = rests l (Ok (Clears c.in-Clears.b)) (c.in_ok-ahead.was ∙ ap Ok c.in-Clears.is) in
    absurd (given_refused tt _ (sym (c.in_err-write_clear-in-Clears.ensures.0 ∙ clear_taken (st l).writer (log l) (is_open l) r.1)))

pub returns-in_err-write_page_update-in-Updates-clause-does : goal.returns-in_err-write_page_update-in-Updates-clause-does
returns-in_err-write_page_update-in-Updates-clause-does c =
    let l = (goal.at.returns-in_err-write_page_update-in-Updates-clause-does c).After-look_ahead in
    let r = rests l (Ok (Updates c.in-Updates.b)) (c.in_ok-ahead.was ∙ ap Ok c.in-Updates.is) in
    absurd (given_refused tt _ (sym (c.in_err-write_page_update-in-Updates.ensures.0 ∙ page_taken (st l).writer (log l) (ch l).diff.words (page l) (is_open l) (paged l) r.2 r.1)))

pub returns-in_err-write_page_update-in-Takes-clause-does : goal.returns-in_err-write_page_update-in-Takes-clause-does
returns-in_err-write_page_update-in-Takes-clause-does c =
    let l = (goal.at.returns-in_err-write_page_update-in-Takes-clause-does c).After-look_ahead in
    let r = rests l (Ok (Takes c.in-Takes.b)) (c.in_ok-ahead.was ∙ ap Ok c.in-Takes.is) in
    absurd (given_refused tt _ (sym (c.in_err-write_page_update-in-Takes.ensures.0 ∙ page_taken (st l).writer (log l) (ch l).diff.words (page l) (is_open l) (paged l) r.2 r.1)))

pub taken_at-requires : goal.taken_at-requires
taken_at-requires c =
    let l = (goal.at.taken_at-requires c).After-look_ahead in
    let r = rests l (Ok (Clears c.in-Clears.b)) (c.in_ok-ahead.was ∙ ap Ok c.in-Clears.is) in
    (most l, r.0)

pub returns-in_ok-write_clear-in-Clears-clause-does : goal.returns-in_ok-write_clear-in-Clears-clause-does
returns-in_ok-write_clear-in-Clears-clause-does c =
    let l = (goal.at.returns-in_ok-write_clear-in-Clears-clause-does c).After-look_ahead in
    let b = c.in-Clears.b in
    let e = c.in_ok-ahead.was ∙ ap Ok c.in-Clears.is in
    let r = rests l (Ok (Clears b)) e in
    let w = (st l).writer in
    let k = clear_taken w (log l) (is_open l) r.1 in
    let wr = c.write_clear in
    let tg = c.write_tag in
    given_left (st l) (tags l) (marks l) (cells l) (log l) (page l) (ch l) (cleared b) (Ok c.taken_at.result)
    (state_of (st l).n (st l).limit wr.new.w c.saturating_sub-st.result) tg.new.tags tg.new.marks (cells l) wr.new.log (seen l (Ok (Clears b)) e) (ap₂ (λ (x y : ℕ). given (x, y)) c.taken_at.ensures.0 c.taken_at.ensures.1)
    (ap₂ (state_of (st l).n (st l).limit) (wr.ensures.1.0 ∙ clear_state w (log l) k) (search rules)) tg.ensures.0 tg.ensures.1 refl (wr.ensures.1.1 ∙ clear_bytes_lem w (log l) k b) (wide (goal.at.returns-in_ok-write_clear-in-Clears-clause-does c).Start)

pub returns-in_ok-write_page_update-in-Updates-clause-does : goal.returns-in_ok-write_page_update-in-Updates-clause-does
returns-in_ok-write_page_update-in-Updates-clause-does c =
    let l = (goal.at.returns-in_ok-write_page_update-in-Updates-clause-does c).After-look_ahead in
    let b = c.in-Updates.b in
    let e = c.in_ok-ahead.was ∙ ap Ok c.in-Updates.is in
    let r = rests l (Ok (Updates b)) e in
    let w = (st l).writer in
    let ws = (ch l).diff.words in
    let k = page_taken w (log l) ws (page l) (is_open l) (paged l) r.2 r.1 in
    let wr = c.write_page_update in
    let t = c.taken_at-in-Updates in
    given_left (st l) (tags l) (marks l) (cells l) (log l) (page l) (ch l) (updated b) (Ok t.result)
    (state_of (st l).n (st l).limit wr.new.w (st l).occupied) (tags l) (marks l) (cells l) wr.new.log (seen l (Ok (Updates b)) e) (ap₂ (λ (x y : ℕ). given (x, y)) t.ensures.0 t.ensures.1)
    (ap (λ (v : Writer). state_of (st l).n (st l).limit v (st l).occupied) (wr.ensures.1.0 ∙ page_state w (log l) ws (page l) k)) refl refl refl (wr.ensures.1.1 ∙ page_bytes w (log l) ws (page l) k (ch l).id b) (wide (goal.at.returns-in_ok-write_page_update-in-Updates-clause-does c).Start)

pub returns-in_ok-write_page_update-in-Takes-clause-does : goal.returns-in_ok-write_page_update-in-Takes-clause-does
returns-in_ok-write_page_update-in-Takes-clause-does c =
    let l = (goal.at.returns-in_ok-write_page_update-in-Takes-clause-does c).After-look_ahead in
    let b = c.in-Takes.b in
    let e = c.in_ok-ahead.was ∙ ap Ok c.in-Takes.is in
    let r = rests l (Ok (Takes b)) e in
    let w = (st l).writer in
    let ws = (ch l).diff.words in
    let k = page_taken w (log l) ws (page l) (is_open l) (paged l) r.2 r.1 in
    let wr = c.write_page_update-in-Takes in
    let tg = c.write_tag-in-Takes in
    let t = c.taken_at-in-Takes in
    given_left (st l) (tags l) (marks l) (cells l) (log l) (page l) (ch l) (allocated b) (Ok t.result)
    (state_of (st l).n (st l).limit wr.new.w c.saturating_add-st.result) tg.new.tags tg.new.marks c.set_cell.new.cells wr.new.log (seen l (Ok (Takes b)) e) (ap₂ (λ (x y : ℕ). given (x, y)) t.ensures.0 t.ensures.1)
    (ap₂ (state_of (st l).n (st l).limit) (wr.ensures.1.0 ∙ page_state w (log l) ws (page l) k) (search rules)) (tg.ensures.0 ∙ ap (set (tags l) b) c.full_entry.ensures) tg.ensures.1
    (c.set_cell.ensures ∙ ap (λ (p : Where). cells_at p b (cells l)) c.into.ensures) (wr.ensures.1.1 ∙ page_bytes w (log l) ws (page l) k (ch l).id b) (wide (goal.at.returns-in_ok-write_page_update-in-Takes-clause-does c).Start)
