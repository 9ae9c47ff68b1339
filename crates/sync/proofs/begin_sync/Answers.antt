-- The tests in order, then begin's answer, the zeroed marks and the count. Assumes nothing.
use Rattle.std.proofs.Common.{◌≡◌, ◌∙◌, sym, ap, ap₂, ℕ, Bool, true, cond, List, [], length, arith, rules, Err, ◌*◌}
use Rattle.answers.specs.Refusals.{number_of}
use Rattle.ht_file.specs.Places.{tags_fit}
use Rattle.ht_file.proofs.Laws.{table_fits}
use Rattle.meta_map.specs.Tags.{full, count_of}
use Rattle.probe.specs.Path.{Limit, hit_limit}
use Rattle.sync.specs.Change.{mem_of, state_of}
use Rattle.sync.proofs.StartLaws.{start_unfit, start_pages, start_marks, start_begin, begin_refused, begin_given, begun_left, begun_open}
use Rattle.sync.proofs.begin_sync.Goals as goal
use Rattle.sync.proofs.begin_sync.Goals.{In_ok-check_tags, Else-pages-ne0, After-begin}

-- the tags fit
fits : (c : In_ok-check_tags) → tags_fit c.args.start.n (length c.args.tags.now) ≡ true
fits c = table_fits _ (sym c.in_ok-check_tags.ensures)

-- a page for each change
whole : (c : Else-pages-ne0) → length c.args.pages.now ≡ 4096 * c.args.count
whole c = omega (arith, c.if-pages-count.false, c.if-pages-ne0.false)

pub returns-in_err-check_tags : goal.returns-in_err-check_tags
returns-in_err-check_tags c =
    let x = c.args in
    let why = c.in_err-check_tags.field-0.0 in
    let gone : c.from_residual.result ≡ Err why = search rules in
    rw gone
    (begin_refused x.start.n x.tags.now x.marks.now x.log.now x.pages.now x.count x.start.log_start (search rules) (number_of why)
    (start_unfit x.start.n x.tags.now x.marks.now x.log.now x.pages.now x.count (number_of why) (sym c.in_err-check_tags.ensures)))

pub returns-then-pages-count : goal.returns-then-pages-count
returns-then-pages-count c =
    let x = c.args in
    begin_refused x.start.n x.tags.now x.marks.now x.log.now x.pages.now x.count x.start.log_start (search rules) 2
    (start_pages x.start.n x.tags.now x.marks.now x.log.now x.pages.now x.count (fits (goal.at.returns-then-pages-count c).In_ok-check_tags) (λ e. c.if-pages-count.true (omega (arith, e))))

pub returns-then-pages-ne0 : goal.returns-then-pages-ne0
returns-then-pages-ne0 c =
    let x = c.args in
    begin_refused x.start.n x.tags.now x.marks.now x.log.now x.pages.now x.count x.start.log_start (search rules) 2
    (start_pages x.start.n x.tags.now x.marks.now x.log.now x.pages.now x.count (fits (goal.at.returns-then-pages-ne0 c).In_ok-check_tags) (λ e. c.if-pages-ne0.true (omega (arith, e))))

pub returns-then-marks-tag_pages : goal.returns-then-marks-tag_pages
returns-then-marks-tag_pages c =
    let x = c.args in
    let at = goal.at.returns-then-marks-tag_pages c in
    begin_refused x.start.n x.tags.now x.marks.now x.log.now x.pages.now x.count x.start.log_start (search rules) 2
    (start_marks x.start.n x.tags.now x.marks.now x.log.now x.pages.now x.count (fits at.In_ok-check_tags) (whole at.Else-pages-ne0) (λ q. c.if-marks-tag_pages.true (q ∙ sym c.tag_pages.ensures)))

pub returns-in_err-begin : goal.returns-in_err-begin
returns-in_err-begin c =
    let x = c.args in
    let at = goal.at.returns-in_err-begin c in
    let why = c.in_err-begin.field-0.0 in
    let b = c.begin in
    let gone : c.from_residual-in_err-begin.result ≡ Err why = search rules in
    let h = sym c.in_err-begin.ensures.0 in
    let g =
    begin_refused x.start.n x.tags.now x.marks.now x.log.now x.pages.now x.count x.start.log_start b.ensures.2 (number_of why)
    (start_begin x.start.n x.tags.now x.marks.now x.log.now x.pages.now x.count (fits at.In_ok-check_tags) (whole at.Else-pages-ne0) (c.if-marks-tag_pages.false ∙ c.tag_pages.ensures) ∙ h) in
    rw gone (g.0, (ap (mem_of x.tags.now x.marks.now []) (b.ensures.1.1 ∙ begun_left x.log.now x.start.log_start (number_of why) h) ∙ g.1.0, g.1.1))

pub returns : goal.returns
returns c =
    let x = c.args in
    let at = goal.at.returns c in
    let b = c.begin in
    let f = fits at.In_ok-check_tags in
    let h = sym c.in_ok-begin.ensures.0 in
    begin_given x.start.n x.tags.now x.marks.now x.log.now x.pages.now x.count x.start.log_start b.ensures.2
    (state_of x.start.n c.hit_limit.result b.new.w c.full_tags.result) (mem_of x.tags.now c.zero_all.new.s [] b.new.log)
    (start_begin x.start.n x.tags.now x.marks.now x.log.now x.pages.now x.count f (whole at.Else-pages-ne0) (c.if-marks-tag_pages.false ∙ c.tag_pages.ensures) ∙ h)
    (ap (λ (y : Limit). state_of x.start.n y b.new.w c.full_tags.result) c.hit_limit.ensures
    ∙ ap₂ (state_of x.start.n hit_limit) (b.ensures.1.0 ∙ begun_open x.log.now x.start.log_start h)
    (c.full_tags.ensures ∙ ap (λ (y : Bool). cond y (count_of full x.tags.now x.start.n) 0) f)) (ap₂ (λ (u v : List ℕ). mem_of x.tags.now u [] v) c.zero_all.ensures b.ensures.1.1)
