-- Each test answers as the definition does. Assumes nothing.
use Rattle.std.proofs.Common.{rules, ◌≡◌, ℕ, length, sym, ◌∙◌}
use borrow.Author.Tests.{eqb-true, eqb-false}
use Rattle.answers.specs.Answers.{given, refused}
use Rattle.answers.specs.Refusals.{number_of}
use Rattle.ht_file.specs.Places.{image_fits}
use Rattle.ht_file.proofs.Laws.{table_fits}
use Rattle.recover.specs.Replay.{replay_tests}
use Rattle.recover.proofs.Replays.{replay_unfit, replay_empty, replay_started}
use Rattle.recover.proofs.check_replay.Goals as goal

pub returns-in_err-check_image : goal.returns-in_err-check_image
returns-in_err-check_image c =
    let a = c.args in
    let k : ℕ = number_of c.in_err-check_image.field-0.0 in
    let e = replay_unfit a.rule a.n a.image_len a.log.now a.want a.hashes k (sym c.in_err-check_image.ensures) in
    search rules

pub returns-then-is_empty : goal.returns-then-is_empty
returns-then-is_empty c =
    let a = c.args in
    replay_empty a.rule a.n a.image_len a.log.now a.want a.hashes (table_fits (image_fits a.n a.image_len) (sym c.in_ok-check_image.ensures)) (eqb-true (length a.log.now) 0 (sym c.if-is_empty.ensures))

pub returns-in_err-found : goal.returns-in_err-found
returns-in_err-found c =
    let a = c.args in
    let k : ℕ = number_of c.in_err-found.field-0.0 in
    let e : refused k ≡ replay_tests a.rule a.n a.image_len a.log.now a.want a.hashes =
    replay_started a.rule a.n a.image_len a.log.now a.want a.hashes (table_fits (image_fits a.n a.image_len) (sym c.in_ok-check_image.ensures)) (eqb-false (length a.log.now) 0 (sym c.if-is_empty.ensures)) (refused k) (sym c.in_err-found.ensures) in
    search rules

pub returns : goal.returns
returns c =
    let a = c.args in
    c.check_started.ensures
    ∙ replay_started a.rule a.n a.image_len a.log.now a.want a.hashes (table_fits (image_fits a.n a.image_len) (sym c.in_ok-check_image.ensures)) (eqb-false (length a.log.now) 0 (sym c.if-is_empty.ensures)) (given c.in_ok-found.found) (sym c.in_ok-found.ensures)
