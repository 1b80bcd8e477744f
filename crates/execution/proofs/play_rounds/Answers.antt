-- `play_rounds` meets its contract: an accepted schedule leaves what `play` gives (Whole.antt). Assumes nothing.
use Rattle.std.proofs.Common.{ℕ, ◌+◌, sym}
use Rattle.std.specs.Prelude.{min}
use Rattle.std.proofs.lemmas.Result.{err_from_is_err_and}
use mathlib.Core.Path.{subst}
use native.Mathlib.Omega.{arith}
use Rattle.laws.proofs.Refusals.{is_refused}
use Rattle.sets.specs.Largest.{largest}
use Rattle.schedule.specs.Schedule.{Schedule, schedule_lent}
use Rattle.schedule.proofs.Accepted.{question_accepted}
use Rattle.run.specs.Protocol.{fcwfa}
use Rattle.execution.specs.Ran.{Plays}
use Rattle.execution.proofs.Whole.{accepted_leaves}
use Rattle.execution.proofs.play_rounds.Goals as goal

pub returns-in_err-schedule : goal.returns-in_err-schedule
returns-in_err-schedule c =
    let p = err_from_is_err_and c.from_residual.result c.from_residual.ensures.1 in
    record { ran = rw (p.1, p.2) (is_refused _ _ _ _ c.in_err-schedule.ensures.asked) }

pub overflow_add-tables : goal.overflow_add-tables
overflow_add-tables c =
    let ok = question_accepted (schedule_lent c.args.tables.now) largest _ (sym c.in_ok-schedule.ensures.asked) in
    let n_high = ok.n_high in
    let t_high = ok.rules.t_high in
    omega arith

pub returns : goal.returns
returns c =
    let s = schedule_lent c.args.tables.now in
    record {
      ran = let a = c.args in
          let of_tables = subst (λ (x : Schedule). Plays fcwfa x c.min-end.result c.play.result.members c.play.result.messages) c.in_ok-schedule.ensures.same c.play.ensures.played in
          accepted_leaves fcwfa s _ (min a.last (a.tables.now.t + 1)) c.in_ok-schedule.ensures.asked c.play.result
          (subst (λ (r : ℕ). Plays fcwfa s r c.play.result.members c.play.result.messages) c.min-end.ensures of_tables);
    }
