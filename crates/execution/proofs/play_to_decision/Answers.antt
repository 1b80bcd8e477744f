-- `play_to_decision` meets its contract: an accepted schedule leaves what `decide` gives (Searching.antt). Assumes nothing.
use Rattle.std.proofs.Common.{ap, ◌∙◌}
use Rattle.std.proofs.lemmas.Result.{err_from_is_err_and}
use mathlib.Core.Path.{subst}
use Rattle.laws.proofs.Refusals.{is_refused}
use Rattle.sets.specs.Largest.{largest}
use Rattle.schedule.specs.Schedule.{Schedule, schedule_lent}
use Rattle.schedule.specs.Questions.{question}
use Rattle.run.specs.Protocol.{fcwfa}
use Rattle.execution.specs.Decision.{FirstDecides}
use Rattle.execution.proofs.Searching.{first_decision}
use Rattle.execution.proofs.play_to_decision.Goals as goal

pub returns-in_err-schedule : goal.returns-in_err-schedule
returns-in_err-schedule c =
    let p = err_from_is_err_and c.from_residual.result c.from_residual.ensures.1 in
    let s = schedule_lent c.args.tables.now in
    record { decided = rw (p.1, p.2) (is_refused _ _ _ _ (c.in_err-schedule.ensures.asked ∙ ap (question s largest) c.no_answers.ensures.long)) }

pub returns : goal.returns
returns c =
    let s = schedule_lent c.args.tables.now in
    record {
      decided = first_decision fcwfa s (c.in_ok-schedule.ensures.asked ∙ ap (question s largest) c.no_answers.ensures.long) c.decide.result
          (subst (λ (x : Schedule). FirstDecides fcwfa x c.decide.result.round c.decide.result.member) c.in_ok-schedule.ensures.same c.decide.ensures.decided);
    }
