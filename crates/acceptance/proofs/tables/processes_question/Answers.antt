-- `processes_question` meets its contract: it ends at the first process with a question whose answer is no. Assumes nothing.
use Rattle.std.proofs.Common.{sym, refl, ◌∙◌}
use Rattle.std.proofs.lemmas.Result.{err_from_is_err_and}
use native.Mathlib.Omega.{arith}
use Rattle.laws.specs.Below.{fold}
use Rattle.laws.specs.Answer.{ask_each}
use Rattle.laws.proofs.Answer.{ask_each_step, ask_each_refused, and_then_passes}
use Rattle.laws.proofs.Refusals.{not_zero}
use Rattle.schedule.specs.Schedule.{schedule_lent}
use Rattle.schedule.specs.Questions.{process_question}
use Rattle.acceptance.proofs.tables.processes_question.Goals as goal

pub loop-i-init : goal.loop-i-init
unfolding ask_each fold
loop-i-init c = refl

pub returns-in_err-process_question : goal.returns-in_err-process_question
returns-in_err-process_question c =
    let p = err_from_is_err_and c.from_residual.result c.from_residual.ensures.1 in
    let s = schedule_lent c.args.tables.now in
    record { asked = rw (p.1, p.2) (ask_each_refused s.n (process_question s) _ (not_zero _) c.loop-i.i (omega arith) c.loop-i.invariant c.in_err-process_question.ensures.asked) }

pub loop-i-preserved : goal.loop-i-preserved
loop-i-preserved c =
    let s = schedule_lent c.args.tables.now in
    sym (ask_each_step c.loop-i.i (process_question s) ∙ and_then_passes _ _ (sym c.loop-i.invariant) (sym c.in_ok-process_question.ensures.asked))
