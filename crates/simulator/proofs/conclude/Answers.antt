-- `conclude` meets its contract: a refused schedule has no outcome, and an accepted one that of the process that was found (Conclusion.antt). Assumes nothing.
use Rattle.std.proofs.lemmas.Result.{err_from_is_err_and}
use Rattle.laws.proofs.Answer.{refused_is}
use Rattle.simulator.proofs.Conclusion.{refused_concludes, decided_concludes}
use Rattle.simulator.proofs.conclude.Goals as goal

pub returns-in_err-first : goal.returns-in_err-first
returns-in_err-first c =
    let p = err_from_is_err_and c.from_residual.result c.from_residual.ensures.1 in
    record { concluded = rw (p.1, p.2) (refused_concludes _ _ (refused_is _ _ tt c.in_err-first.ensures.decided).0) }

pub returns : goal.returns
returns c =
    record { concluded = decided_concludes _ c.in_ok-first.ensures.decided c.decision.ensures.is }
