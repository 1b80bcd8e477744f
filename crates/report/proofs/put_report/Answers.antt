-- `put_report` meets its contract: tables that no run gives are not written, and of any others the lines are. Assumes nothing.
use native.Mathlib.Omega.{arith}
use Rattle.laws.proofs.Test.{was_false}
use Rattle.buffer.proofs.Puts.{puts_none, puts_same}
use Rattle.report.proofs.Decisions.{shown_lengths, shown_none}
use Rattle.report.proofs.put_report.Goals as goal

pub returns-then-decided-decisions : goal.returns-then-decided-decisions
returns-then-decided-decisions c =
    record { written = puts_same (shown_lengths _ _ _ _ (λ e. omega arith)) (puts_none _) }

pub returns-then-not-are_decisions : goal.returns-then-not-are_decisions
returns-then-not-are_decisions c =
    record { written = puts_same (shown_none _ _ _ _ (omega arith) (was_false c.are_decisions.ensures.tested c.if-not-are_decisions.true)) (puts_none _) }
