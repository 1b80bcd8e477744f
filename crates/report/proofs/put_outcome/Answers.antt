-- `put_outcome` meets its contract: what is no decision is not written, and of any other the two lines are. Assumes nothing.
use mathlib.Core.Path.{sym}
use native.Mathlib.Omega.{arith}
use Rattle.text.specs.Output.{outcome_text}
use Rattle.buffer.proofs.Puts.{puts_none, puts_same, puts_more}
use Rattle.report.proofs.Decisions.{written_outcome_lem, no_outcome_written}
use Rattle.report.proofs.put_outcome.Goals as goal

pub returns-then-outcome-gt2 : goal.returns-then-outcome-gt2
returns-then-outcome-gt2 c =
    record { written = puts_same (no_outcome_written _ (omega arith)) (puts_none _) }

pub returns : goal.returns
unfolding outcome_text
returns c =
    record { written = puts_same (sym (written_outcome_lem _ (omega arith))) (puts_more _ _ c.put.ensures.written c.put_decided.ensures.written) }
