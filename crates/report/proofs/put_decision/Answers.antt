-- `put_decision` meets its contract: its parts are written in the order of the line's definition. Assumes nothing.
use Rattle.text.specs.Output.{decision_line}
use Rattle.buffer.proofs.Puts.{puts_more}
use Rattle.report.proofs.put_decision.Goals as goal

pub returns : goal.returns
unfolding decision_line
returns c =
    record { written = puts_more _ _ c.put_field.ensures.written c.put_decided.ensures.written }
