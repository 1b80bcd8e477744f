-- `explained` meets its contract: the heading and a line for each process are written into a buffer that is long enough. Assumes nothing.
use mathlib.Core.Bool.{true}
use borrow.Author.Rules.{rules}
use Rattle.sets.specs.Largest.{largest}
use Rattle.schedule.specs.Schedule.{schedule_lent}
use Rattle.text.specs.Output.{reasons_text}
use Rattle.buffer.proofs.Written.{writes_more}
use Rattle.output.proofs.Buffer.{written_output}
use Rattle.output.proofs.Lengths.{reasons_short}
use Rattle.output.proofs.Given.{n_small}
use Rattle.output.proofs.whole.explained.Goals as goal

pub returns : goal.returns
unfolding reasons_text
returns c =
    let a = c.args in
    let s = schedule_lent a.schedule.now.tables in
    let lines = c.put_reasons.ensures in
    let w = writes_more _ _ c.put_reasons_heading.ensures.written.writes lines.written.writes in
    record { output = written_output c.blank_output-bytes.ensures.zeros w (reasons_short _ _ (n_small s largest true a.schedule.now.accepted) lines.small) (search rules) }
