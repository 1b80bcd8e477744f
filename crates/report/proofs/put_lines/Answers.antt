-- `put_lines` meets its contract: headings and lines are written in order. Assumes nothing.
use Rattle.text.specs.Output.{report_text}
use Rattle.buffer.proofs.Puts.{puts_more}
use Rattle.report.proofs.put_lines.Goals as goal

pub returns : goal.returns
unfolding report_text
returns c =
    record {
      written = puts_more _ _ c.put.ensures.written
          (puts_more _ _ (c.put_counts.ensures.written _ _)
          (puts_more _ _ c.put-2.ensures.written c.put_decisions.ensures.written));
    }
