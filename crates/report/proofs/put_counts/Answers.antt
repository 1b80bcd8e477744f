-- `put_counts` meets its contract: its six fields are written in order. Assumes nothing.
use Rattle.text.specs.Output.{counts_line}
use Rattle.buffer.proofs.Puts.{puts_more}
use Rattle.report.proofs.put_counts.Goals as goal

pub returns : goal.returns
unfolding counts_line
returns c =
    record {
      written = λ decisions rounds. puts_more _ _ c.put_field.ensures.written
          (puts_more _ _ c.put_field-2.ensures.written
          (puts_more _ _ c.put_field-3.ensures.written
          (puts_more _ _ c.put_field-4.ensures.written
          (puts_more _ _ c.put_field-5.ensures.written
          c.put_field-6.ensures.written))));
    }
