-- `put_reason` meets its contract: its parts are written in the order of the line's definition. Assumes nothing.
use Rattle.text.specs.Output.{reason_line}
use Rattle.buffer.proofs.Puts.{puts_more}
use Rattle.report.proofs.reasons.put_reason.Goals as goal

pub returns : goal.returns
unfolding reason_line
returns c =
    record {
      written = puts_more _ _ c.put_field.ensures.written
          (puts_more _ _ c.put_word.ensures.written
          (puts_more _ _ c.put_byte.ensures.written
          c.put_number.ensures.written));
    }
