-- `put_refusal` meets its contract: its parts are written in order. Assumes nothing.
use Rattle.text.specs.Output.{refusal_text}
use Rattle.buffer.proofs.Puts.{puts_more}
use Rattle.report.proofs.put_refusal.Goals as goal

pub returns : goal.returns
unfolding refusal_text
returns c =
    record {
      written = puts_more _ _ c.put.ensures.written
          (puts_more _ _ c.put_field.ensures.written
          (puts_more _ _ c.put_field-2.ensures.written
          (puts_more _ _ c.put-2.ensures.written
          c.put_byte.ensures.written)));
    }
