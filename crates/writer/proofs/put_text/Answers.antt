-- `put_text` meets its contract: headings and lines are written in order. Assumes nothing.
use Rattle.text.specs.Written.{sizes_line, text_of}
use Rattle.buffer.proofs.Puts.{puts_more}
use Rattle.writer.proofs.put_text.Goals as goal

pub returns : goal.returns
unfolding text_of sizes_line
returns c =
    record {
      written = puts_more _ _ c.put.ensures.written
          (puts_more _ _ (puts_more _ _ c.put_field.ensures.written c.put_field-2.ensures.written)
          (puts_more _ _ c.put-2.ensures.written c.put_processes.ensures.written));
    }
