-- `put_process` meets its contract: its parts are written in the order of the line's definition. Assumes nothing.
use native.Mathlib.Omega.{arith}
use Rattle.acceptance.proofs.Kept.{kept}
use Rattle.text.specs.Written.{process_line}
use Rattle.buffer.proofs.Puts.{puts_more}
use Rattle.writer.proofs.processes.put_process.Goals as goal

pub overflow_add-i : goal.overflow_add-i
overflow_add-i c =
    omega (arith, c.requires.process, (kept c.args.schedule.now).n_high)

pub bounds-tables-i : goal.bounds-tables-i
bounds-tables-i c =
    omega (arith, c.requires.process, (kept c.args.schedule.now).votes_long)

pub bounds-tables-i-2 : goal.bounds-tables-i-2
bounds-tables-i-2 c =
    omega (arith, c.requires.process, (kept c.args.schedule.now).crashes_long)

pub offset_bounds-tables-i : goal.offset_bounds-tables-i
offset_bounds-tables-i c =
    omega (arith, c.requires.process, (kept c.args.schedule.now).n_high)

pub bounds-tables-i-3 : goal.bounds-tables-i-3
bounds-tables-i-3 c =
    omega (arith, c.requires.process, (kept c.args.schedule.now).reaches_long)

pub returns : goal.returns
unfolding process_line
returns c =
    record {
      written = puts_more _ _ c.put_field.ensures.written
          (puts_more _ _ c.put_field-2.ensures.written
          (puts_more _ _ c.put_field-3.ensures.written (puts_more _ _ c.put_letters.ensures.written c.put_byte.ensures.written)));
    }
