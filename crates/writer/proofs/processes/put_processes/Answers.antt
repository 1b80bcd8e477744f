-- `put_processes` meets its contract: after i processes their lines are written. Assumes nothing.
use mathlib.Core.Path.{ap}
use native.Mathlib.Omega.{arith}
use Rattle.schedule.specs.Schedule.{schedule_lent}
use Rattle.text.specs.Written.{process_lines}
use Rattle.text.proofs.Lines.{no_lines, one_more_line}
use Rattle.buffer.proofs.Puts.{puts_none, puts_same, puts_more}
use Rattle.writer.proofs.processes.put_processes.Invariants.{lines}
use Rattle.writer.proofs.processes.put_processes.Goals as goal

pub loop-i-init : goal.loop-i-init
loop-i-init c =
    puts_same (no_lines _) (puts_none _)

pub loop-i-preserved : goal.loop-i-preserved
loop-i-preserved c =
    puts_same (one_more_line _ c.loop-i.i) (puts_more _ _ c.loop-i.invariant c.put_process.ensures.written)

pub returns : goal.returns
unfolding process_lines
returns c =
    record {
      written = let s = schedule_lent c.args.schedule.now.tables in
          let all = ap (lines s.n s.votes s.crashes s.reaches) {x = c.loop-i.i} {y = s.n} (omega arith) in
          puts_same all c.loop-i.invariant;
    }
