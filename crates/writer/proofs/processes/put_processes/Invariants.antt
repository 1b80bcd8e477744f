-- `put_processes` meets its contract: after i processes their lines are written. Assumes nothing.
use mathlib.Core.List.{List}
use Prim.Native.Nat.{ℕ}
use lib.ListN.{get_or}
use Rattle.schedule.specs.Schedule.{schedule_lent}
use Rattle.text.specs.Written.{each_line, process_line}
use Rattle.buffer.specs.Puts.{Puts}
use Rattle.writer.proofs.processes.put_processes.Given as goal

-- the lines of i processes
abbrev pub lines : ℕ → List ℕ → List ℕ → List ℕ → ℕ → List ℕ
lines n votes crashes reaches i = each_line i (λ k. process_line n k (get_or votes k 0) (get_or crashes k 0) (get_or reaches k 0))

abbrev pub invariant-loop-i : goal.invariant-loop-i
invariant-loop-i l =
    let s = schedule_lent l.schedule.tables in
    Puts l.initial.out l.out (lines s.n s.votes s.crashes s.reaches l.i)
