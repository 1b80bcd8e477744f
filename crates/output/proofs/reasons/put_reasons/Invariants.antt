-- `put_reasons` meets its contract: after i processes their lines are written. The number in each fits a byte, since the reason has one. Assumes nothing.
use Prim.Native.Nat.{ℕ, ◌<◌}
use Rattle.schedule.specs.Schedule.{schedule_lent}
use Rattle.run.specs.Why.{why_of}
use Rattle.text.specs.Output.{reason_lines}
use Rattle.buffer.specs.Puts.{Puts}
use Rattle.output.proofs.reasons.put_reasons.Given as goal

abbrev pub invariant-loop-i : goal.invariant-loop-i
invariant-loop-i l =
    let s = schedule_lent l.schedule.tables in
    Puts l.initial.out l.out (reason_lines l.i (why_of s)) × ((k : ℕ) → k < l.i → (why_of s k).number < 256)
