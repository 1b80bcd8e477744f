-- `crash_count` meets its contract: after i places the count is that of the crash rounds among the first i that are not 0, and as long as it is at most t
-- the loop goes on; once it is more, the process before place i is the one at which it ends. Assumes nothing.
use mathlib.Core.Path.{◌≡◌}
use mathlib.Core.Logic.{◌⊎◌}
use Prim.Native.Nat.{◌≤◌}
use Rattle.schedule.specs.Schedule.{crashes_in}
use Rattle.schedule.specs.Counting.{looked_at}
use Rattle.acceptance.proofs.crashes.crash_count.Given as goal

abbrev pub invariant-loop-i : goal.invariant-loop-i
invariant-loop-i l = (l.count ≡ crashes_in l.i l.crashes) × ((l.count ≤ l.t) ⊎ (l.i ≡ looked_at l.t l.crashes))
