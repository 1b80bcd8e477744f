-- `decide_on` meets its contract: each turn plays one round (AllRounds.antt) and looks for a process that is decided after it (Searching.antt). Assumes
-- nothing.
use Prim.Native.Nat.{◌+◌, ◌-◌}
use mathlib.Core.Path.{◌≡◌}
use lib.ListN.{length}
use Rattle.schedule.specs.Schedule.{schedule_lent}
use Rattle.execution.specs.Calls.{calls}
use Rattle.execution.proofs.AllRounds.{Between}
use Rattle.execution.proofs.Searching.{Searched}
use Rattle.execution.proofs.decision.decide_on.Given as goal

abbrev pub invariant-loop-place : goal.invariant-loop-place
invariant-loop-place l =
    Between calls (schedule_lent l.schedule.tables) l.grid l.codes l.members l.played
    × Searched (schedule_lent l.schedule.tables) l.place l.played
    × (length l.grid ≡ length l.initial.grid)

abbrev pub decreases-loop-place : goal.decreases-loop-place
decreases-loop-place l = (l.schedule.tables.t + 1) - l.played
