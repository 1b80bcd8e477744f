-- `play_on` meets its contract: each turn plays one round (AllRounds.antt), and after a round in which nothing is sent nothing happens any more. Assumes
-- nothing.
use mathlib.Core.Path.{◌≡◌}
use lib.ListN.{length}
use Rattle.schedule.specs.Schedule.{schedule_lent}
use Rattle.execution.specs.Calls.{calls}
use Rattle.execution.proofs.AllRounds.{Between, Counted}
use Rattle.execution.proofs.play.play_on.Given as goal

abbrev pub invariant-loop-played : goal.invariant-loop-played
invariant-loop-played l =
    Between calls (schedule_lent l.schedule.tables) l.grid l.codes l.members l.played
    × Counted calls (schedule_lent l.schedule.tables) l.last l.messages l.played
    × (length l.grid ≡ length l.initial.grid)
