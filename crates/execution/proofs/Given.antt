-- What an accepted schedule tells of its sizes and of its run. Assumes nothing.
use mathlib.Core.Bool.{true}
use Prim.Native.Nat.{◌+◌, ◌≤◌}
use native.Mathlib.Omega.{arith}
use Rattle.sets.specs.Largest.{largest}
use Rattle.acceptance.specs.declared.accepted.Accepted.{Accepted}
use Rattle.schedule.specs.Schedule.{Schedule, schedule_lent}
use Rattle.acceptance.proofs.Kept.{kept}
use Rattle.run.specs.Facts.{RunPromises}
use Rattle.run.proofs.Theorem.{accepted_run}

module _ (schedule : Accepted) where
  abbrev pub given : Schedule
  given = schedule_lent schedule.tables

  pub promises : RunPromises largest given
  promises = accepted_run given largest true schedule.accepted

  -- t is below n, so there are no more rounds than a set has bits
  pub rounds_few : given.t + 1 ≤ largest
  rounds_few =
      let n_high = (kept schedule).n_high in
      let t_high = (kept schedule).rules.t_high in
      omega arith
