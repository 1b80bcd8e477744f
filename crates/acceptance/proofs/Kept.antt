-- What an accepted schedule keeps, as a value that says that it is accepted. Assumes nothing.
use mathlib.Core.Bool.{true}
use Rattle.sets.specs.Largest.{largest}
use Rattle.schedule.specs.Schedule.{schedule_lent}
use Rattle.schedule.specs.Questions.{Accepted as Keeps}
use Rattle.schedule.proofs.Accepted.{question_accepted}
use Rattle.acceptance.specs.declared.accepted.Accepted.{Accepted}

pub kept : (schedule : Accepted) → Keeps (schedule_lent schedule.tables) largest true
kept schedule = question_accepted (schedule_lent schedule.tables) largest true schedule.accepted
