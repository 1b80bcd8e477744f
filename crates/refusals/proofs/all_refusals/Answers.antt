-- The constant REFUSED is the refused schedules, and the questions of each come to its number: computed for the whole table at once.
-- Assumes nothing.
use mathlib.Core.Path.{refl}
use Rattle.laws.specs.Test.{within}
use Rattle.laws.specs.Below.{sum, count, fold}
use Rattle.laws.specs.Answer.{ask, and_then, ask_each}
use Rattle.sets.specs.Sets.{names}
use Rattle.schedule.specs.Schedule.{crashes_in}
use Rattle.schedule.specs.Questions.{tables_of, reach_right, entry_question, question}
use Rattle.refusals.proofs.all_refusals.Goals as goal

pub returns : goal.returns
unfolding within sum count fold ask and_then ask_each names crashes_in tables_of reach_right entry_question question
returns c =
    record { refused = record { entries = refl; numbers = refl } }
