-- The schedules and tables of specs/Vectors.antt: what their questions and counts come to is computed, for all at once. Assumes nothing.
use mathlib.Core.Path.{refl}
use Rattle.laws.specs.Test.{within}
use Rattle.laws.specs.Below.{sum, count, least, fold}
use Rattle.laws.specs.Answer.{ask, and_then, ask_each}
use Rattle.sets.specs.Sets.{names}
use Rattle.schedule.specs.Schedule.{crashes_in}
use Rattle.schedule.specs.Questions.{reach_right, entry_question, tables_of, answers_of, question}
use Rattle.schedule.specs.Counting.{looked_at, crashes_counted}
use Rattle.schedule.specs.Vectors.{ScheduleVectors, CountVectors}

pub schedule_vectors : ScheduleVectors
unfolding within sum count fold ask and_then ask_each names crashes_in reach_right entry_question tables_of answers_of question
schedule_vectors = refl

pub count_vectors_lem : CountVectors
unfolding sum count least crashes_in looked_at crashes_counted
count_vectors_lem = record { counts = refl; looks_at = refl }
