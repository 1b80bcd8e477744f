-- The calls of specs/Vectors.antt: what the definitions answer and leave is computed, for all at once. Assumes nothing.
use mathlib.Core.Path.{refl}
use Rattle.laws.specs.Test.{within}
use Rattle.laws.specs.Below.{sum, count, tabulate, fold}
use Rattle.laws.specs.Answer.{ask, and_then, ask_each, answer, place_after}
use Rattle.fields.specs.Decimal.{decimal_in, decimal, field}
use Rattle.sets.specs.Sets.{names}
use Rattle.schedule.specs.Schedule.{crashes_in}
use Rattle.schedule.specs.Questions.{tables_of, reach_right, entry_question, question}
use Rattle.text.specs.Written.{each_line, sizes_line, letters_of, process_line, process_lines, text_of}
use Rattle.writer.specs.Answers.{write_question, write_answer}
use Rattle.writer.specs.Vectors.{WriterVectors, WritingCases}

pub writer_vectors : WriterVectors
unfolding within sum count tabulate fold ask and_then ask_each answer place_after decimal_in decimal field names crashes_in tables_of reach_right entry_question question each_line sizes_line letters_of process_line process_lines text_of write_question write_answer
writer_vectors = record { answered = refl; left = refl }

pub writing_cases : WritingCases
writing_cases = record { wrote = refl; not_written = refl }
