-- The calls of specs/Vectors.antt: what the definitions answer and leave is computed, for all at once. Assumes nothing.
use mathlib.Core.Path.{refl}
use Rattle.laws.specs.Test.{within}
use Rattle.laws.specs.Below.{sum, count, tabulate, fold}
use Rattle.laws.specs.Answer.{ask, answer, and_next, next_each}
use Rattle.lines.specs.Lines.{line_length, after_line, after_lines}
use Rattle.fields.specs.Found.{then_read}
use Rattle.fields.specs.Decimal.{is_digit}
use Rattle.fields.specs.Fields.{starts_with, has_byte, ended, number_field, digit_field, reach_field}
use Rattle.sets.specs.Sets.{names}
use Rattle.schedule.specs.Schedule.{crashes_in}
use Rattle.schedule.specs.Questions.{reach_right, entry_question, tables_of}
use Rattle.text.specs.Forms.{sizes_at, entry_at}
use Rattle.text.specs.Reading.{on_line, schedule_in, entry_questions, head_questions, tail_questions, rest_questions, text_questions}
use Rattle.reader.specs.Answers.{read_questions, read_answer, table_after}
use Rattle.reader.specs.Vectors.{ReaderVectors}

pub reader_vectors : ReaderVectors
unfolding within sum count tabulate fold ask answer and_next next_each line_length after_line after_lines then_read is_digit starts_with has_byte ended number_field digit_field reach_field names crashes_in reach_right entry_question tables_of sizes_at entry_at on_line schedule_in entry_questions head_questions tail_questions rest_questions text_questions read_questions read_answer table_after
reader_vectors = record { answered = refl; left = refl }
