-- What `read` answers, and what the three lent tables hold after the call.
use Rattle.std.specs.Prelude.{ℕ, ◌≡◌, List, ◌++◌, length, drop, Result}
use Rattle.laws.specs.Answer.{ask, Answer, accepted, refused, and_next}
use Rattle.laws.specs.declared.question.Refused.{Refused}
use Rattle.laws.specs.Question.{answer_with_is}
use Rattle.sets.specs.Largest.{largest}
use Rattle.schedule.specs.Questions.{tables_of}
use Rattle.text.specs.declared.Sizes.{Sizes}
use Rattle.text.specs.Reading.{longest, on_line, sizes_in, schedule_in, text_questions}

-- what is given if every question is answered by yes, or else what is kept
abbrev pub given_or : {A B : Type 0} → Answer (Unit {0}) B → A → A → A
given_or (accepted _) given kept = given
given_or (refused number line) given kept = kept

-- a lent table whose first entries are those that were read
abbrev pub filled : List ℕ → List ℕ → List ℕ
filled read lent = read ++ drop (length read) lent

-- A call with a text and three tables: `limit` is the largest n that is accepted and the tables' size, `most` how many bytes a text may have.
module _ (limit most : ℕ) (text votes crashes reaches : List ℕ) where
  -- "Text: three tables of 32? 3, line 0.", with the limit for 32, and then the questions of the text
  unfoldable pub read_questions : Answer (Unit {0}) ℕ
  read_questions = and_next (on_line 0 (ask (tables_of limit (length votes) (length crashes) (length reaches)) 3 0)) (text_questions text limit most)

  -- n and t, or the number and the line of the first question whose answer is no
  unfoldable pub read_answer : Answer Sizes ℕ
  read_answer = and_next read_questions (accepted (sizes_in text))

  -- A table after the call: "The reader fills three lent tables .. and leaves entries above n unchanged." A refused text changes none.
  unfoldable pub table_after : List ℕ → List ℕ → List ℕ
  table_after read lent = given_or read_questions (filled read lent) lent

  abbrev pub votes_after : List ℕ
  votes_after = table_after (schedule_in text).votes votes

  abbrev pub crashes_after : List ℕ
  crashes_after = table_after (schedule_in text).crashes crashes

  abbrev pub reaches_after : List ℕ
  reaches_after = table_after (schedule_in text).reaches reaches

-- What the call promises: of its answer, and of the three tables after it.
pub record Reads (text votes crashes reaches : List ℕ) (r : Result Sizes (Refused ℕ)) (votes_now crashes_now reaches_now : List ℕ) : Type 0 where
  pub answered : answer_with_is r ≡ read_answer largest longest text votes crashes reaches
  pub votes_read : votes_now ≡ votes_after largest longest text votes crashes reaches
  pub crashes_read : crashes_now ≡ crashes_after largest longest text votes crashes reaches
  pub reaches_read : reaches_now ≡ reaches_after largest longest text votes crashes reaches
