-- What `write` answers, and what the lent buffer holds after the call.
use Rattle.std.specs.Prelude.{ℕ, ◌≡◌, List, ◌++◌, true, length, drop, leb, Result}
use Rattle.laws.specs.Answer.{ask, and_then, Answer, answer, place_after}
use Rattle.laws.specs.Question.{answer_is}
use Rattle.laws.specs.declared.question.Question.{Question}
use Rattle.sets.specs.Largest.{largest}
use Rattle.schedule.specs.Schedule.{Schedule}
use Rattle.schedule.specs.Questions.{question}
use Rattle.text.specs.Written.{text_of}

-- A call with the tables of a schedule and a buffer: `limit` is the largest n that is accepted.
module _ (limit : ℕ) (s : Schedule) (buffer : List ℕ) where
  -- "The table questions come first; then, buffer long enough for the whole text? 18."
  unfoldable pub write_question : ℕ
  write_question = and_then (question s limit true) (ask (leb (length (text_of s)) (length buffer)) 18 0)

  -- it "answers the length used", or the number of the first question whose answer is no
  unfoldable pub write_answer : Answer ℕ (Unit {0})
  write_answer = answer write_question (length (text_of s)) tt

  -- The buffer after the call: the text, and "Bytes after that length keep their contents." A refused call changes none.
  abbrev pub buffer_after : List ℕ
  buffer_after = place_after write_question (text_of s ++ drop (length (text_of s)) buffer) buffer

-- What the call promises: of its answer, and of the buffer after it.
pub record WritesSchedule (s : Schedule) (buffer : List ℕ) (r : Result ℕ Question) (buffer_now : List ℕ) : Type 0 where
  pub answered : answer_is r ≡ write_answer largest s buffer
  pub text_written : buffer_now ≡ buffer_after largest s buffer
