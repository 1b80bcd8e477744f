-- What `explain` answers.
use Rattle.std.specs.Prelude.{ℕ, ◌-◌, ◌≡◌, Result, true}
use Rattle.laws.specs.Test.{within}
use Rattle.laws.specs.Answer.{ask, and_then, Answer, accepted, answer}
use Rattle.laws.specs.declared.question.Question.{Question}
use Rattle.laws.specs.Question.{answer_is}
use Rattle.sets.specs.Largest.{largest}
use Rattle.member.specs.declared.Reason.{Reason}
use Rattle.schedule.specs.Schedule.{Schedule}
use Rattle.schedule.specs.Questions.{question}
use Rattle.run.specs.Why.{why_of, WhyPromises}

-- A call with a schedule and a process number: `limit` is the largest n that is accepted.
module _ (limit : ℕ) (s : Schedule) (id : ℕ) where
  -- the questions of a schedule without answer tables; "Process number from 1 to n? 10, after number 7"
  unfoldable pub why_question : ℕ
  why_question = and_then (question s limit true) (ask (within 1 id s.n) 10 0)

  -- why the process decided, or the number of the first question whose answer is no
  unfoldable pub why_answer : Answer Reason (Unit {0})
  why_answer = answer why_question (why_of s (id - 1)) tt

-- What is promised of a reason, of the answer: wherever it is one.
pub record AnswerIsReason (s : Schedule) (id : ℕ) (r : Result Reason Question) : Type 0 where
  pub kept : (why : Reason) → answer_is r ≡ accepted why → WhyPromises s (id - 1) why

-- What the call promises of its answer.
pub record Explains (s : Schedule) (id : ℕ) (r : Result Reason Question) : Type 0 where
  pub answered : answer_is r ≡ why_answer largest s id
  pub promises : AnswerIsReason s id r
