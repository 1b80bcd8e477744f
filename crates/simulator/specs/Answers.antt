-- What `simulate` answers, and what the two answer tables hold after the call; and what `conclude` answers.
use Rattle.std.specs.Prelude.{ℕ, ◌≡◌, List, Result, true, length}
use Rattle.laws.specs.Answer.{Answer, accepted, answer, place_after}
use Rattle.laws.specs.declared.question.Question.{Question}
use Rattle.laws.specs.Question.{answer_is}
use Rattle.sets.specs.Largest.{largest}
use Rattle.schedule.specs.Schedule.{Schedule}
use Rattle.schedule.specs.Questions.{answers_of, question}
use Rattle.run.specs.Protocol.{Protocol, fcwfa}
use Rattle.run.specs.Report.{Report, report}
use Rattle.run.specs.Given.{GivenPromises}
use Rattle.run.specs.Outcome.{outcome_round, outcome_decision, OutcomePromises}
use Rattle.simulator.specs.declared.Counts.{Counts}
use Rattle.simulator.specs.declared.Outcome.{Outcome}

-- `tt` stands for nothing: a refusal gives its number only.

-- the counts of a report
abbrev pub counts_of : Report → Counts
counts_of given = record { f = given.f; first = given.first; last = given.last; messages = given.messages }

-- A call with a schedule and two answer tables: `limit` is the largest n that is accepted.

-- the number of its first question whose answer is no, or 0
abbrev pub simulate_question : ℕ → Schedule → List ℕ → List ℕ → ℕ
simulate_question limit s decisions rounds = question s limit (answers_of s.n (length decisions) (length rounds))

-- of a run under any protocol
module _ (P : Protocol) (limit : ℕ) (s : Schedule) (decisions rounds : List ℕ) where
  unfoldable pub simulate_answer : Answer Counts (Unit {0})
  simulate_answer = answer (simulate_question limit s decisions rounds) (counts_of (report P s)) tt

  -- the tables after the call: what is given for each, or as it was lent if the call is refused
  abbrev pub decisions_after : List ℕ
  decisions_after = place_after (simulate_question limit s decisions rounds) (report P s).decisions decisions

  abbrev pub rounds_after : List ℕ
  rounds_after = place_after (simulate_question limit s decisions rounds) (report P s).rounds rounds

-- what the call gave, as a report: its counts, and the two tables after it
abbrev pub given_by : Counts → List ℕ → List ℕ → Report
given_by counts decisions rounds = record {
  f = counts.f;
  first = counts.first;
  last = counts.last;
  messages = counts.messages;
  decisions = decisions;
  rounds = rounds;
}

-- What is promised of what is given, of the answers: wherever the answer is one of counts, with those counts and the two tables after the call.
pub record AnswersKeepPromises (s : Schedule) (r : Result Counts Question) (decisions rounds : List ℕ) : Type 0 where
  pub kept : (counts : Counts) → answer_is r ≡ accepted counts → GivenPromises s (given_by counts decisions rounds)

-- What the call promises: of its answer, and of the two tables after it.
pub record Simulates (s : Schedule) (decisions rounds : List ℕ) (r : Result Counts Question) (decisions_now rounds_now : List ℕ) : Type 0 where
  pub answered : answer_is r ≡ simulate_answer fcwfa largest s decisions rounds
  pub decisions_given : decisions_now ≡ decisions_after fcwfa largest s decisions rounds
  pub rounds_given : rounds_now ≡ rounds_after fcwfa largest s decisions rounds
  pub promises : AnswersKeepPromises s r decisions_now rounds_now

-- "answers that value and round"
abbrev pub outcome_of : Protocol → Schedule → Outcome
outcome_of P s = record { decision = outcome_decision P s; round = outcome_round P s }

-- A call with a schedule alone: its questions are those of a schedule without answer tables.
unfoldable pub outcome_answer : Protocol → ℕ → Schedule → Answer Outcome (Unit {0})
outcome_answer P limit s = answer (question s limit true) (outcome_of P s) tt

-- What is promised of an outcome, of the answer: wherever it is one.
pub record AnswerIsOutcome (s : Schedule) (r : Result Outcome Question) : Type 0 where
  pub kept : (outcome : Outcome) → answer_is r ≡ accepted outcome → OutcomePromises s outcome.decision outcome.round

-- What the call promises of its answer.
pub record Concludes (s : Schedule) (r : Result Outcome Question) : Type 0 where
  pub answered : answer_is r ≡ outcome_answer fcwfa largest s
  pub promises : AnswerIsOutcome s r
