-- Calls of the simulator with their answers and the tables after them, written from documents 01 and 02 by hand, and the statements that cover them. Proved
-- in proofs/Vectors.antt, by computing what the definitions give: `simulator_vectors : SimulatorVectors` and `simulated_cases`,
-- `outcome_vectors_lem : OutcomeVectors` and `concluded_cases`.
use Rattle.std.specs.Prelude.{ℕ, ◌≡◌, List, [], ◌∷◌, map, Ok, Err}
use Rattle.laws.specs.Answer.{Answer, accepted, refused}
use Rattle.laws.specs.declared.question.Question.TheVariants.{Crashes}
use Rattle.laws.specs.Question.{answer_is}
use Rattle.sets.specs.Largest.{largest}
use Rattle.schedule.specs.Four.{four, all_one, all_zero, four_voting1}
use Rattle.schedule.specs.Schedule.{Schedule, schedule_of}
use Rattle.run.specs.Protocol.{fcwfa}
use Rattle.simulator.specs.declared.Counts.{Counts}
use Rattle.simulator.specs.declared.Outcome.{Outcome}
use Rattle.simulator.specs.Answers.{counts_of, simulate_answer, decisions_after, rounds_after, given_by, outcome_answer}

-- a schedule and the two answer tables lent with it; the answer, and the tables after the call
pub record SimulateCall : Type 0 where
  pub schedule : Schedule
  pub decisions : List ℕ
  pub rounds : List ℕ
  pub answer : Answer Counts (Unit {0})
  pub decisions_now : List ℕ
  pub rounds_now : List ℕ

-- "Nothing lent is changed": a refusal with its number
abbrev pub refuses : Schedule → List ℕ → List ℕ → ℕ → SimulateCall
refuses s decisions rounds number = record {
  schedule = s;
  decisions = decisions;
  rounds = rounds;
  answer = refused number tt;
  decisions_now = decisions;
  rounds_now = rounds;
}

-- tables that hold 7 and 8 throughout
abbrev pub sevens : List ℕ
sevens = four 7 7 7 7

abbrev pub eights : List ℕ
eights = four 8 8 8 8

abbrev pub calls : List SimulateCall
calls =
    -- case D: f is 1, first 2, last 3, and "case D 37" messages; "decision 0, 1 or 2 (none), and its round, 0 for none"
    record {
      schedule = four_voting1 (four 1 0 0 0) (four 2 0 0 0);
      decisions = sevens;
      rounds = eights;
      answer = accepted (record { f = 1; first = 2; last = 3; messages = 37 });
      decisions_now = four 2 0 0 0;
      rounds_now = four 0 3 3 3;
    } ∷
    -- "two answer tables n long? 3": one too short, one too long
    refuses (four_voting1 all_zero all_zero) (7 ∷ 7 ∷ 7 ∷ []) eights 3 ∷
    refuses (four_voting1 all_zero all_zero) sevens (8 ∷ 8 ∷ 8 ∷ 8 ∷ 8 ∷ []) 3 ∷
    -- four crashes
    refuses (four_voting1 (four 1 1 1 1) all_zero) sevens eights 7 ∷
    []

-- each of these calls has its answer, and leaves its tables
pub record SimulatorVectors : Type 0 where
  pub answered : map (λ c. simulate_answer fcwfa largest c.schedule c.decisions c.rounds) calls ≡ map (λ c. c.answer) calls
  pub decided : map (λ c. decisions_after fcwfa largest c.schedule c.decisions c.rounds) calls ≡ map (λ c. c.decisions_now) calls
  pub timed : map (λ c. rounds_after fcwfa largest c.schedule c.decisions c.rounds) calls ≡ map (λ c. c.rounds_now) calls

-- What each case of the answer stands for, and the report that counts and tables make: its values are not exchanged.
pub record SimulatedCases (counts : Counts) (decisions rounds : List ℕ) : Type 0 where
  pub completed : answer_is (Ok counts) ≡ accepted counts
  pub not_run : answer_is {A = Counts} (Err Crashes) ≡ refused 7 tt
  pub given_counts : counts_of (given_by counts decisions rounds) ≡ counts
  pub given_decisions : (given_by counts decisions rounds).decisions ≡ decisions
  pub given_rounds : (given_by counts decisions rounds).rounds ≡ rounds

-- A schedule, and what `conclude` answers for it.
pub record OutcomeCall : Type 0 where
  pub schedule : Schedule
  pub answer : Answer Outcome (Unit {0})

abbrev pub outcome_calls : List OutcomeCall
outcome_calls =
    -- case D, in which processes 2 to 4 decide 0 in round 3, and case E, in which process 3 alone decides, 1 in round 4
    record { schedule = four_voting1 (four 1 0 0 0) (four 2 0 0 0); answer = accepted (record { decision = 0; round = 3 }) } ∷
    record { schedule = four_voting1 (four 1 3 0 2) (four 6 0 0 2); answer = accepted (record { decision = 1; round = 4 }) } ∷
    -- "n from 4 to 32? 1", to 64 by K11; a table of crash rounds that is too short; and four crashes
    record { schedule = schedule_of 3 3 all_one all_zero all_zero; answer = refused 1 tt } ∷
    record { schedule = four_voting1 (0 ∷ 0 ∷ 0 ∷ []) all_zero; answer = refused 3 tt } ∷
    record { schedule = four_voting1 (four 1 1 1 1) all_zero; answer = refused 7 tt } ∷
    []

abbrev pub OutcomeVectors : Type 0
OutcomeVectors = map (λ c. outcome_answer fcwfa largest c.schedule) outcome_calls ≡ map (λ c. c.answer) outcome_calls

-- What each case of the answer stands for.
pub record ConcludedCases (outcome : Outcome) : Type 0 where
  pub decided : answer_is (Ok outcome) ≡ accepted outcome
  pub not_played : answer_is {A = Outcome} (Err Crashes) ≡ refused 7 tt
