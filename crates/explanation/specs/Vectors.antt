-- Calls of `explain` with their answers, written from documents 01 and 02 by hand, and the statement that covers them. Proved in proofs/Vectors.antt, by
-- computing what the definitions give: `explain_vectors : ExplainVectors`.
use Rattle.std.specs.Prelude.{ℕ, ◌≡◌, List, [], ◌∷◌, map}
use Rattle.laws.specs.Answer.{Answer, accepted, refused}
use Rattle.sets.specs.Largest.{largest}
use Rattle.member.specs.declared.Rule.{Rule}
use Rattle.member.specs.declared.Rule.TheVariants.{RoundT, LastRound, NoRule}
use Rattle.member.specs.declared.Reason.{Reason}
use Rattle.schedule.specs.Four.{four, all_one, all_zero, four_voting1}
use Rattle.schedule.specs.Schedule.{Schedule, schedule_of}
use Rattle.explanation.specs.Answers.{why_answer}

-- a schedule and a process number, and what `explain` answers for them
pub record ExplainCall : Type 0 where
  pub schedule : Schedule
  pub id : ℕ
  pub answer : Answer Reason (Unit {0})

abbrev pub because : Schedule → ℕ → Rule → ℕ → ExplainCall
because s id rule number = record { schedule = s; id = id; answer = accepted (record { rule = rule; number = number }) }

abbrev pub refuses : Schedule → ℕ → ℕ → ExplainCall
refuses s id number = record { schedule = s; id = id; answer = refused number tt }

-- cases D and E
abbrev pub case_d : Schedule
case_d = four_voting1 (four 1 0 0 0) (four 2 0 0 0)

abbrev pub case_e : Schedule
case_e = four_voting1 (four 1 3 0 2) (four 6 0 0 2)

abbrev pub explain_calls : List ExplainCall
explain_calls =
    -- the first and the last process of case D, and three of case E
    because case_d 1 NoRule 1 ∷
    because case_d 4 RoundT 3 ∷
    because case_e 2 NoRule 3 ∷
    because case_e 3 LastRound 0 ∷
    because case_e 4 NoRule 2 ∷
    -- "Process number from 1 to n? 10"
    refuses case_d 0 10 ∷
    refuses case_d 5 10 ∷
    -- "after number 7": with no such process too, n = 3, a table of crash rounds that is too short, and four crashes
    refuses (schedule_of 3 3 all_one all_zero all_zero) 4 1 ∷
    refuses (four_voting1 (0 ∷ 0 ∷ 0 ∷ []) all_zero) 0 3 ∷
    refuses (four_voting1 (four 1 1 1 1) all_zero) 5 7 ∷
    []

-- each of these calls has its answer
pub record ExplainVectors : Type 0 where
  pub answered : map (λ c. why_answer largest c.schedule c.id) explain_calls ≡ map (λ c. c.answer) explain_calls
