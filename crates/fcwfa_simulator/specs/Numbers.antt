-- What the simulator gives as numbers: 0 or the number of a refusal, four counts, and two tables; and what a count of crashes gives: two numbers.
use Rattle.std.specs.Prelude.{ℕ, ◌≡◌, List, [], ◌∷◌, length, get_or}
use Rattle.laws.specs.Answer.{place_after}
use Rattle.sets.specs.Largest.{largest}
use Rattle.schedule.specs.Schedule.{Schedule}
use Rattle.schedule.specs.Counting.{looked_at, crashes_counted}
use Rattle.run.specs.Protocol.{fcwfa}
use Rattle.run.specs.Report.{report}
use Rattle.run.specs.Given.{GivenPromises}
use Rattle.simulator.specs.declared.Counts.{Counts}
use Rattle.simulator.specs.Answers.{counts_of, simulate_question, decisions_after, rounds_after, given_by}

-- the counts as four numbers, "f; last ..; first ..; messages", in the order of the report's heading: f, first, last, messages
abbrev pub counts_numbers : Counts → List ℕ
counts_numbers counts = counts.f ∷ counts.first ∷ counts.last ∷ counts.messages ∷ []

-- the counts that stand in four numbers
abbrev pub counts_in : List ℕ → Counts
counts_in numbers = record { f = get_or numbers 0 0; first = get_or numbers 1 0; last = get_or numbers 2 0; messages = get_or numbers 3 0 }

-- What holds of the counts and their numbers. Proved in proofs/Counts.antt: `counts_numbers_lem : CountsNumbers`.
pub record CountsNumbers : Type 0 where
  -- the counts are read back from their numbers, and any four numbers are those of the counts that stand in them
  pub reads_back : (counts : Counts) → counts_in (counts_numbers counts) ≡ counts
  pub written : (numbers : List ℕ) → length numbers ≡ 4 → counts_numbers (counts_in numbers) ≡ numbers
  -- in the heading's order, "f first last messages": those of case D
  pub in_order : counts_numbers (record { f = 1; first = 2; last = 3; messages = 37 }) ≡ 1 ∷ 2 ∷ 3 ∷ 37 ∷ []

-- What is promised of what is given, of the numbers: wherever the call answers 0, with the counts and the two tables after the call.
pub record NumbersKeepPromises (s : Schedule) (number : ℕ) (counts decisions rounds : List ℕ) : Type 0 where
  pub kept : number ≡ 0 → GivenPromises s (given_by (counts_in counts) decisions rounds)

-- What the call promises of a schedule, the two answer tables and the place for the counts that it is lent: of the number that it answers, and of what
-- stands in them after it.
pub record SimulatesNumbers (s : Schedule) (decisions rounds counts : List ℕ) (number : ℕ) (decisions_now rounds_now counts_now : List ℕ) : Type 0 where
  pub number_is : number ≡ simulate_question largest s decisions rounds
  pub decisions_given : decisions_now ≡ decisions_after fcwfa largest s decisions rounds
  pub rounds_given : rounds_now ≡ rounds_after fcwfa largest s decisions rounds
  pub counts_given : counts_now ≡ place_after (simulate_question largest s decisions rounds) (counts_numbers (counts_of (report fcwfa s))) counts
  pub promises : NumbersKeepPromises s number counts_now decisions_now rounds_now

-- "answer, beside the count, the number of the last process it looked at": of t and a table of crash rounds
abbrev pub counted_numbers : ℕ → List ℕ → List ℕ
counted_numbers t crashes = crashes_counted t crashes ∷ looked_at t crashes ∷ []

-- What holds of them. Proved in proofs/Counts.antt: `counted_numbers_lem : CountedNumbers`.
pub record CountedNumbers : Type 0 where
  -- the count first: with t = 1 it ends at the second crash, that of process 3
  pub in_order : counted_numbers 1 (1 ∷ 0 ∷ 2 ∷ 3 ∷ []) ≡ 2 ∷ 3 ∷ []
