-- What an outcome gives as numbers: 0 or the number of a refusal, the value and the round.
use Rattle.std.specs.Prelude.{ℕ, ◌≡◌, List, [], ◌∷◌, true, get_or}
use Rattle.laws.specs.Answer.{place_after}
use Rattle.sets.specs.Largest.{largest}
use Rattle.schedule.specs.Schedule.{Schedule}
use Rattle.schedule.specs.Questions.{question}
use Rattle.run.specs.Protocol.{fcwfa}
use Rattle.run.specs.Outcome.{OutcomePromises}
use Rattle.simulator.specs.declared.Outcome.{Outcome}
use Rattle.simulator.specs.Answers.{outcome_of}

-- "answers that value and round": an outcome as two numbers
abbrev pub outcome_numbers : Outcome → List ℕ
outcome_numbers outcome = outcome.decision ∷ outcome.round ∷ []

-- What holds of them. Proved in proofs/Given.antt: `outcome_numbers_lem : OutcomeNumbers`.
pub record OutcomeNumbers : Type 0 where
  -- the value first: that of case D
  pub in_order : outcome_numbers (record { decision = 0; round = 3 }) ≡ 0 ∷ 3 ∷ []

-- What is promised of an outcome, of the numbers: wherever the call answers 0, with the two numbers after the call.
pub record NumbersAreOutcome (s : Schedule) (number : ℕ) (outcome : List ℕ) : Type 0 where
  pub kept : number ≡ 0 → OutcomePromises s (get_or outcome 0 0) (get_or outcome 1 0)

-- What the call promises of a schedule and the place for the outcome that it is lent: of the number that it answers, and of what stands in it after it.
pub record ConcludesNumbers (s : Schedule) (outcome : List ℕ) (number : ℕ) (outcome_now : List ℕ) : Type 0 where
  pub number_is : number ≡ question s largest true
  pub outcome_given : outcome_now ≡ place_after (question s largest true) (outcome_numbers (outcome_of fcwfa s)) outcome
  pub promises : NumbersAreOutcome s number outcome_now
