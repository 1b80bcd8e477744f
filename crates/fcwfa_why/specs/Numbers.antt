-- What a reason gives as numbers: 0 or the number of a refusal, the kind of the reason, and the number that goes with it.
use Rattle.std.specs.Prelude.{ℕ, ◌-◌, ◌≡◌, List, [], ◌∷◌, map}
use Rattle.laws.specs.Answer.{place_after}
use Rattle.sets.specs.Largest.{largest}
use Rattle.member.specs.declared.Rule.{Rule}
use Rattle.member.specs.declared.Rule.TheVariants.{Told, ZerosOnly, Quiet, RoundT, LastRound, NoRule}
use Rattle.member.specs.declared.Reason.{Reason}
use Rattle.schedule.specs.Schedule.{Schedule}
use Rattle.run.specs.Why.{why_of, WhyPromises}
use Rattle.explanation.specs.Answers.{why_question}

-- The kinds: "a decided message", "round 2 with zeros only, a quiet round", "round t" and "the last round" in document 02's order, from 1 on; 0 is that of
-- "a process without a decision", of which no rule is named.
abbrev pub kind_of : Rule → ℕ
kind_of NoRule = 0
kind_of Told = 1
kind_of ZerosOnly = 2
kind_of Quiet = 3
kind_of RoundT = 4
kind_of LastRound = 5

-- a reason as two numbers: its kind, and the number that goes with it
abbrev pub reason_numbers : Reason → List ℕ
reason_numbers why = kind_of why.rule ∷ why.number ∷ []

-- What holds of them. Proved in proofs/Given.antt: `reason_numbers_lem : ReasonNumbers`.
pub record ReasonNumbers : Type 0 where
  -- 0 crashed, 1 told, 2 zeros only, 3 quiet, 4 round t, 5 last round
  pub kinds : map kind_of (NoRule ∷ Told ∷ ZerosOnly ∷ Quiet ∷ RoundT ∷ LastRound ∷ []) ≡ 0 ∷ 1 ∷ 2 ∷ 3 ∷ 4 ∷ 5 ∷ []
  -- the kind first: process 2 of case D, round t with three estimates
  pub in_order : reason_numbers (record { rule = RoundT; number = 3 }) ≡ 4 ∷ 3 ∷ []

-- two numbers are those of a reason that keeps the promises
pub record NumbersTell (s : Schedule) (id : ℕ) (numbers : List ℕ) : Type 0 where
  pub reason : Reason
  pub told : numbers ≡ reason_numbers reason
  pub promises : WhyPromises s (id - 1) reason

-- What is promised of a reason, of the numbers: wherever the call answers 0, with the two numbers after the call.
pub record NumbersAreReason (s : Schedule) (id number : ℕ) (numbers : List ℕ) : Type 0 where
  pub kept : number ≡ 0 → NumbersTell s id numbers

-- What the call promises of a schedule, a process number and the place for the reason that it is lent: of the number that it answers, and of what stands in
-- the place after it.
pub record ExplainsNumbers (s : Schedule) (id : ℕ) (why : List ℕ) (number : ℕ) (why_now : List ℕ) : Type 0 where
  pub number_is : number ≡ why_question largest s id
  pub why_given : why_now ≡ place_after (why_question largest s id) (reason_numbers (why_of s (id - 1))) why
  pub promises : NumbersAreReason s id number why_now
