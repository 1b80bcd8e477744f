-- Questions before work, and what a call answers to them.
-- Document 01, "Questions before work": the first "no" gives its number.
use Rattle.std.specs.Prelude.{ℕ, Bool, cond, eqb}
use Rattle.laws.specs.Below.{fold}

-- One question and those after it: the question's number if its answer is no, and else what the others come to.
-- A row of questions ends in 0, so it comes to the number of the first whose answer is no, or to 0.
unfoldable pub ask : Bool → ℕ → ℕ → ℕ
ask yes? number others = cond yes? others number

-- A row of questions that comes to q, and those after it.
unfoldable pub and_then : ℕ → ℕ → ℕ
and_then q others = cond (eqb q 0) others q

-- The rows of questions q 0, q 1, .., q (n - 1), one after the other.
unfoldable pub ask_each : ℕ → (ℕ → ℕ) → ℕ
unfolding fold and_then
ask_each n q = fold n (λ i before. and_then before (q i)) 0

-- What a call answers: the value of an accepted call, or the number and what a refusal gives back.
pub data Answer (A B : Type 0) : Type 0 where
  accepted : A → Answer A B
  refused : ℕ → B → Answer A B

-- the answer of a call whose questions come to q
unfoldable pub answer : {A B : Type 0} → ℕ → A → B → Answer A B
answer q value back = cond (eqb q 0) (accepted value) (refused q back)

-- what stands in a lent place after a call whose questions come to q: what is given for it, or, if the call is refused, what stood there
unfoldable pub place_after : {A : Type 0} → ℕ → A → A → A
place_after q given lent = cond (eqb q 0) given lent

-- One row of questions, which gives b back with its first no, and those after it.
unfoldable pub and_next : {A B : Type 0} → Answer (Unit {0}) B → Answer A B → Answer A B
and_next (accepted _) others = others
and_next (refused number back) others = refused number back

-- The rows of questions q 0, q 1, .., q (n - 1), one after the other.
unfoldable pub next_each : {B : Type 0} → ℕ → (ℕ → Answer (Unit {0}) B) → Answer (Unit {0}) B
unfolding fold and_next
next_each n q = fold n (λ i before. and_next before (q i)) (accepted tt)
