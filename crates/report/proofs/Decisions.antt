-- Tables of decisions and outcomes, and what is written of them. Assumes nothing.
use mathlib.Core.Path.{◌≡◌, sym}
use mathlib.Core.Logic.{inl, inr}
use mathlib.Core.List.{List, []}
use mathlib.Core.Bool.{Bool, true, false}
use Prim.Native.Nat.{ℕ, ◌≤◌, ◌<◌, zero-le}
use native.Mathlib.Omega.{arith}
use borrow.Author.Tests.{eq-eqb, ne_eqb, eqb-true, leb-true, le-leb, lt-leb}
use lib.ListN.{length, get_or}
use lib.Dec.{leb}
use Rattle.std.specs.Bool.{MatchBool}
use Rattle.std.specs.List.{AllWithin, HoldsAt}
use Rattle.laws.proofs.Test.{true_or_false, cond_true, cond_false}
use Rattle.laws.proofs.Counting.{count_of_all, count_full}
use Rattle.simulator.specs.declared.Counts.{Counts}
use Rattle.simulator.specs.declared.Outcome.{Outcome}
use Rattle.simulator.specs.Answers.{given_by}
use Rattle.text.specs.Output.{report_text, outcome_text}
use Rattle.report.specs.Shown.{are_decisions, shown, written_outcome}

-- a table passes the test where each of its entries does, both ways
pub decisions_all : (decisions : List ℕ) → are_decisions decisions ≡ true → (i : ℕ) → i < length decisions → get_or decisions i 0 ≤ 2
unfolding are_decisions
decisions_all decisions e i l =
    let full = eqb-true _ (length decisions) e in
    leb-true (get_or decisions i 0) 2 (count_full (length decisions) (λ i. leb (get_or decisions i 0) 2) (omega arith) i l)

pub all_decisions : (decisions : List ℕ) → ((i : ℕ) → i < length decisions → get_or decisions i 0 ≤ 2) → are_decisions decisions ≡ true
unfolding are_decisions
all_decisions decisions h =
    eq-eqb _ (length decisions) (count_of_all (length decisions) (λ i. leb (get_or decisions i 0) 2) (λ i l. le-leb (get_or decisions i 0) 2 (h i l)))

-- a test that says yes where each entry is a decision, and no where one is not
pub all_or_not : (decisions : List ℕ) (r : Bool) → MatchBool r (AllWithin (λ d. d ≤ 2) decisions 0 (length decisions)) ((k : ℕ) × (k < length decisions) × HoldsAt (λ d. 2 < d) decisions k)
    → r ≡ are_decisions decisions
all_or_not decisions true all = sym (all_decisions decisions (λ i l. all i 0 zero-le l))
all_or_not decisions false (k, l, high) =
    elim (true_or_false (are_decisions decisions)) [
      | inl e ↦ absurd (let low = decisions_all decisions e k l in let over = high 0 in omega arith)
      | inr e ↦ sym e
    ]

module _ (t : ℕ) (counts : Counts) (decisions rounds : List ℕ) where
  pub shown_all : length rounds ≡ length decisions → are_decisions decisions ≡ true → shown t counts decisions rounds ≡ report_text (length decisions) t (given_by counts decisions rounds)
  unfolding shown
  shown_all e h = rw (eq-eqb (length rounds) (length decisions) e, h)

  pub shown_lengths : (length rounds ≡ length decisions → ⊥) → [] ≡ shown t counts decisions rounds
  unfolding shown
  shown_lengths e = rw (ne_eqb (length rounds) (length decisions) e)

  pub shown_none : length rounds ≡ length decisions → are_decisions decisions ≡ false → [] ≡ shown t counts decisions rounds
  unfolding shown
  shown_none e h = rw (eq-eqb (length rounds) (length decisions) e, h)

module _ (outcome : Outcome) where
  pub written_outcome_lem : outcome.decision ≤ 2 → written_outcome outcome ≡ outcome_text outcome.decision outcome.round
  unfolding written_outcome
  written_outcome_lem l = cond_true _ _ _ (le-leb outcome.decision _ (omega arith))

  pub no_outcome_written : 2 < outcome.decision → [] ≡ written_outcome outcome
  unfolding written_outcome
  no_outcome_written l = sym (cond_false _ _ _ (lt-leb outcome.decision _ (omega arith)))
