-- Crash rounds as the proofs take them: the crash round, or t + 2 where it is 0. So a process completes round r exactly if r is below it, and
-- the processes that crash by round r are those for which it is at most r. Assumes nothing.
use mathlib.Core.Path.{◌≡◌, sym, ap, ◌∙◌}
use mathlib.Core.Logic.{inl, inr, ◌≢◌}
use mathlib.Core.Bool.{true, cond}
use Prim.Native.Nat.{ℕ, suc, ◌+◌, ◌≤◌, ◌<◌}
use native.Mathlib.Nat.{eq-zero-or-pos}
use native.Mathlib.Numerals.{add-one}
use native.Mathlib.Omega.{arith}
use lib.Dec.{leb, eqb}
use borrow.Author.Tests.{le-leb, lt-leb, ne_eqb, eq-eqb}
use Rattle.laws.specs.Test.{within}
use Rattle.laws.specs.Below.{count}
use Rattle.laws.proofs.Test.{cond_true, cond_false, within_is, within_not_low, within_not_high}
use Rattle.laws.proofs.Counting.{split, count_same}
use Rattle.schedule.specs.Schedule.{Schedule, crash_of, crash_count, crashed_by}
use Rattle.schedule.specs.Questions.{Rules}
use Rattle.schedule.proofs.Crashes.{all_crashes}
use Rattle.run.specs.Run.{completes}
use Rattle.run.proofs.Rounds.{completes_if, if_completes}

module _ (s : Schedule) where
  abbrev pub crash_round : ℕ → ℕ
  crash_round i = cond (eqb (crash_of s i) 0) (s.t + 2) (crash_of s i)

  pub round_never : (i : ℕ) → crash_of s i ≡ 0 → crash_round i ≡ s.t + 2
  round_never i z = cond_true (eqb (crash_of s i) 0) (s.t + 2) (crash_of s i) (eq-eqb (crash_of s i) 0 z)

  pub round_crash : (i : ℕ) → crash_of s i ≢ 0 → crash_round i ≡ crash_of s i
  round_crash i nz = cond_false (eqb (crash_of s i) 0) (s.t + 2) (crash_of s i) (ne_eqb (crash_of s i) 0 nz)

  pub alive : (r i : ℕ) → r ≤ suc s.t → completes s r i ≡ true → r < crash_round i
  alive r i rt e =
      elim (if_completes s r i e) [
        | inl z ↦ let c = round_never i z in omega arith
        | inr l ↦ let c = round_crash i (λ z. omega arith) in omega arith
      ]

  pub living : (r i : ℕ) → r < crash_round i → completes s r i ≡ true
  living r i a =
      elim (eq-zero-or-pos (crash_of s i)) [
        | inl z ↦ completes_if s r i (inl z)
        | inr p ↦ let c = round_crash i (λ z. omega arith) in completes_if s r i (inr (omega arith))
      ]

  -- who does not complete a round of the run has a crash round from 1 to it
  pub crashed : (r i : ℕ) → r ≤ suc s.t → crash_round i ≤ r → (1 ≤ crash_of s i) × (crash_of s i ≤ r)
  crashed r i rt a =
      elim (eq-zero-or-pos (crash_of s i)) [
        | inl z ↦ absurd (let c = round_never i z in omega arith)
        | inr p ↦ let c = round_crash i (λ z. omega arith) in (p, omega arith)
      ]

  -- the crashes by round r, and all of them
  pub crashes_are : (r : ℕ) → r ≤ suc s.t → count s.n (λ j. leb (crash_round j) r) ≡ crashed_by s r
  unfolding crashed_by
  crashes_are r rt = count_same s.n (λ j. leb (crash_round j) r) (λ j. within 1 (crash_of s j) r) (λ j _. each j)
    where
      each : (j : ℕ) → leb (crash_round j) r ≡ within 1 (crash_of s j) r
      each j =
          elim (eq-zero-or-pos (crash_of s j)) [
            | inl z ↦
                let c = round_never j z in
                lt-leb (crash_round j) r (omega arith) ∙ sym (within_not_low 1 (crash_of s j) r (omega arith))
            | inr p ↦
                let c = round_crash j (λ z. omega arith) in
                elim (split (crash_of s j) r) [
                  | inl a ↦ le-leb (crash_round j) r (omega arith) ∙ sym (within_is 1 (crash_of s j) r p a)
                  | inr a ↦ lt-leb (crash_round j) r (omega arith) ∙ sym (within_not_high 1 (crash_of s j) r a)
                ]
          ]

  pub crashes_all : Rules s → count s.n (λ j. leb (crash_round j) (suc s.t)) ≡ crash_count s
  crashes_all ok = crashes_are (suc s.t) (omega arith) ∙ ap (crashed_by s) (sym (add-one s.t)) ∙ all_crashes s ok
