-- The crashes by a round are among those that f counts; f counts the processes that crash in rounds 1 to t + 1, since there are no other crash rounds but
-- 0; and some process never crashes, since at most t of the n > t do. Assumes nothing.
use mathlib.Core.Path.{◌≡◌, sym, ap, ◌∙◌}
use mathlib.Core.Logic.{inl, inr}
use mathlib.Core.Bool.{not}
use Prim.Native.Nat.{ℕ, ◌+◌, ◌≤◌, ◌<◌}
use native.Mathlib.Nat.{eq-zero-or-pos}
use native.Mathlib.Omega.{arith}
use borrow.Author.Tests.{eqb-true, eq-eqb, ne_eqb, not-false}
use Rattle.laws.specs.Test.{within}
use Rattle.laws.proofs.Test.{within_low, within_is, within_not_low}
use Rattle.laws.proofs.Counting.{Some, count_mono, count_same, count_short}
use Rattle.schedule.specs.Schedule.{Schedule, crash_of, ever_crashes, crashes_in, crash_count, crashed_by}
use Rattle.schedule.specs.Questions.{Rules}

-- a process with a crash round from 1 to r crashes
pub crashed_within : (s : Schedule) (r : ℕ) → crashed_by s r ≤ crash_count s
unfolding crashed_by crashes_in
crashed_within s r =
    count_mono s.n (λ i. within 1 (crash_of s i) r) (λ i. ever_crashes (crash_of s i)) (λ i _ e.
    ap not (ne_eqb (crash_of s i) 0 (λ z. let low = within_low 1 (crash_of s i) r e in omega arith)))

module _ (s : Schedule) (ok : Rules s) where
  counted_once : (i : ℕ) → i < s.n → within 1 (crash_of s i) (s.t + 1) ≡ ever_crashes (crash_of s i)
  counted_once i l =
      elim (eq-zero-or-pos (crash_of s i)) [
        | inl z ↦ within_not_low 1 (crash_of s i) (s.t + 1) (omega arith) ∙ sym (ap not (eq-eqb (crash_of s i) 0 z))
        | inr p ↦ within_is 1 (crash_of s i) (s.t + 1) p (ok.process i l).crash ∙ sym (ap not (ne_eqb (crash_of s i) 0 (λ z. omega arith)))
      ]

  pub all_crashes : crashed_by s (s.t + 1) ≡ crash_count s
  unfolding crashed_by crashes_in
  all_crashes = count_same s.n (λ i. within 1 (crash_of s i) (s.t + 1)) (λ i. ever_crashes (crash_of s i)) counted_once

  -- a process that never crashes
  pub some_survives : Some s.n λ i. crash_of s i ≡ 0
  unfolding crashes_in
  some_survives =
      let few = ok.few in
      let low = ok.t_high in
      let x = count_short s.n (λ i. ever_crashes (crash_of s i)) (omega arith) in
      (x.0, x.1, eqb-true _ 0 (not-false _ x.2))
