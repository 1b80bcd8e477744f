-- Round B follows from the crashes so far, the last round's rule and f ≤ t, and the settling round from the first two. Nothing of a run enters besides:
-- `Undecided` is any relation of rounds and processes of which these are known. Either of the two rounds has too few crashes for a process to complete
-- it undecided, or is the last; and the settling round is the first of that kind. Assumes nothing.
use mathlib.Core.Path.{◌≡◌, subst}
use mathlib.Core.Logic.{inl, inr}
use Prim.Native.Nat.{ℕ, ◌+◌, ◌≤◌}
use native.Mathlib.Omega.{arith}
use lib.Dec.{leb}
use borrow.Author.Tests.{leb-true, leb-false}
use Rattle.laws.proofs.Test.{true_or_false}
use Rattle.laws.proofs.Counting.{split}
use Rattle.schedule.specs.Schedule.{Schedule, crash_count, crashed_by}
use Rattle.schedule.proofs.Crashes.{crashed_within}
use Rattle.run.specs.Demand.{round_b}
use Rattle.run.specs.CrashesSoFar.{NobodyUndecided, CrashesSoFar, LastRound, RoundBFollows, settling_of, SettlingFollows, WithinB}
use Rattle.run.proofs.Settling.{TooFew, settling_too_few, settling_least}

-- round r has too few crashes for a process to complete it undecided, or is the last
nobody_in : (s : Schedule) (Undecided : ℕ → ℕ → Type 0) → CrashesSoFar s Undecided → LastRound s Undecided
    → (r : ℕ) → TooFew s.t (crashed_by s) r → NobodyUndecided Undecided r
nobody_in s Undecided so_far last r few i u =
    elim (split s.t r) [
      | inr before ↦
          let y = so_far.early r i (few.low before) (omega arith) u in
          let z = few.early before in
          omega arith
      | inl h ↦
          elim (split (s.t + 1) r) [
            | inr at ↦
                let e : r ≡ s.t = omega arith in
                let y = so_far.round_t i (subst (λ q. Undecided q i) e u) in
                let z = few.at_t e in
                omega arith
            | inl after ↦
                let high = few.high in
                let e : r ≡ s.t + 1 = omega arith in
                last i (subst (λ q. Undecided q i) e u)
          ]
    ]

-- round B has too few: f + 1 of them would be needed before round t, t in round t, and it is t + 1 only for f = t
b_too_few : (s : Schedule) → crash_count s ≤ s.t → TooFew s.t (crashed_by s) (round_b (crash_count s) s.t)
unfolding round_b
b_too_few s few =
    let f = crash_count s in
    let by-t = crashed_within s s.t in
    elim (true_or_false (leb (f + 2) s.t)) [
      | inl e ↦
          let h = leb-true (f + 2) s.t e in
          let by-b = crashed_within s (f + 2) in
          rw e (record { low = λ b. omega arith; early = λ b. omega arith; at_t = λ b. omega arith; high = omega arith })
      | inr e ↦
          let h = leb-false (f + 2) s.t e in
          rw e (record { low = λ b. omega arith; early = λ b. omega arith; at_t = λ b. omega arith; high = omega arith })
    ]

pub round_b_follows : RoundBFollows
round_b_follows s Undecided so_far last few = nobody_in s Undecided so_far last (round_b (crash_count s) s.t) (b_too_few s (omega arith))

pub settling_follows : SettlingFollows
settling_follows s Undecided so_far last = nobody_in s Undecided so_far last (settling_of s) (settling_too_few s.t (crashed_by s))

pub within_b : WithinB
within_b s few = let h = settling_least s.t (crashed_by s) (round_b (crash_count s) s.t) (b_too_few s few) in omega arith
