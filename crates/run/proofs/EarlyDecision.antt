-- Early decision. Whoever completes a round undecided was told nothing, so it has too few estimates for the round's rule; and whoever it has no
-- estimate from has crashed. So a round that ends undecided is not the last, and has seen about as many crashes as rounds. Assumes nothing.
use mathlib.Core.Path.{◌≡◌}
use mathlib.Core.Logic.{inl, inr}
use mathlib.Core.Bool.{not}
use Prim.Native.Nat.{ℕ, suc, ◌+◌, ◌≤◌, ◌<◌}
use native.Mathlib.Omega.{arith}
use lib.Dec.{leb}
use borrow.Author.Tests.{le-leb, not-true}
use Rattle.laws.proofs.Counting.{count_mono, count_not}
use Rattle.member.specs.Hearing.{is_estimate}
use Rattle.member.proofs.Codes.{not_estimate}
use Rattle.run.proofs.OneRound.{estimates_in, decides, waits}
use Rattle.run.proofs.World.{World, RoundLaws, DecisionRules, Plays, NotTold, crashes}
use Rattle.run.proofs.States.{Way, way, stays_put, told, not_told, missing}

module _ (w : World) where
  open w use {n, t, start, crash, estimate, decided, code}

  -- that round r + 1 is not the last, and what the crashes by its end are, where some process completes it undecided
  pub record EndsUndecided (r : ℕ) : Type 0 where
    pub not_last : r < t
    pub early : suc r < t → r ≤ crashes w (suc r)
    pub round_t : suc r ≡ t → t ≤ crashes w (suc r)

  module _ (laws : RoundLaws w) (rules : DecisionRules w) where
    -- whoever sends no estimate to an undecided process that is not told has crashed
    missing_crashed : (r i : ℕ) → Plays w r i → NotTold w r i → n ≤ estimates_in n (code r i) + crashes w (suc r)
    missing_crashed r i o low =
        let all = count_not n (λ j. is_estimate (code r i j)) in
        let sub = count_mono n (λ j. not (is_estimate (code r i j))) (λ j. leb (crash j) (suc r)) (λ j jl e.
        le-leb (crash j) (suc r) (missing w laws r i j o jl (not_estimate (code r i j) (low j jl) (not-true (is_estimate (code r i j)) e)))) in
        omega arith

    pub crashes_so_far : (r i : ℕ) → Plays w r i → 0 < r → decided (suc r) i ≡ 0 → EndsUndecided r
    crashes_so_far r i o p u = go (way w laws r i o.time o.process)
      where
        go : Way w laws r i → EndsUndecided r
        go (stays_put (inl a) k) = absurd (let b = o.alive in omega arith)
        go (stays_put (inr a) k) = absurd (let h = k.decided_is in omega arith)
        go (told _ _ h) = absurd (let e = h.decided_is in omega arith)
        go (not_told _ low) =
            let crashed = missing_crashed r i o low in
            elim (rules.ends r i o p low) [
              | decides e _ ↦ absurd (omega arith)
              | waits _ h ↦
                  record {
                    not_last = h.not_last;
                    early = λ b. let x = h.not_quiet b in omega arith;
                    round_t = λ b. let x = h.not_count b in omega arith;
                  }
            ]
