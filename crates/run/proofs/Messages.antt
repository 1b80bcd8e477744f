-- Messages. One sender adds at most x in a round, so a round has at most x × n; and where all who complete round B have decided by then, nobody speaks
-- after round B + 1, since they said so in the round after their decision. Assumes nothing.
use mathlib.Core.Path.{◌≡◌}
use mathlib.Core.Logic.{◌⊎◌, inl, inr}
use Prim.Native.Nat.{ℕ, suc, ◌*◌, ◌≤◌, ◌<◌, min}
use native.Mathlib.Nat.{eq-zero-or-pos}
use native.Mathlib.Omega.{arith}
use Rattle.laws.specs.Below.{sum}
use Rattle.laws.proofs.Sums.{sum_zero, sum_high, sum_until}
use Rattle.run.proofs.World.{World, RoundLaws}
use Rattle.run.proofs.States.{range, stays}

module _ (w : World) where
  open w use {n, t, start, crash, estimate, decided, code}

  module _ (laws : RoundLaws w) where
    module _ (x : ℕ) (m : ℕ → ℕ → ℕ) (small : (r j : ℕ) → r ≤ t → j < n → m r j ≤ x)
        (real : (r j : ℕ) → r ≤ t → j < n → 0 < m r j → (r < crash j) × ((decided r j ≡ 0) ⊎ (decided r j ≡ r))) where
      pub bounded : (B : ℕ) → ((i : ℕ) → i < n → B < crash i → 0 < decided B i) → sum (suc t) (λ r. sum n (m r)) ≤ x * n * min (suc B) (suc t)
      bounded B by-b =
          sum_until (suc t) (suc B) (x * n) (λ r. sum n (m r)) (λ r rl. sum_high n x (m r) (λ j jl. small r j (omega arith) jl))
          (λ r rl br. sum_zero n (m r) (λ j jl. silence r j (omega arith) br jl))
        where
          silence : (r j : ℕ) → r ≤ t → B < r → j < n → m r j ≡ 0
          silence r j rt br jl =
              elim (eq-zero-or-pos (m r j)) [
                | inl z ↦ z
                | inr p ↦
                    let g = real r j rt jl p in
                    let d = by-b j jl (omega (arith, g.0)) in
                    let s = stays w laws B r j (omega arith) (omega arith) jl d in
                    absurd (elim (range w laws B (omega arith) j jl) [
                      | inl z ↦ omega arith
                      | inr k ↦ let hi = k.high in elim g.1 [ inl q ↦ omega arith | inr q ↦ omega arith ]
                    ])
              ]
