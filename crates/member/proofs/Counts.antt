-- Counting codes. Assumes nothing.
use mathlib.Core.Logic.{inl, inr}
use Prim.Native.Nat.{ℕ, ◌+◌, ◌≤◌}
use native.Mathlib.Omega.{arith}
use borrow.Author.Tests.{eqb-true, ne_eqb}
use lib.Dec.{eqb}
use Rattle.laws.specs.Below.{bit}
use Rattle.laws.proofs.Test.{true_or_false}

-- a code is not two codes
pub one_code : (c : ℕ) → bit (eqb c 1) + bit (eqb c 2) ≤ 1
one_code c =
    elim (true_or_false (eqb c 1)) [
      | inl e ↦ let z = eqb-true c 1 e in rw (e, ne_eqb c 2 (λ w. omega arith)) (omega arith)
      | inr e ↦ rw e (elim (true_or_false (eqb c 2)) [ inl d ↦ rw d (omega arith) | inr d ↦ rw d (omega arith) ])
    ]
