-- Which of two deciders goes before, as plain facts: the one with the smaller round, among equal rounds the one that never crashes, and only then the
-- one with the lower number. Of any two, one goes before the other, and the order is transitive. Assumes nothing.
use mathlib.Core.Path.{◌≡◌, ap}
use mathlib.Core.Logic.{◌⊎◌, inl, inr, ◌≢◌}
use mathlib.Core.Bool.{Bool, true, not, ◌&&◌}
use Prim.Native.Nat.{ℕ, ◌≤◌, ◌<◌}
use native.Mathlib.Omega.{arith}
use lib.Dec.{ltb, eqb}
use borrow.Author.Tests.{eqb-true, eq-eqb, ne_eqb, ltb-true, lt-ltb}
use Rattle.laws.specs.Below.{bit}
use Rattle.laws.proofs.Test.{and_left, and_right, and_both, or_left, or_right, or_true}
use Rattle.laws.proofs.Counting.{split}
use Rattle.schedule.specs.Schedule.{ever_crashes}
use Rattle.run.specs.Report.{ahead, before}

-- of two numbers and the test that tells where they are equal
module _ (x y : ℕ) (next : Bool) where
  ahead_less : x < y → ahead x y next ≡ true
  unfolding ahead
  ahead_less h = or_left (ltb x y) (eqb x y && next) (lt-ltb x y h)

  ahead_equal : x ≡ y → next ≡ true → ahead x y next ≡ true
  unfolding ahead
  ahead_equal e n = or_right (ltb x y) (eqb x y && next) (and_both (eqb x y) next (eq-eqb x y e) n)

  ahead_true : ahead x y next ≡ true → (x < y) ⊎ ((x ≡ y) × (next ≡ true))
  unfolding ahead
  ahead_true e =
      elim (or_true (ltb x y) (eqb x y && next) e) [
        | inl h ↦ inl (ltb-true x y h)
        | inr h ↦ inr (eqb-true x y (and_left (eqb x y) next h), and_right (eqb x y) next h)
      ]

module _ (c : ℕ) where
  pub never_crashes : c ≡ 0 → bit (ever_crashes c) ≡ 0
  never_crashes e = ap (λ (b : Bool). bit (not b)) (eq-eqb c 0 e)

  pub crashes_once : c ≢ 0 → bit (ever_crashes c) ≡ 1
  crashes_once n = ap (λ (b : Bool). bit (not b)) (ne_eqb c 0 n)

module _ (C R : ℕ → ℕ) where
  -- 1 if process i crashes, 0 if it never does
  abbrev E : ℕ → ℕ
  E i = bit (ever_crashes (C i))

  -- the order of two deciders, in plain facts
  pub data Before (i k : ℕ) : Type 0 where
    sooner : R i < R k → Before i k
    survivor : R i ≡ R k → E i < E k → Before i k
    lower : R i ≡ R k → E i ≡ E k → i < k → Before i k

  pub before_is : (i k : ℕ) → Before i k → before C R i k ≡ true
  unfolding before
  before_is i k (sooner h) = ahead_less (R i) (R k) _ h
  before_is i k (survivor e h) = ahead_equal (R i) (R k) _ e (ahead_less (E i) (E k) _ h)
  before_is i k (lower e q h) = ahead_equal (R i) (R k) _ e (ahead_equal (E i) (E k) (ltb i k) q (lt-ltb i k h))

  pub is_before : (i k : ℕ) → before C R i k ≡ true → Before i k
  unfolding before
  is_before i k b =
      elim (ahead_true (R i) (R k) (ahead (E i) (E k) (ltb i k)) b) [
        | inl h ↦ sooner h
        | inr x ↦
            elim (ahead_true (E i) (E k) (ltb i k) x.1) [
              | inl h ↦ survivor x.0 h
              | inr y ↦ lower x.0 y.0 (ltb-true i k y.1)
            ]
      ]

  pub before_trans : (i j k : ℕ) → Before i j → Before j k → Before i k
  before_trans i j k (sooner a) (sooner b) = sooner (omega arith)
  before_trans i j k (sooner a) (survivor b _) = sooner (omega arith)
  before_trans i j k (sooner a) (lower b _ _) = sooner (omega arith)
  before_trans i j k (survivor a _) (sooner b) = sooner (omega arith)
  before_trans i j k (lower a _ _) (sooner b) = sooner (omega arith)
  before_trans i j k (survivor a c) (survivor b d) = survivor (omega arith) (omega arith)
  before_trans i j k (survivor a c) (lower b d _) = survivor (omega arith) (omega arith)
  before_trans i j k (lower a c _) (survivor b d) = survivor (omega arith) (omega arith)
  before_trans i j k (lower a c l) (lower b d m) = lower (omega arith) (omega arith) (omega arith)

  survivor_or_lower : (i k : ℕ) → i < k → R i ≡ R k → E i ≤ E k → Before i k
  survivor_or_lower i k l e c = elim (split (E k) (E i)) [ inr d ↦ survivor e d | inl d ↦ lower e (omega arith) l ]

  pub before_or : (i k : ℕ) → i < k → Before i k ⊎ Before k i
  before_or i k l =
      elim (split (R i) (R k)) [
        | inr a ↦ inr (sooner a)
        | inl a ↦
            elim (split (R k) (R i)) [
              | inr b ↦ inl (sooner b)
              | inl b ↦ elim (split (E i) (E k)) [ inr c ↦ inr (survivor (omega arith) c) | inl c ↦ inl (survivor_or_lower i k l (omega arith) c) ]
            ]
      ]
