-- The set of the places at which 0 stands, in parts: the bits from a place on stand above those before it, so a part is moved up to its place and added.
-- Assumes nothing.
use mathlib.Core.Path.{◌≡◌, ap, ◌∙◌}
use mathlib.Core.List.{List}
use Prim.Native.Nat.{ℕ, zero, suc, ◌+◌, ◌-◌, ◌*◌, ◌/◌, ◌%◌, ◌^◌, ◌≤◌, ◌<◌}
use native.Mathlib.Nat.{add_comm, add-zero, add-suc, lt_of_lt_of_le, mod-eq_of_lt}
use native.Mathlib.Omega.{arith}
use lib.Dec.{eqb}
use lib.ListN.{get_or}
use lib.Pow as Pow
use Rattle.laws.specs.Below.{sum, bit}
use Rattle.laws.proofs.Below.{bit_high}
use Rattle.laws.proofs.Sums.{sum_same}
use Rattle.sets.specs.Largest.{largest}
use Rattle.sets.specs.Sets.{set_of}
use Rattle.sets.proofs.Theorem.{set_facts}

-- the set of the first i + m digits is that of the first i, and that of the m after them above it
set_split : (digit : ℕ → ℕ) (i m : ℕ) → set_of (i + m) digit ≡ set_of i digit + set_of m (λ k. digit (i + k)) * 2 ^ i
unfolding sum
set_split digit i zero = rw add-zero (omega arith)
set_split digit i (suc m) =
    let before = set_split digit i m in
    let power : digit (i + m) * 2 ^ (i + m) ≡ digit (i + m) * (2 ^ i * 2 ^ m) = ap (λ (x : ℕ). digit (i + m) * x) (Pow.pow-add 2 i m) in
    rw add-suc (omega arith)

module _ (row : List ℕ) where
  -- 1 at a place at which 0 stands
  abbrev pub silent : ℕ → ℕ
  silent j = bit (eqb (get_or row j 0) 0)

  -- a part is below its power of 2, so it does not reach the part above it
  below : (i m : ℕ) → set_of m (λ k. silent (i + k)) < 2 ^ m
  below i m = (set_facts m).below (λ k. silent (i + k)) (λ k _. bit_high (eqb (get_or row (i + k) 0) 0))

  -- the set of a row is a word
  pub room : (n : ℕ) → n ≤ largest → set_of n silent < 2 ^ largest
  room n short =
      lt_of_lt_of_le ((set_facts n).below silent (λ j _. bit_high (eqb (get_or row j 0) 0))) (Pow.pow_mono {i = n} {j = largest} short)

  -- the m places from i on are added to those before them
  pub added : (i m set x : ℕ) → i + m ≤ largest → set ≡ set_of i silent → x ≡ set_of m (λ k. silent (i + k))
      → set + (x * 2 ^ i) % 2 ^ largest ≡ set_of (i + m) silent
  added i m set x short before e =
      let parts = set_split silent i m in
      let all = room (i + m) short in
      let moved : x * 2 ^ i ≡ set_of m (λ k. silent (i + k)) * 2 ^ i = ap (λ (y : ℕ). y * 2 ^ i) e in
      let whole : (x * 2 ^ i) % 2 ^ largest ≡ x * 2 ^ i = mod-eq_of_lt (omega arith) in
      omega arith

  -- one place is a part too
  pub single : (i : ℕ) → silent i ≡ set_of 1 (λ k. silent (i + k))
  unfolding sum
  single i = omega (arith, ap silent (add-zero i))

  -- the last m of w places that end at i + m are those from i on: the w - m earlier ones are shifted out
  pub last : (w i m from : ℕ) → m ≤ w → from + w ≡ i + m → set_of w (λ k. silent (from + k)) / 2 ^ (w - m) ≡ set_of m (λ k. silent (i + k))
  last w i m from fits e =
      let early = w - m in
      let wide : w ≡ early + m = omega arith in
      ap (λ (v : ℕ). set_of v (λ k. silent (from + k)) / 2 ^ early) wide
      ∙ ap (λ (x : ℕ). x / 2 ^ early) (set_split (λ k. silent (from + k)) early m ∙ add_comm _ _)
      ∙ Pow.high _ early (below from early)
      ∙ sum_same m _ _ (λ k _. ap (λ (j : ℕ). silent j * 2 ^ k) {x = from + (early + k)} {y = i + k} (omega arith))
