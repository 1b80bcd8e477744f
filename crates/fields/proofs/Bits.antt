-- Letters 0 and 1 as bits: a text whose first n bytes count n such letters has one at each place, so they stand for a set of processes 1 to n. Assumes
-- nothing.
use mathlib.Core.Path.{◌≡◌, refl, sym, ap, ◌∙◌}
use mathlib.Core.Logic.{inl, inr}
use mathlib.Core.List.{List}
use Prim.Native.Nat.{ℕ, zero, suc, ◌-◌, ◌^◌, ◌≤◌, ◌<◌}
use native.Mathlib.Nat.{add-zero}
use native.Mathlib.Omega.{arith}
use native.Mathlib.Numerals.{add-one}
use lib.ListN.{length, get_or, take, get_or-eq_default}
use lib.Seq.{take_all}
use Rattle.std.specs.List.{filter}
use Rattle.std.proofs.lemmas.List.Filters.{length-filter_more}
use Rattle.laws.specs.Test.{within}
use Rattle.laws.specs.Below.{count, sum}
use Rattle.laws.proofs.Test.{within_low, within_high}
use Rattle.laws.proofs.Counting.{count_full, split}
use Rattle.sets.specs.Sets.{set_of}
use Rattle.sets.proofs.Bits.{set_below}
use Rattle.fields.specs.Decimal.{letter}

-- the letters among the first n bytes are as many as those at the places below n, since no byte past the end is one
pub letters_taken : (text : List ℕ) (n : ℕ) → length (filter (λ b. within (letter 0) b (letter 1)) (take n text)) ≡ count n (λ j. within (letter 0) (get_or text j 0) (letter 1))
unfolding count sum within
letters_taken text zero = refl
letters_taken text (suc n) =
    let before = letters_taken text n in
    elim (split (length text) n) [
      | inl a ↦
          let past : get_or text n 0 ≡ 0 = get_or-eq_default text 0 {n = n} a in
          rw (take_all (suc n) text (omega arith), past) (ap (λ (l : List ℕ). length (filter (λ b. within (letter 0) b (letter 1)) l)) (sym (take_all n text a)) ∙ before ∙ sym (add-zero _))
      | inr a ↦ rw (← add-one n, length-filter_more (λ b. within (letter 0) b (letter 1)) text n 0 a, before)
    ]

-- a letter 0 or 1 stands at each of the first n places
pub letter_at : (text : List ℕ) (n : ℕ) → count n (λ j. within (letter 0) (get_or text j 0) (letter 1)) ≡ n
    → (j : ℕ) → j < n → (letter 0 ≤ get_or text j 0) × (get_or text j 0 ≤ letter 1)
letter_at text n e j l =
    let right = count_full n (λ j. within (letter 0) (get_or text j 0) (letter 1)) (omega arith) j l in
    (within_low (letter 0) (get_or text j 0) (letter 1) right, within_high (letter 0) (get_or text j 0) (letter 1) right)

-- so there are n bytes
pub letters_long : (text : List ℕ) (n : ℕ) → count n (λ j. within (letter 0) (get_or text j 0) (letter 1)) ≡ n → n ≤ length text
letters_long text n e =
    elim (split n (length text)) [
      | inl a ↦ a
      | inr a ↦
          let low = letter_at text n e (length text) a in
          let past : get_or text (length text) 0 ≡ 0 = get_or-eq_default text 0 {n = length text} (omega arith) in
          absurd (omega arith)
    ]

-- the first m of n letters, as a number
pub reach_below : (text : List ℕ) (n : ℕ) → count n (λ j. within (letter 0) (get_or text j 0) (letter 1)) ≡ n
    → (m : ℕ) → m ≤ n → set_of m (λ j. get_or text j 0 - letter 0) < 2 ^ m
reach_below text n e m l = set_below (λ j. get_or text j 0 - letter 0) m (λ j h. omega (arith, letter_at text n e j (omega arith)))
