-- The letters of a reach are its bits, and a set is the one of its bits: so a reach's letters are read as that reach, and where a reach is read, its
-- letters stand there. Assumes nothing.
use mathlib.Core.Path.{◌≡◌, refl, sym, ap, ◌∙◌}
use mathlib.Core.List.{List, ◌∷◌, ◌++◌}
use mathlib.Core.Bool.{Bool, true}
use Prim.Native.Nat.{ℕ, ◌-◌, ◌*◌, ◌/◌, ◌%◌, ◌^◌, ◌≤◌, ◌<◌}
use native.Mathlib.Nat.{mod-lt}
use native.Mathlib.Omega.{arith}
use borrow.Author.Tests.{eq-eqb, eqb-true}
use lib.ListN.{length, get_or, take, get_or-append}
use lib.Dec.{eqb}
use Rattle.laws.specs.Test.{within}
use Rattle.laws.specs.Below.{bit, count}
use Rattle.laws.proofs.Test.{cond_true, within_low, within_high, within_is}
use Rattle.laws.proofs.Counting.{count_of_all, count_full}
use Rattle.laws.proofs.Sums.{sum_same}
use Rattle.laws.proofs.Filled.{filled_take}
use Rattle.laws.proofs.Lists.{length_tabulate, get_d_tabulate}
use Rattle.fields.specs.Found.{found, wrong}
use Rattle.fields.specs.Decimal.{letter}
use Rattle.fields.specs.Fields.{digit_at, ended, reach_field}
use Rattle.fields.proofs.Written.{found_if, ended_reads, ended_written}
use Rattle.sets.specs.Sets.{names, set_of}
use Rattle.sets.proofs.Bits.{named_bit, set_bits, of_its_bits}
use Rattle.text.specs.Written.{letters_of}

pub letters_long : (n reach : ℕ) → length (letters_of n reach) ≡ n
unfolding letters_of
letters_long n reach = length_tabulate n _

-- A reach's letters at the start of a text: each is 0 or 1, and they add up to the reach.
module _ (n reach : ℕ) (after : List ℕ) where
  abbrev starts_so : List ℕ
  starts_so = letters_of n reach ++ after

  letter_at : (j : ℕ) → j < n → get_or starts_so j 0 ≡ letter (bit (names reach j))
  unfolding letters_of
  letter_at j l =
      let long = letters_long n reach in
      get_or-append (letters_of n reach) after 0 j (omega arith) ∙ get_d_tabulate n _ j 0 l

  letters_right : count n (λ j. within (letter 0) (get_or starts_so j 0) (letter 1)) ≡ n
  letters_right = count_of_all n (λ j. within (letter 0) (get_or starts_so j 0) (letter 1)) (λ j l.
      let e = letter_at j l in
      let is-bit = named_bit reach j in
      let low : reach / 2 ^ j % 2 < 2 = mod-lt (reach / 2 ^ j) (omega arith) in
      within_is (letter 0) (get_or starts_so j 0) (letter 1) (omega arith) (omega arith))

  letters_value : reach < 2 ^ n → set_of n (λ j. get_or starts_so j 0 - letter 0) ≡ reach
  letters_value h =
      sum_same n (λ j. (get_or starts_so j 0 - letter 0) * 2 ^ j) (λ j. bit (names reach j) * 2 ^ j)
      (λ j l. let e = letter_at j l in ap (λ (x : ℕ). x * 2 ^ j) {x = get_or starts_so j 0 - letter 0} {y = bit (names reach j)} (omega arith))
      ∙ of_its_bits n reach h

-- Letters 0 and 1 at the start of a text are those of the number that they add up to.
letters_are : (n : ℕ) (text : List ℕ) → n ≤ length text → ((j : ℕ) → j < n → within (letter 0) (get_or text j 0) (letter 1) ≡ true)
    → take n text ≡ letters_of n (set_of n (λ j. get_or text j 0 - letter 0))
unfolding letters_of
letters_are n text inside right =
    let d : ℕ → ℕ = λ j. get_or text j 0 - letter 0 in
    let low : (j : ℕ) → j < n → 48 ≤ get_or text j 0 = λ j l. within_low (letter 0) (get_or text j 0) (letter 1) (right j l) in
    let high : (j : ℕ) → j < n → get_or text j 0 ≤ 49 = λ j l. within_high (letter 0) (get_or text j 0) (letter 1) (right j l) in
    let bits = set_bits d n (λ j l. let h = high j l in omega arith) in
    filled_take {d = 0} inside (record {
      long = refl;
      at = λ j l. let h = low j l in let b : bit (names (set_of n d) j) ≡ get_or text j 0 - letter 0 = bits j l in omega arith;
    })

module _ (end : ℕ) where
  pub reach_reads : (n reach : ℕ) (rest : List ℕ) → reach < 2 ^ n → reach_field end (letters_of n reach ++ (end ∷ rest)) n ≡ found reach rest
  unfolding reach_field
  reach_reads n reach rest h =
      let after = end ∷ rest in
      cond_true _ _ wrong (eq-eqb _ n (letters_right n reach after))
      ∙ ended_reads end (letters_of n reach) rest _ n (letters_long n reach)
      ∙ ap (λ (x : ℕ). found x rest) (letters_value n reach after h)

  pub reach_written : (text : List ℕ) (n reach : ℕ) (rest : List ℕ) → reach_field end text n ≡ found reach rest → text ≡ letters_of n reach ++ (end ∷ rest)
  unfolding reach_field
  reach_written text n reach rest e =
      let right : ℕ → Bool = λ j. within (letter 0) (get_or text j 0) (letter 1) in
      let value = set_of n (digit_at end text) in
      let all = found_if reach rest (eqb (count n right) n) (ended end text value n) e in
      let w = ended_written end text value n reach rest all.1 in
      let inside : n < length text = w.1 in
      let full : count n right ≡ n = eqb-true (count n right) n all.0 in
      w.2 ∙ ap (λ (l : List ℕ). l ++ (end ∷ rest)) (letters_are n text (omega arith) (count_full n right (omega arith)) ∙ ap (letters_of n) (sym w.0))
