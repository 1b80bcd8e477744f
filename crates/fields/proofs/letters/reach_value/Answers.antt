-- `reach_value` meets its contract: after j letters the number is the sum of the first j bits, which is below 2 ^ j. Assumes nothing.
use mathlib.Core.Path.{◌≡◌, ap, ◌∙◌}
use mathlib.Core.List.{List}
use Prim.Native.Nat.{ℕ, ◌+◌, ◌-◌, ◌*◌, ◌%◌, ◌^◌, ◌≤◌, ◌<◌}
use native.Mathlib.Omega.{arith}
use lib.ListN.{length, get_or, take, length-take}
use lib.Seq.{get_or-take}
use lib.Pow.{pow_mono}
use Rattle.laws.specs.Below.{sum, count}
use Rattle.laws.specs.Test.{within}
use Rattle.laws.proofs.Below.{sum_start, sum_step, sum_end}
use Rattle.sets.specs.Largest.{largest}
use Rattle.sets.proofs.Theorem.{width_facts}
use Rattle.fields.specs.Decimal.{letter}
use Rattle.fields.proofs.Bits.{letter_at, letters_long, reach_below}
use Rattle.fields.proofs.letters.reach_value.Invariants.{bit_at}
use Rattle.fields.proofs.letters.reach_value.Goals as goal

-- n letters are taken
all_taken : (text : List ℕ) (n : ℕ) → count n (λ j. within (letter 0) (get_or text j 0) (letter 1)) ≡ n → n ≡ length (take n text)
all_taken text n e = let long = letters_long text n e in omega (arith, length-take n text)

pub slice_bounds-letter-items-end : goal.slice_bounds-letter-items-end
slice_bounds-letter-items-end c =
    all_taken c.args.text.now c.args.n c.requires.letters

pub loop-j-init : goal.loop-j-init
loop-j-init c =
    sum_start (bit_at c.args.text.now)

-- One letter of n: it is the text's, so it is 0 or 1, and its bit is added.
module _ (text : List ℕ) (n : ℕ) (e : count n (λ j. within (letter 0) (get_or text j 0) (letter 1)) ≡ n) (j : ℕ) (l : j < length (take n text)) where
  here : j < n
  here = let all = all_taken text n e in omega arith

  letter_here : (letter 0 ≤ get_or (take n text) j 0) × (get_or (take n text) j 0 ≤ letter 1)
  letter_here = let below = here in rw (get_or-take n text j 0 below) (letter_at text n e j below)

  module _ (fits : n ≤ largest) (reach : ℕ) (before : reach ≡ sum j (bit_at text)) where
    added : reach + ((get_or (take n text) j 0 - letter 0) * 2 ^ j) % 2 ^ largest ≡ sum (j + 1) (bit_at text)
    added =
        let below = here in
        let moved = (width_facts largest).moved (get_or (take n text) j 0 - letter 0) j (omega (arith, letter_here)) (omega arith) in
        sum_step j _ _ _ before (moved ∙ ap (λ (b : ℕ). (b - letter 0) * 2 ^ j) (get_or-take n text j 0 below))

    fits_reach : reach + ((get_or (take n text) j 0 - letter 0) * 2 ^ j) % 2 ^ largest < 2 ^ largest
    fits_reach =
        let inside = here in
        let below = reach_below text n e (j + 1) (omega arith) in
        let room : 2 ^ (j + 1) ≤ 2 ^ largest = pow_mono {i = j + 1} {j = largest} (omega arith) in
        omega (arith, added)

pub overflow_sub-digit : goal.overflow_sub-digit
overflow_sub-digit c =
    (letter_here c.args.text.now c.args.n c.requires.letters c.loop-j.j c.loop-j-test.true).0

pub overflow_add-reach : goal.overflow_add-reach
overflow_add-reach c =
    let l = c.loop-j in
    omega (arith, fits_reach c.args.text.now c.args.n c.requires.letters l.j c.loop-j-test.true c.requires.width l.reach l.invariant)

pub loop-j-preserved : goal.loop-j-preserved
loop-j-preserved c =
    let l = c.loop-j in
    added c.args.text.now c.args.n c.requires.letters l.j c.loop-j-test.true c.requires.width l.reach l.invariant

pub returns : goal.returns
returns c =
    record { summed = let l = c.loop-j in let all = all_taken c.args.text.now c.args.n c.requires.letters in sum_end l.j _ _ _ l.invariant (omega arith) (omega arith) }
