-- `reach_value` meets its contract: after j letters the number is the sum of the first j bits, which is below 2 ^ j. Assumes nothing.
use mathlib.Core.Path.{◌≡◌}
use mathlib.Core.List.{List}
use Prim.Native.Nat.{ℕ, ◌-◌, ◌*◌, ◌^◌}
use lib.ListN.{get_or}
use Rattle.laws.specs.Below.{sum}
use Rattle.fields.specs.Decimal.{letter}
use Rattle.fields.proofs.letters.reach_value.Given as goal

abbrev pub bit_at : List ℕ → ℕ → ℕ
bit_at text j = (get_or text j 0 - letter 0) * 2 ^ j

abbrev pub invariant-loop-j : goal.invariant-loop-j
invariant-loop-j l = l.reach ≡ sum l.j (bit_at l.text)
