-- `is_named` meets its contract: bit i of a set is the lowest one once i bits are shifted out. Assumes nothing.
use mathlib.Core.Path.{sym, ap}
use Prim.Native.Nat.{ℕ, ◌/◌, ◌^◌}
use native.Mathlib.Omega.{arith}
use lib.Bits.{and_mask}
use lib.Dec.{eqb}
use Rattle.sets.specs.Largest.{largest}
use Rattle.sets.specs.Sets.{names}
use Rattle.sets.proofs.Theorem.{width_facts}
use Rattle.sets.proofs.is_named.Goals as goal

pub returns-then-i-ge-WIDTH : goal.returns-then-i-ge-WIDTH
returns-then-i-ge-WIDTH c =
    record { tested = let a = c.args in sym (((width_facts largest).sets largest (omega arith)).nobody_past a.set a.i (omega arith) (omega arith)) }

pub returns : goal.returns
unfolding names
returns c =
    record { tested = let a = c.args in ap (λ (x : ℕ). eqb x 1) (and_mask (a.set / 2 ^ a.i) 1) }
