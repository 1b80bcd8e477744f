-- `ones` meets its contract: a set has at most as many ones as bits, so that their number fits. Assumes nothing.
use native.Mathlib.Omega.{arith}
use Rattle.sets.specs.Largest.{largest}
use Rattle.sets.proofs.Theorem.{width_facts}
use Rattle.sets.proofs.ones.Goals as goal

pub overflow_cast-result : goal.overflow_cast-result
overflow_cast-result c =
    omega (arith, (width_facts largest).few _ c.ranges.set.fits)
