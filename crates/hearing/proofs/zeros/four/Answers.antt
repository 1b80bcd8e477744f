-- `four` meets its contract: the four bytes of the number are the codes at the four places. Assumes nothing.
use mathlib.Core.Path.{ap}
use Prim.Native.Nat.{ℕ}
use native.Mathlib.Nat.{add-zero}
use native.Mathlib.Omega.{arith}
use lib.ListN.{get_or}
use Rattle.laws.specs.Below.{sum}
use Rattle.hearing.proofs.zeros.four.Goals as goal

pub returns : goal.returns
unfolding sum
returns c =
    record {
      bytes = let a = c.args in
          let first = ap (λ (x : ℕ). get_or a.row.now x 0) (add-zero a.at) in
          omega arith;
    }
