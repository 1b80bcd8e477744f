-- `state_in` meets its contract. Assumes nothing.
use native.Mathlib.Nat.{mul-one, zero-add}
use Rattle.laws.specs.Below.{sum}
use Rattle.fcwfa_member.proofs.bytes.state_in.Goals as goal

pub returns : goal.returns
unfolding sum
returns c =
    record { is = rw (c.from_le_bytes.ensures, zero-add, mul-one) }
