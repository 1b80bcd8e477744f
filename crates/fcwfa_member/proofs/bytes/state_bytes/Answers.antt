-- `state_bytes` meets its contract: its last eight bytes are those of the set, each at its place. Assumes nothing.
use native.Mathlib.Nat.{div-one}
use Rattle.laws.specs.Below.{tabulate}
use Rattle.fcwfa_member.proofs.bytes.state_bytes.Goals as goal

pub returns : goal.returns
unfolding tabulate
returns c =
    record { are = rw (c.to_le_bytes.ensures, div-one) }
