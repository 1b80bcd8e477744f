-- `put_byte` meets its contract: the byte is stored if there is a place left, and else left out. Assumes nothing.
use mathlib.Core.Path.{refl}
use native.Mathlib.Omega.{arith}
use Rattle.buffer.proofs.Written.{byte_stored, byte_left_out}
use Rattle.buffer.proofs.Writer.put_byte.Goals as goal

pub returns-then-self : goal.returns-then-self
returns-then-self c =
    record { written = record { same_buffer = refl; writes = byte_stored _ _ _ (omega arith) } }

pub returns-else-self : goal.returns-else-self
returns-else-self c =
    record { written = record { same_buffer = refl; writes = byte_left_out _ _ _ (omega arith) } }
