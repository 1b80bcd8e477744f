-- `put` meets its contract: after i bytes the first i of the part are written. Assumes nothing.
use native.Mathlib.Omega.{arith}
use Rattle.buffer.proofs.Puts.{puts_none, puts_next}
use Rattle.buffer.proofs.Writer.put.Goals as goal

pub loop-byte-init : goal.loop-byte-init
loop-byte-init c = puts_none _

pub loop-byte-preserved : goal.loop-byte-preserved
loop-byte-preserved c =
    puts_next c.args.part.now c.loop-byte.byte-index (omega arith) c.loop-byte.invariant c.put_byte.ensures.written
