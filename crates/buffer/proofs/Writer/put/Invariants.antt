-- `put` meets its contract: after i bytes the first i of the part are written. Assumes nothing.
use lib.ListN.{take}
use Rattle.buffer.specs.Puts.{Puts}
use Rattle.buffer.proofs.Writer.put.Given as goal

abbrev pub invariant-loop-byte : goal.invariant-loop-byte
invariant-loop-byte l = Puts l.initial.self l.self (take l.byte-index l.part)
