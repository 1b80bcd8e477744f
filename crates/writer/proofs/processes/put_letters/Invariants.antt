-- `put_letters` meets its contract: after j places their letters are written. Assumes nothing.
use Rattle.text.specs.Written.{letters_of}
use Rattle.buffer.specs.Puts.{Puts}
use Rattle.writer.proofs.processes.put_letters.Given as goal

abbrev pub invariant-loop-j : goal.invariant-loop-j
invariant-loop-j l = Puts l.initial.out l.out (letters_of l.j l.reach)
