-- `fill` meets its contract: each turn stores the decision and the round of one process. Assumes nothing.
use lib.ListN.{length}
use Rattle.laws.specs.Filled.{Filled}
use Rattle.run.specs.Report.{round_of, decision_of}
use Rattle.simulator.proofs.tables.fill.Given as goal

abbrev pub invariant-loop-i : goal.invariant-loop-i
invariant-loop-i l =
    Filled 0 (length l.initial.decisions) l.i l.decisions (decision_of l.fn.members)
    × Filled 0 (length l.initial.decisions) l.i l.rounds (round_of l.fn.members)
