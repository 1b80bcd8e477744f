-- `deliver` meets its contract: every row starts as the codes of those that complete the round, and each turn looks at one sender (Heard.antt). Assumes
-- nothing.
use Rattle.delivery.proofs.Heard.{RowsSoFar}
use Rattle.delivery.proofs.deliver.Given as goal

abbrev pub invariant-loop-j : goal.invariant-loop-j
invariant-loop-j l = let r = l.this_round in RowsSoFar r.crashes.now r.reaches.now r.codes.now r.round l.size l.j l.initial.grid l.grid
