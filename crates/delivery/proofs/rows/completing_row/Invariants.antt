-- `completing_row` meets its contract: each turn enters one sender, and those past the end of the crash rounds come after. Assumes nothing.
use mathlib.Core.Bool.{cond}
use lib.ListN.{get_or, replicate}
use Rattle.laws.specs.Filled.{Overwritten}
use Rattle.sets.specs.Largest.{largest}
use Rattle.member.specs.Saying.{nothing}
use Rattle.run.specs.Run.{completes_round}
use Rattle.delivery.proofs.rows.completing_row.Given as goal

abbrev pub invariant-loop-j : goal.invariant-loop-j
invariant-loop-j l =
    let r = l.this_round in
    Overwritten l.j (λ k. cond (completes_round r.round (get_or r.crashes.now k 0)) (get_or r.codes.now k 0) nothing) (replicate largest 0) l.row
