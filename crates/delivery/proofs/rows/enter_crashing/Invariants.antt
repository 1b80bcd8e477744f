-- `enter_crashing` meets its contract: a sender that crashes in another round, or never, changes nothing, and else each turn changes one row. Assumes
-- nothing.
use Prim.Native.Nat.{ℕ}
use mathlib.Core.Bool.{cond}
use mathlib.Core.List.{[]}
use lib.ListN.{get_or, set}
use Rattle.laws.specs.Filled.{Overwritten}
use Rattle.sets.specs.Sets.{names}
use Rattle.member.specs.Saying.{nothing}
use Rattle.delivery.proofs.rows.enter_crashing.Given as goal

abbrev pub invariant-loop-i : goal.invariant-loop-i
invariant-loop-i l =
    let r = l.this_round in
    Overwritten l.i (λ (k : ℕ). set (get_or l.initial.grid k []) l.j (cond (names (get_or r.reaches.now l.j 0) k) (get_or r.codes.now l.j 0) nothing)) l.initial.grid l.grid
