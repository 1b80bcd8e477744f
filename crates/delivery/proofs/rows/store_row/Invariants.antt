-- `store_row` meets its contract: each turn stores the row once more. Assumes nothing.
use Prim.Native.Nat.{ℕ}
use Rattle.laws.specs.Filled.{Overwritten}
use Rattle.delivery.proofs.rows.store_row.Given as goal

abbrev pub invariant-loop-stored : goal.invariant-loop-stored
invariant-loop-stored l = Overwritten l.stored-index (λ (_ : ℕ). l.row) l.initial.stored-items l.stored-items
