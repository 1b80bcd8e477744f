-- `store_row` meets its contract: each turn stores the row once more. Assumes nothing.
use mathlib.Core.Path.{refl}
use native.Mathlib.Omega.{arith}
use Rattle.laws.proofs.Overwritten.{over_start, over_more}
use Rattle.delivery.proofs.rows.store_row.Goals as goal

pub loop-stored-init : goal.loop-stored-init
loop-stored-init c = over_start refl

pub loop-stored-preserved : goal.loop-stored-preserved
loop-stored-preserved c = over_more (omega arith) c.loop-stored.invariant refl
