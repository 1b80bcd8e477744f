-- `decide` meets its contract: either grid has a row for each process. Assumes nothing.
use mathlib.Core.Path.{◌≡◌, ap}
use native.Mathlib.Omega.{arith}
use lib.ListN.{length}
use Rattle.sets.specs.Largest.{largest}
use Rattle.acceptance.proofs.Kept.{kept}
use Rattle.execution.proofs.decision.decide.Goals as goal

pub decide_on-requires-2 : goal.decide_on-requires-2
decide_on-requires-2 c =
    let n_high = (kept c.args.schedule.now).n_high in
    let rows : length c.blank_rows-grid-2.result ≡ largest = ap length c.blank_rows-grid-2.ensures.blank in
    record { size = omega arith }
