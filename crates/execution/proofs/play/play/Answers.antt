-- `play` meets its contract: either grid has a row for each process. Assumes nothing.
use mathlib.Core.Path.{◌≡◌, ap}
use native.Mathlib.Omega.{arith}
use lib.ListN.{length}
use Rattle.sets.specs.Largest.{largest}
use Rattle.acceptance.proofs.Kept.{kept}
use Rattle.execution.proofs.play.play.Goals as goal

pub play_on-requires-2 : goal.play_on-requires-2
play_on-requires-2 c =
    let n_high = (kept c.args.schedule.now).n_high in
    let rows : length c.blank_rows-grid-2.result ≡ largest = ap length c.blank_rows-grid-2.ensures.blank in
    record { rounds = c.requires.rounds; size = omega arith }
