-- `reported` meets its contract: the tables that it lends are n long. Assumes nothing.
use mathlib.Core.Path.{◌≡◌, sym}
use mathlib.Core.List.{List}
use Prim.Native.Nat.{ℕ}
use native.Mathlib.Omega.{arith}
use lib.ListN.{length, take}
use lib.Seq.{length-take-le}
use Rattle.sets.specs.Largest.{largest}
use Rattle.schedule.proofs.Accepted.{answers_long}
use Rattle.output.proofs.Given.{n_small}
use Rattle.output.proofs.whole.reported.Goals as goal
use Rattle.output.proofs.whole.reported.Goals.{Start}

-- the part of an own table that is lent has an entry for each process: an accepted schedule has no more of them than the table has places
part_long : (c : Start) (table : List ℕ) → length table ≡ largest → let n = c.args.schedule.now.tables.n in length (take n table) ≡ n
part_long c table long = let small = n_small _ largest _ c.args.schedule.now.accepted in length-take-le _ table (omega arith)

pub slice_bounds-completed-end : goal.slice_bounds-completed-end
slice_bounds-completed-end c = sym (part_long (goal.at.slice_bounds-completed-end c).Start _ c.blank_table-decisions.ensures.long)

pub slice_bounds-completed-end-2 : goal.slice_bounds-completed-end-2
slice_bounds-completed-end-2 c = sym (part_long (goal.at.slice_bounds-completed-end-2 c).Start _ c.blank_table-decided.ensures.long)

pub completed-requires : goal.completed-requires
completed-requires c =
    let long = part_long (goal.at.completed-requires c).Start in
    record { long = answers_long _ _ _ (long _ c.blank_table-decisions.ensures.long) (long _ c.blank_table-decided.ensures.long) }
