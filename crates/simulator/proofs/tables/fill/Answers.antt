-- `fill` meets its contract: each turn stores the decision and the round of one process. Assumes nothing.
use mathlib.Core.Path.{◌≡◌, sym, ◌∙◌}
use Prim.Native.Nat.{◌<◌}
use native.Mathlib.Omega.{arith}
use lib.ListN.{length, get_or, take}
use lib.Seq.{get_or-take, length-take-le}
use Rattle.std.proofs.Common.{rules}
use Rattle.sets.specs.Largest.{largest}
use Rattle.laws.proofs.Filled.{each_more, each_all, filled_list}
use Rattle.run.specs.Protocol.{nobody}
use Rattle.run.specs.Report.{decision_of}
use Rattle.simulator.proofs.tables.fill.Goals as goal

pub loop-i-preserved : goal.loop-i-preserved
unfolding decision_of
loop-i-preserved c =
    let inv = c.loop-i.invariant in
    let n = length c.args.decisions.now in
    let long : length c.args.members ≡ largest = search rules in
    let all = length-take-le n c.args.members (omega arith) in
    let below : c.loop-i.i < n = omega arith in
    let here : get_or (take n c.args.members) c.loop-i.i nobody ≡ get_or c.args.members c.loop-i.i nobody = get_or-take n c.args.members c.loop-i.i nobody below in
    (each_more below inv.0 (rw (← here) c.decision.ensures.is), each_more below inv.1 (rw (← here)))

pub returns : goal.returns
returns c =
    let n = length c.args.decisions.now in
    let long : length c.args.members ≡ largest = search rules in
    let all = length-take-le n c.args.members (omega arith) in
    let inv = c.loop-i.invariant in
    let decisions_long = inv.0.long in
    let rounds_long = inv.1.long in record { decided = filled_list decisions_long (each_all (omega arith) inv.0); timed = filled_list (rounds_long ∙ sym c.requires.size.1) (each_all (omega arith) inv.1) }
