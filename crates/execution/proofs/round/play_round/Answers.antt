-- `play_round` meets its contract: each turn has one member hear the row that was delivered for it (OneRound.antt) and enters what it says next, and those
-- after it are as they were, in the array and among the codes. Assumes nothing.
use Prim.Native.Nat.{ℕ}
use mathlib.Core.List.{[]}
use mathlib.Core.Path.{◌≡◌, refl, sym, ap, ap₂, ◌∙◌}
use native.Mathlib.Omega.{arith}
use borrow.Author.Rules.{rules}
use lib.ListN.{get_or, take}
use Rattle.sets.specs.Largest.{fitting}
use Rattle.laws.proofs.Overwritten.{over_start, over_more, over_past}
use Rattle.member.specs.declared.Member.{Member}
use Rattle.run.specs.Protocol.{nobody}
use Rattle.run.specs.Run.{state_at, state_after}
use Rattle.execution.specs.Calls.{calls}
use Rattle.execution.proofs.OneRound.{all_heard, plays_round, all_said}
use Rattle.execution.proofs.round.play_round.Goals as goal
use Rattle.execution.proofs.round.play_round.Goals.{After-entry_at}

pub loop-i-init : goal.loop-i-init
loop-i-init c =
    (c.fitting-size.ensures.fit, over_start refl, over_start refl, search rules, (let room = c.requires.room.1 in let same = c.fitting-size.ensures.fit in omega arith))

-- the member at place i is the one that was given
member_here : (c : After-entry_at) → let l = c.loop-i in state_at l.members l.i ≡ state_at c.args.members.now l.i
member_here c = let l = c.loop-i in over_past l.invariant.1 l.i nobody (omega arith)

-- and so is the code, which is what that member says
pub invariant_of-before : goal.invariant_of-before
invariant_of-before c =
    record {
      said = let l = c.loop-i in over_past l.invariant.2 l.i 0 (omega arith) ∙ c.requires.said_before l.i (omega arith) ∙ ap calls.says (sym (member_here c));
    }

pub loop-i-preserved : goal.loop-i-preserved
loop-i-preserved c =
    let a = c.args in
    let size = c.fitting-size.result in
    let at = c.loop-i in
    let turn = c.next_turn-turn in
    let state =
    turn.ensures.state
    ∙ ap₂ (λ (crash : ℕ) (m : Member). state_after calls a.round crash m (take size (get_or c.deliver.new.grid at.i [])))
    c.entry_at.ensures.entry (member_here (goal.at.loop-i-preserved c).After-entry_at)
    in (
      at.invariant.0,
      over_more (omega arith) at.invariant.1 state,
      over_more (omega arith) at.invariant.2 (turn.result.said ∙ ap calls.says state),
      at.invariant.3,
      at.invariant.4,
    )

pub returns : goal.returns
returns c =
    let a = c.args in
    let pre = c.requires in
    let at = c.loop-i in
    let delivered = c.deliver.ensures.delivered pre.room.0 in
    let hears = all_heard calls a.n a.round a.crashes.now c.deliver.new.grid at.invariant.0 (omega arith) at.invariant.1 in record { played = plays_round calls (fitting a.n) a.round (λ j. get_or a.codes.now j 0) a.crashes.now a.reaches.now delivered pre.said_before hears; said = all_said calls a.n a.round a.crashes.now c.deliver.new.grid at.invariant.0 (omega arith) hears at.invariant.2 }
