-- `play_round` meets its contract: each turn has one member hear the row that was delivered for it (OneRound.antt) and enters what it says next, and those
-- after it are as they were, in the array and among the codes. Assumes nothing.
use Prim.Native.Nat.{ℕ, ◌≤◌}
use mathlib.Core.List.{List, []}
use mathlib.Core.Path.{◌≡◌}
use lib.ListN.{length, get_or, take}
use Rattle.sets.specs.Largest.{largest, fitting}
use Rattle.laws.specs.Filled.{Overwritten}
use Rattle.member.specs.declared.Member.{Member}
use Rattle.run.specs.Run.{state_at, state_after}
use Rattle.execution.specs.Calls.{calls}
use Rattle.execution.proofs.round.play_round.Given as goal

abbrev pub heard_at : ℕ → List ℕ → List (List ℕ) → ℕ → List Member → ℕ → Member
heard_at round crashes grid size members k = state_after calls round (get_or crashes k 0) (state_at members k) (take size (get_or grid k []))

abbrev pub invariant-loop-i : goal.invariant-loop-i
invariant-loop-i l =
    (l.size ≡ fitting l.n)
    × Overwritten l.i (heard_at l.round l.crashes l.grid l.size l.initial.members) l.initial.members l.members
    × Overwritten l.i (λ k. calls.says (heard_at l.round l.crashes l.grid l.size l.initial.members k)) l.initial.codes l.codes
    × (length l.initial.members ≡ largest)
    × (l.size ≤ length l.initial.codes)
