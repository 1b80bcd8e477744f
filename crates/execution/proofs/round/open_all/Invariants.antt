-- `open_all` meets its contract: each turn opens one member and enters what it says. Assumes nothing.
use Prim.Native.Nat.{◌+◌, ◌≤◌}
use mathlib.Core.Path.{◌≡◌}
use lib.ListN.{length, get_or}
use Rattle.sets.specs.Largest.{fitting}
use Rattle.laws.specs.Filled.{Overwritten}
use Rattle.execution.specs.Calls.{calls}
use Rattle.execution.specs.Rounds.{no_members}
use Rattle.execution.proofs.round.open_all.Given as goal

abbrev pub invariant-loop-i : goal.invariant-loop-i
invariant-loop-i l =
    (l.size ≡ fitting l.n)
    × Overwritten l.i (λ k. calls.opening l.size l.t (k + 1) (get_or l.votes k 0)) no_members l.members
    × Overwritten l.i (λ k. calls.says (calls.opening l.size l.t (k + 1) (get_or l.votes k 0))) l.initial.codes l.codes
    × (l.size ≤ length l.initial.codes)
