-- `speakers` meets its contract: each turn counts one code. Assumes nothing.
use Prim.Native.Nat.{◌≤◌}
use mathlib.Core.Bool.{not}
use mathlib.Core.Path.{◌≡◌}
use lib.Dec.{eqb}
use lib.ListN.{get_or}
use Rattle.laws.specs.Below.{count}
use Rattle.member.specs.Saying.{nothing}
use Rattle.delivery.proofs.copies.speakers.Given as goal

abbrev pub invariant-loop-code : goal.invariant-loop-code
invariant-loop-code l = (l.speaking ≡ count l.code-index (λ k. not (eqb (get_or l.code-items k 0) nothing))) × (l.speaking ≤ l.code-index)
