-- `enter_crashing` meets its contract: a sender that crashes in another round, or never, changes nothing, and else each turn changes one row. Assumes
-- nothing.
use Prim.Native.Nat.{ℕ}
use mathlib.Core.Bool.{Bool, true, false, cond}
use mathlib.Core.List.{List, [], ◌∷◌}
use mathlib.Core.Path.{◌≡◌, refl, ◌∙◌, ap, ap₂}
use native.Mathlib.Omega.{arith}
use lib.ListN.{get_or, set}
use Rattle.laws.specs.Below.{bit}
use Rattle.laws.proofs.Overwritten.{over_start, over_more, over_past}
use Rattle.sets.specs.Sets.{names}
use Rattle.member.specs.Saying.{nothing}
use Rattle.delivery.proofs.rows.enter_crashing.Goals as goal

pub loop-i-init : goal.loop-i-init
loop-i-init c =
    over_start refl

-- what stands in the array at the bit of a test
looked_up : (code : ℕ) (b : Bool) → get_or (0 ∷ code ∷ []) (bit b) 0 ≡ cond b code nothing
looked_up code true = refl
looked_up code false = refl

pub loop-i-preserved : goal.loop-i-preserved
loop-i-preserved c =
    let a = c.args in
    let at = c.loop-i in
    let code = get_or a.this_round.now.codes.now a.j 0 in
    let read = c.entry_at-reach.ensures.entry in
    over_more (omega arith) at.invariant
    (ap₂ (λ (row : List ℕ) (x : ℕ). set row a.j x) (over_past at.invariant at.i [] (omega arith))
    (ap (λ (k : ℕ). get_or (0 ∷ code ∷ []) k 0) c.bit.ensures.counted
    ∙ looked_up code c.is_named.result
    ∙ ap (λ (b : Bool). cond b code nothing) (c.is_named.ensures.tested ∙ ap (λ (reach : ℕ). names reach at.i) read)))
