-- `zero_places` meets its contract: the whole eights and what is left after them are the row. Assumes nothing.
use mathlib.Core.Path.{◌≡◌, ap, ◌∙◌}
use Prim.Native.Nat.{ℕ, ◌+◌, ◌-◌, ◌*◌, ◌/◌, ◌%◌, ◌^◌}
use native.Mathlib.Omega.{arith}
use lib.ListN.{length}
use Rattle.sets.specs.Largest.{largest}
use Rattle.sets.specs.Sets.{set_of}
use Rattle.hearing.proofs.Places.{silent, room, added, last}
use Rattle.hearing.proofs.zeros.zero_places.Goals as goal
use Rattle.hearing.proofs.zeros.zero_places.Goals.{After-eight}

-- what is left after the whole eights is added to them
whole : (c : After-eight)
    → let row = c.args.row.now.codes.now in
    let n = length row in
    c.eights-set.result + (c.eight.result / 2 ^ (8 - n % 8) * 2 ^ (n - n % 8)) % 2 ^ largest ≡ set_of n (silent row)
whole c =
    let row = c.args.row.now.codes.now in
    let n = length row in
    let left = n % 8 in
    let end = ap (λ (x : ℕ). x / 2 ^ (8 - left)) c.eight.ensures.gathered ∙ last row 8 (n - left) left (n - 8) (omega arith) (omega arith) in
    added row (n - left) left _ _ (omega arith) c.eights-set.ensures.named end
    ∙ ap (λ (i : ℕ). set_of i (silent row)) {x = n - left + left} {y = n} (omega arith)

pub overflow_add-result : goal.overflow_add-result
overflow_add-result c =
    let row = c.args.row.now.codes.now in
    omega (arith, whole c, room row (length row) c.args.row.now.short)

pub returns : goal.returns
returns c =
    record { named = whole c }
