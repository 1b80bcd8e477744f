-- `eight` meets its contract: the number that it masks holds the eight codes, four of them in the upper halves of its bytes. Assumes nothing.
use mathlib.Core.Path.{◌≡◌, ap, ap₂, ◌∙◌}
use Prim.Native.Nat.{ℕ, ◌+◌, ◌-◌, ◌*◌, ◌/◌, ◌%◌, ◌^◌, ◌≤◌, ◌<◌}
use native.Mathlib.Nat.{add_assoc}
use native.Mathlib.Omega.{arith}
use lib.Bits.{bit_and}
use lib.ListN.{get_or}
use Rattle.laws.proofs.Sums.{sum_same}
use Rattle.hearing.proofs.Gathered.{joined, codes_high, gathered}
use Rattle.hearing.proofs.zeros.eight.Goals as goal
use Rattle.hearing.proofs.zeros.eight.Goals.{After-four-2}

-- the code at the k-th of the eight places
abbrev code_at : After-four-2 → ℕ → ℕ
code_at c k = let a = c.before.before.before.args in get_or a.row.now.codes.now (a.at + k) 0

-- which is at most 2
code_low : (c : After-four-2) (k : ℕ) → k < 8 → code_at c k ≤ 2
code_low c k l = c.args.row.now.low (c.args.at + k) (omega arith)

-- the two fours are the eight codes
codes_are : (c : After-four-2) → c.four.result + c.four-2.result * 16 ≡ joined (code_at c) + joined (λ k. code_at c (4 + k)) * 16
codes_are c =
    let a = c.args in
    let later = c.four-2.ensures.bytes ∙ sum_same 4 _ _ (λ k _. ap (λ (j : ℕ). get_or a.row.now.codes.now j 0 * 256 ^ k) (add_assoc a.at 4 k)) in
    ap₂ (λ (x y : ℕ). x + y * 16) c.four.ensures.bytes later

-- and they can be taken from the mask
codes_fit : (c : After-four-2) → c.four.result + c.four-2.result * 16 ≤ 0x22222222
codes_fit c = omega (arith, codes_are c, codes_high (code_at c) (code_low c))

pub overflow_mul-halves : goal.overflow_mul-halves
overflow_mul-halves c =
    omega (arith, codes_fit c)

pub overflow_add-halves : goal.overflow_add-halves
overflow_add-halves c =
    omega (arith, codes_fit c)

pub overflow_sub-zeros : goal.overflow_sub-zeros
overflow_sub-zeros c =
    omega (arith, codes_fit c)

pub returns : goal.returns
returns c =
    record { gathered = ap (λ (x : ℕ). bit_and (0x22222222 - x) 0x22222222 * 0x204081 / 0x400000 % 256) (codes_are c) ∙ gathered (code_at c) (code_low c) }
