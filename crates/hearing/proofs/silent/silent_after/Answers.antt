-- `silent_after` meets its contract: a row that does not set the set leaves it, and one that does makes it the places at which 0 stands. Assumes nothing.
use mathlib.Core.Path.{◌≡◌, ◌∙◌}
use mathlib.Core.Bool.{true, false}
use Prim.Native.Nat.{ℕ, ◌≤◌, ◌<◌}
use native.Mathlib.Omega.{arith}
use lib.ListN.{length, get_or}
use Rattle.laws.proofs.Test.{was_false, was_true}
use Rattle.member.specs.Hearing.{sets_silent, silent_after}
use Rattle.member.proofs.Silent.{sets}
use Rattle.hearing.proofs.Counted.{estimates_high}
use Rattle.hearing.proofs.HeardRows.{short}
use Rattle.hearing.proofs.SilentRow.{plain_codes, silent_nobody, silent_zeros}
use Rattle.hearing.proofs.silent.silent_after.Goals as goal
use Rattle.hearing.proofs.silent.silent_after.Goals.{Else-not-is_set}

pub returns-then-not-is_set : goal.returns-then-not-is_set
unfolding silent_after
returns-then-not-is_set c =
    record {
      left = let a = c.args.heard.now in
          let h : sets_silent a.member a.counts ≡ false = was_false c.is_set.ensures.tested c.if-not-is_set.true in
          rw (← c.args.heard.now.counted, h);
    }

pub overflow_add-estimates : goal.overflow_add-estimates
overflow_add-estimates c =
    let p = c.args.heard.now in omega (arith, estimates_high _ _ p.counted, short p)

-- the row sets the set
is_set : (c : Else-not-is_set) → let a = c.args.heard.now in sets_silent a.member a.counts ≡ true
is_set c = was_true c.is_set.ensures.tested c.if-not-is_set.false

pub returns-then-estimates-row : goal.returns-then-estimates-row
unfolding silent_after
returns-then-estimates-row c =
    record {
      left = let p = c.args.heard.now in
          rw (← p.counted, is_set (goal.at.returns-then-estimates-row c).Else-not-is_set) (silent_nobody _ _ p.counted c.if-estimates-row.true);
    }

-- and so its codes are 0, 1 and 2
low : (c : Else-not-is_set) → let a = c.args.heard.now in (j : ℕ) → j < length a.row.now → get_or a.row.now j 0 ≤ 2
low c = let p = c.args.heard.now in plain_codes _ _ p.counted p.codes (sets _ _ (is_set c)).untold

pub invariant_of-zero_places : goal.invariant_of-zero_places
invariant_of-zero_places c =
    record { short = short c.args.heard.now; low = low (goal.at.invariant_of-zero_places c).Else-not-is_set }

pub returns : goal.returns
unfolding silent_after
returns c =
    record { left = rw (← c.args.heard.now.counted, is_set (goal.at.returns c).Else-not-is_set) (c.zero_places.ensures.named ∙ silent_zeros c.args.heard.now.row.now (low (goal.at.returns c).Else-not-is_set)) }
