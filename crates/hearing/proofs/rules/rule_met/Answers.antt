-- `rule_met` meets its contract: its tests are those of `rule_met`, in order. Assumes nothing.
use mathlib.Core.Path.{◌≡◌}
use mathlib.Core.Bool.{cond}
use Prim.Native.Nat.{◌+◌}
use lib.Dec.{eqb}
use native.Mathlib.Omega.{arith}
use borrow.Author.Tests.{eq-eqb, ne_eqb}
use Rattle.member.specs.declared.Rule.TheVariants.{LastRound, NoRule}
use Rattle.member.specs.Hearing.{rule_met}
use Rattle.hearing.proofs.HeardRows.{few}
use Rattle.member.proofs.Range.{in_range_ranged}
use Rattle.hearing.proofs.rules.rule_met.Goals as goal
use Rattle.hearing.proofs.rules.rule_met.Goals.{Else-is_enough}

pub returns-then-is_told : goal.returns-then-is_told
unfolding rule_met
returns-then-is_told c =
    record { met = simp (← c.is_told.ensures.tested, c.if-is_told.true) }

pub returns-then-is_zeros_only : goal.returns-then-is_zeros_only
unfolding rule_met
returns-then-is_zeros_only c =
    record { met = simp (← c.is_told.ensures.tested, c.if-is_told.false, ← c.is_zeros_only.ensures.tested, c.if-is_zeros_only.true) }

pub returns-then-is_quiet : goal.returns-then-is_quiet
unfolding rule_met
returns-then-is_quiet c =
    record { met = simp (← c.is_told.ensures.tested, c.if-is_told.false, ← c.is_zeros_only.ensures.tested, c.if-is_zeros_only.false, ← c.is_quiet.ensures.tested, c.if-is_quiet.true) }

pub returns-then-is_enough : goal.returns-then-is_enough
unfolding rule_met
returns-then-is_enough c =
    record { met = simp (← c.is_told.ensures.tested, c.if-is_told.false, ← c.is_zeros_only.ensures.tested, c.if-is_zeros_only.false, ← c.is_quiet.ensures.tested, c.if-is_quiet.false, ← c.is_enough.ensures.tested, c.if-is_enough.true) }

-- past the first four rules
up_to_last : (c : Else-is_enough) → let h = c.args.heard.now in let a = h.member in rule_met a.n a.t a.round h.counts ≡ cond (eqb a.round (a.t + 1)) LastRound NoRule
unfolding rule_met
up_to_last c =
    simp (
      ← c.is_told.ensures.tested,
      c.if-is_told.false,
      ← c.is_zeros_only.ensures.tested,
      c.if-is_zeros_only.false,
      ← c.is_quiet.ensures.tested,
      c.if-is_quiet.false,
      ← c.is_enough.ensures.tested,
      c.if-is_enough.false,
    )

pub returns-then-r-t : goal.returns-then-r-t
returns-then-r-t c =
    record {
      met = let a = c.args.heard.now.member in
          simp (up_to_last (goal.at.returns-then-r-t c).Else-is_enough, eq-eqb a.round (a.t + 1) (omega arith));
    }

pub returns : goal.returns
returns c =
    record {
      met = let a = c.args.heard.now.member in
          simp (up_to_last (goal.at.returns c).Else-is_enough, ne_eqb a.round (a.t + 1) c.if-r-t.false);
    }

pub overflow_add-t : goal.overflow_add-t
overflow_add-t c =
    let h = c.args.heard.now in
    omega (arith, few h, in_range_ranged _ _ h.in_range)
