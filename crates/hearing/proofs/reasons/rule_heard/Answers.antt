-- `rule_heard` meets its contract. Assumes nothing.
use native.Mathlib.Omega.{arith}
use borrow.Author.Tests.{eq-eqb, ne_eqb}
use Rattle.member.specs.Reasons.{rule_heard}
use Rattle.member.proofs.Range.{in_range_ranged}
use Rattle.hearing.proofs.reasons.rule_heard.Goals as goal

pub returns-then-m-ne0 : goal.returns-then-m-ne0
unfolding rule_heard
returns-then-m-ne0 c =
    record { met = simp (ne_eqb _ _ c.if-m-ne0.true) }

pub returns-then-m-eq1 : goal.returns-then-m-eq1
unfolding rule_heard
returns-then-m-eq1 c =
    record { met = simp (eq-eqb _ _ c.if-m-ne0.false, eq-eqb _ _ c.if-m-eq1.true) }

pub rule_met-requires : goal.rule_met-requires
rule_met-requires c =
    record { later = omega (arith, in_range_ranged _ _ c.args.heard.now.in_range, c.if-m-eq1.false) }

pub returns : goal.returns
unfolding rule_heard
returns c =
    record { met = simp (eq-eqb _ _ c.if-m-ne0.false, ne_eqb _ _ c.if-m-eq1.false) c.rule_met.ensures.met }
