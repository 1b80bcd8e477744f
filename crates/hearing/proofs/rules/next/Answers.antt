-- `next` meets its contract. Assumes nothing.
use native.Mathlib.Omega.{arith}
use borrow.Author.Tests.{eq-eqb, ne_eqb}
use Rattle.member.specs.Hearing.{becomes}
use Rattle.member.proofs.Range.{in_range_ranged}
use Rattle.hearing.proofs.rules.next.Goals as goal

pub moved-requires : goal.moved-requires
moved-requires c =
    record { room = omega (arith, in_range_ranged _ _ c.args.heard.now.in_range) }

pub returns-then-m-ne0 : goal.returns-then-m-ne0
unfolding becomes
returns-then-m-ne0 c =
    record { went = simp (ne_eqb _ _ c.if-m-ne0.true) c.moved.ensures.went }

pub returns-then-m-eq1 : goal.returns-then-m-eq1
unfolding becomes
returns-then-m-eq1 c =
    record { went = simp (eq-eqb _ _ c.if-m-ne0.false, eq-eqb _ _ c.if-m-eq1.true, ← c.first_estimate.ensures.is) c.moved-then-m-eq1.ensures.went }

pub rule_met-requires : goal.rule_met-requires
rule_met-requires c =
    record { later = omega (arith, in_range_ranged _ _ c.args.heard.now.in_range, c.if-m-eq1.false) }

pub by_rule-requires : goal.by_rule-requires
by_rule-requires c =
    record { room = omega (arith, in_range_ranged _ _ c.args.heard.now.in_range) }

pub returns : goal.returns
unfolding becomes
returns c =
    record { went = simp (eq-eqb _ _ c.if-m-ne0.false, ne_eqb _ _ c.if-m-eq1.false, ← c.rule_met.ensures.met) c.by_rule.ensures.went }
