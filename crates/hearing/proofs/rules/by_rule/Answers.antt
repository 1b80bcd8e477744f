-- `by_rule` meets its contract: a rule that is neither the first nor none decides by the estimate. Assumes nothing.
use Rattle.member.specs.Hearing.{by_rule}
use Rattle.hearing.proofs.Deciding.{by_other}
use Rattle.hearing.proofs.rules.by_rule.Goals as goal

pub returns-in-Told : goal.returns-in-Told
unfolding by_rule
returns-in-Told c =
    record { went = simp (c.in-Told.is, ← c.told_value.ensures.is) c.moved.ensures.went }

pub returns-in-NoRule : goal.returns-in-NoRule
unfolding by_rule
returns-in-NoRule c =
    record { went = simp (c.in-NoRule.is, ← c.lower.ensures.is) c.moved-in-NoRule.ensures.went }

pub returns-in_default : goal.returns-in_default
returns-in_default c =
    record {
      went = let a = c.args in
          simp (by_other a.rule a.m a.k c.in_default.not-Told c.in_default.not-NoRule, ← c.lower-in_default.ensures.is) c.moved-in_default.ensures.went;
    }
