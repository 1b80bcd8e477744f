-- The two numbers in their order. Assumes nothing.
use mathlib.Core.Path.{refl}
use Rattle.fcwfa_outcome.specs.Numbers.{OutcomeNumbers}

pub outcome_numbers_lem : OutcomeNumbers
outcome_numbers_lem = record { in_order = refl }
