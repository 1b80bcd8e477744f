-- The kinds and the order of the two numbers. Assumes nothing.
use mathlib.Core.Path.{refl}
use Rattle.fcwfa_why.specs.Numbers.{ReasonNumbers}

pub reason_numbers_lem : ReasonNumbers
reason_numbers_lem = record { kinds = refl; in_order = refl }
