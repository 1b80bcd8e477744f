-- The numbers of a reading in their order, computed. Assumes nothing.
use mathlib.Core.Path.{refl}
use Rattle.fcwfa_texts.specs.Numbers.{NumbersInOrder}

pub numbers_in_order : NumbersInOrder
numbers_in_order = record { sizes = refl; line = refl; no_refusal = refl; refusal = refl }
