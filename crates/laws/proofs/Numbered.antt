-- The questions have the numbers of the documents: they are computed, all at once. Assumes nothing.
use mathlib.Core.Path.{refl}
use Rattle.laws.specs.Numbered.{Numbered}

pub numbered : Numbered
numbered = record { numbers = refl }
