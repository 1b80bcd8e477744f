-- A text starts with some letters where the library's test of slices says so. Assumes nothing.
use mathlib.Core.Path.{◌≡◌, refl, ap}
use mathlib.Core.Bool.{Bool, ◌&&◌}
use mathlib.Core.List.{List, [], ◌∷◌}
use Prim.Native.Nat.{ℕ}
use lib.Dec.{eqb}
use Rattle.std.specs.List.{starts_with as List·starts_with}
use Rattle.fields.specs.Fields.{starts_with}

pub same_start : (letters text : List ℕ) → List·starts_with eqb text letters ≡ starts_with letters text
unfolding starts_with
same_start [] text = refl
same_start (a ∷ letters) [] = refl
same_start (a ∷ letters) (b ∷ text) = ap (λ (t : Bool). eqb a b && t) (same_start letters text)
