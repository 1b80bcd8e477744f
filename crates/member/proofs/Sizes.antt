-- Questions 1 and 2, with those after them, are a row of two questions and the others. Assumes nothing.
use mathlib.Core.Path.{◌≡◌, refl}
use mathlib.Core.Bool.{Bool, true, false}
use Prim.Native.Nat.{ℕ, ◌-◌}
use Rattle.laws.specs.Test.{within}
use Rattle.laws.specs.Answer.{ask, and_then}
use Rattle.member.specs.Opening.{size_questions}

two_first : (a b : Bool) (others : ℕ) → ask a 1 (ask b 2 others) ≡ and_then (ask a 1 (ask b 2 0)) others
unfolding ask and_then
two_first true true others = refl
two_first true false others = refl
two_first false b others = refl

pub sizes_first : (limit n t others : ℕ) → size_questions limit n t others ≡ and_then (size_questions limit n t 0) others
sizes_first limit n t others = two_first (within 4 n limit) (within 3 t (n - 1)) others
