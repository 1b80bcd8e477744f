-- What stands at the start of a text.
use Rattle.std.specs.Prelude.{List, ℕ}

-- a value, and the text after it; or nothing of the form that is asked for
pub data Found (A : Type 0) : Type 0 where
  found : A → List ℕ → Found A
  wrong : Found A

-- the form of what follows a value in the text after it
unfoldable pub then_read : {A B : Type 0} → Found A → (A → List ℕ → Found B) → Found B
then_read (found value rest) next = next value rest
then_read wrong next = wrong
