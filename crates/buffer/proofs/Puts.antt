-- Calls one after the other that are lent a writer write their parts one after the other. Assumes nothing.
use mathlib.Core.Path.{◌≡◌, refl, ◌∙◌}
use mathlib.Core.List.{List, [], ◌∷◌, ◌++◌}
use Prim.Native.Nat.{ℕ, ◌+◌, ◌<◌}
use lib.ListN.{length, get_or, take}
use Rattle.buffer.specs.declared.Writer.{Writer}
use Rattle.buffer.specs.Puts.{Puts}
use Rattle.buffer.proofs.Written.{writes_none, writes_same, writes_more, writes_next}

pub puts_none : (a : Writer) → Puts a a []
puts_none a = record { same_buffer = refl; writes = writes_none _ _ }

pub puts_same : {a b : Writer} {p q : List ℕ} → p ≡ q → Puts a b p → Puts a b q
puts_same e w = record { same_buffer = w.same_buffer; writes = writes_same e w.writes }

pub puts_more : {a b c : Writer} (p q : List ℕ) → Puts a b p → Puts b c q → Puts a c (p ++ q)
puts_more p q v w = record { same_buffer = w.same_buffer ∙ v.same_buffer; writes = writes_more p q v.writes w.writes }

-- a loop that writes the bytes of a part in turn
pub puts_next : {a b c : Writer} (part : List ℕ) (m : ℕ) → m < length part → Puts a b (take m part) → Puts b c (get_or part m 0 ∷ []) → Puts a c (take (m + 1) part)
puts_next part m l v w = record { same_buffer = w.same_buffer ∙ v.same_buffer; writes = writes_next part m l v.writes w.writes }
