-- `ended` meets its contract: it asks for the end as the definition does, and a field that ends there has its bytes in the text. Assumes nothing.
use mathlib.Core.Path.{◌≡◌, sym}
use mathlib.Core.Bool.{true, false}
use native.Mathlib.Omega.{arith}
use Rattle.laws.proofs.Test.{was_true, was_false}
use Rattle.fields.specs.Fields.{has_byte}
use Rattle.fields.proofs.Forms.{byte_within, ended_not, ended_is}
use Rattle.fields.proofs.ended.Goals as goal
use Rattle.fields.proofs.ended.Goals.{Else-not-has_byte}
use Rattle.fields.proofs.ended.Given.{Over}

pub returns-then-not-has_byte : goal.returns-then-not-has_byte
returns-then-not-has_byte g c =
    let a = c.args in
    let not_there : has_byte a.end a.text.now a.k ≡ false = was_false c.has_byte.ensures.tested c.if-not-has_byte.true in
    record { read = sym (ended_not a.end a.text.now a.value a.k not_there); within = tt }

-- the end stands at its place
there : (g : Over) (c : Else-not-has_byte g) → let a = c.args in has_byte a.end a.text.now a.k ≡ true
there g c = was_true c.has_byte.ensures.tested c.if-not-has_byte.false

pub overflow_add-result : goal.overflow_add-result
overflow_add-result g c =
    omega (arith, byte_within _ _ _ (there g c))

pub returns : goal.returns
returns g c =
    let a = c.args in
    record { read = sym (ended_is a.end a.text.now a.value a.k (there g c)); within = omega (arith, byte_within _ _ _ (there g c)) }
