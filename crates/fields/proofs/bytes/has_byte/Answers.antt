-- `has_byte` meets its contract: within the text the byte is compared, and past its end none stands. Assumes nothing.
use mathlib.Core.Path.{◌≡◌, refl, ◌∙◌}
use mathlib.Core.List.{List}
use Prim.Native.Nat.{ℕ}
use denote.Ref.{Bor}
use lib.Dec.{ltb, eqb}
use lib.ListN.{length, get_or}
use Rattle.std.specs.Prelude.{Option, Some, None}
use native.Mathlib.Nat.{le_refl}
use Rattle.std.specs.Option.{option_eq, option_map, is_some, unwrap_or}
use Rattle.fields.specs.Fields.{has_byte}
use Rattle.fields.proofs.bytes.has_byte.Goals as goal

-- the byte that was looked up, compared
compared : (text : List ℕ) (k b : ℕ) (o : Option (Bor ℕ)) (x : Bor ℕ) → is_some o ≡ ltb k (length text) → unwrap_or (option_map (λ (y : Bor ℕ). y.now) o) 0 ≡ get_or text k 0 → x.now ≡ b
    → option_eq (λ y z. eqb y.now z.now) o (Some x) ≡ has_byte b text k
unfolding has_byte
compared text k b None x there is e = rw (← there)
compared text k b (Some y) x there is e = rw (← there, is, e)

pub returns : goal.returns
returns c =
    record { tested = c.eq.ensures ∙ (let look = c.get.ensures.lookup in compared c.args.text.now c.args.k c.args.b c.get.result _ look.0 (look.4 (le_refl _) 0) refl) }
