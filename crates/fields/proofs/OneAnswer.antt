-- What is left of a text after a field tells how many bytes the field takes, so two answers that say the same are the same. Assumes nothing.
use mathlib.Core.Path.{◌≡◌, refl, sym, ap}
use mathlib.Core.List.{List}
use Prim.Native.Nat.{ℕ, ◌≤◌}
use native.Mathlib.Omega.{arith}
use lib.ListN.{length, drop, length-drop}
use Rattle.std.specs.Prelude.{Option, Some, None}
use Rattle.fields.specs.Found.{found, wrong}
use Rattle.fields.specs.declared.Field.{Field}
use Rattle.fields.specs.Fields.{field_is, field_within}
use Rattle.fields.specs.Facts.{OneAnswer}

-- the bytes before what is left
same_used : (text : List ℕ) (u x : ℕ) → drop u text ≡ drop x text → u ≤ length text → x ≤ length text → u ≡ x
same_used text u x e hu hx =
    let left = ap length e in
    let a = length-drop u text in
    let b = length-drop x text in
    omega arith

nothing_found : {A : Type 0} {v : A} {rest : List ℕ} → found v rest ≡ wrong → ⊥
nothing_found e = let z : ◌≡◌ {A = ℕ} 0 1 = cc in omega arith

module _ (A : Type 0) (text : List ℕ) where
  field : (r s : Option (Field A)) → field_is text r ≡ field_is text s → field_within text r → field_within text s → r ≡ s
  field (Some v) (Some w) e hu hx =
      let value : v.value ≡ w.value = cc in
      let rest : drop v.used text ≡ drop w.used text = cc in
      let used : v.used ≡ w.used = same_used text v.used w.used rest hu hx in
      λ i. Some (record { value = value i; used = used i })
  field (Some v) None e hu hx = absurd (nothing_found e)
  field None (Some w) e hu hx = absurd (nothing_found (sym e))
  field None None e hu hx = refl

  pub one_answer : OneAnswer A text
  one_answer = record { field = field }
