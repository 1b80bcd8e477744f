-- A line is read field by field: each field that is found hands the text after it to the next, and the first that is wrong makes the line wrong.
-- Assumes nothing.
use mathlib.Core.Path.{◌≡◌, refl, sym, ap, ◌∙◌}
use mathlib.Core.Logic.{◌≢◌}
use mathlib.Core.List.{List}
use Rattle.std.specs.Prelude.{Option, Some, None}
use mathlib.Core.Bool.{Bool, true, false, cond}
use Prim.Native.Nat.{ℕ, ◌+◌, ◌≤◌}
use borrow.Author.Tests.{eq-eqb, ne_eqb, le-leb}
use lib.Dec.{leb}
use Rattle.laws.proofs.Test.{cond_true}
use Rattle.lines.specs.Lines.{lf}
use Rattle.fields.specs.Found.{Found, found, wrong, then_read}
use Rattle.fields.specs.Fields.{space, number_field, digit_field, reach_field, reach_up_to}
use Rattle.text.specs.Forms.{sizes_at, entry_at}
use Rattle.text.specs.Reading.{is_found, value_or}
use Rattle.forms.specs.Answers.{value_of, entry_up_to}

-- What the value of a form tells of the form.
module _ {A : Type 0} where
  abbrev is_some : Option A → Bool
  is_some (Some value) = true
  is_some None = false

  abbrev some_or : A → Option A → A
  some_or x (Some value) = value
  some_or x None = x

  found_some : (x : Found A) → is_some (value_of x) ≡ is_found x
  found_some (found value rest) = refl
  found_some wrong = refl

  value_some : (other : A) (x : Found A) → some_or other (value_of x) ≡ value_or other x
  value_some other (found value rest) = refl
  value_some other wrong = refl

  pub not_found : (x : Found A) → None ≡ value_of x → is_found x ≡ false
  not_found x e = sym (found_some x) ∙ sym (ap is_some e)

  pub is_found_lem : (x : Found A) {value : A} → Some value ≡ value_of x → is_found x ≡ true
  is_found_lem x e = sym (found_some x) ∙ sym (ap is_some e)

  pub found_value : (other : A) (x : Found A) {value : A} → Some value ≡ value_of x → value ≡ value_or other x
  found_value other x e = ap (some_or other) e ∙ value_some other x

-- A field that was found, with what is left after it.
pub field_found : {x : Found ℕ} {value : ℕ} {left rest : List ℕ} → found value left ≡ x → rest ≡ left → x ≡ found value rest
field_found {value = value} e l = sym e ∙ ap (found value) (sym l)

-- A form that is asked for only if a test is passed.
module _ {A : Type 0} where
  none_if : (b : Bool) (x : Found A) → None ≡ value_of x → None ≡ value_of (cond b x wrong)
  none_if true x e = e
  none_if false x e = refl

  then_if : {B : Type 0} (b : Bool) (x : Found B) (next : B → List ℕ → Found A) → cond b (then_read x next) wrong ≡ then_read (cond b x wrong) next
  unfolding then_read
  then_if true x next = refl
  then_if false x next = refl

-- A process's line whose reach has at most `limit` letters. Where n is at most that it is no question, and a line that is not of its form stays so for
-- any n.
module _ (limit n i : ℕ) (text : List ℕ) where
  pub entry_up_to_lem : n ≤ limit → entry_up_to limit n i text ≡ entry_at n i text
  unfolding entry_up_to
  entry_up_to_lem l = cond_true (leb n limit) (entry_at n i text) wrong (le-leb n limit l)

  no_entry_lem : None ≡ value_of (entry_at n i text) → None ≡ value_of (entry_up_to limit n i text)
  unfolding entry_up_to
  no_entry_lem e = none_if (leb n limit) (entry_at n i text) e

module _ (text : List ℕ) where
  pub no_n : number_field space text ≡ wrong → None ≡ value_of (sizes_at text)
  unfolding sizes_at then_read
  no_n e = rw e

  module _ {n : ℕ} {rest : List ℕ} (first : number_field space text ≡ found n rest) where
    pub no_t : number_field lf rest ≡ wrong → None ≡ value_of (sizes_at text)
    unfolding sizes_at then_read
    no_t e = rw (first, e)

    pub both_sizes : {t : ℕ} {end : List ℕ} → number_field lf rest ≡ found t end → Some (record { n = n; t = t }) ≡ value_of (sizes_at text)
    unfolding sizes_at then_read
    both_sizes e = rw (first, e)

  module _ (limit n i : ℕ) where
    pub no_id : number_field space text ≡ wrong → None ≡ value_of (entry_up_to limit n i text)
    unfolding entry_at then_read
    no_id e = no_entry_lem limit n i text (rw e)

    module _ {id : ℕ} {after-id : List ℕ} (first : number_field space text ≡ found id after-id) where
      pub other_id : id ≢ i + 1 → None ≡ value_of (entry_up_to limit n i text)
      unfolding entry_at then_read
      other_id h = no_entry_lem limit n i text (rw (first, ne_eqb id (i + 1) h))

      module _ (own : id ≡ i + 1) where
        pub no_vote : digit_field space after-id ≡ wrong → None ≡ value_of (entry_up_to limit n i text)
        unfolding entry_at then_read
        no_vote e = no_entry_lem limit n i text (rw (first, eq-eqb id (i + 1) own, e))

        module _ {vote : ℕ} {after-vote : List ℕ} (second : digit_field space after-id ≡ found vote after-vote) where
          pub no_crash : number_field space after-vote ≡ wrong → None ≡ value_of (entry_up_to limit n i text)
          unfolding entry_at then_read
          no_crash e = no_entry_lem limit n i text (rw (first, eq-eqb id (i + 1) own, second, e))

          module _ {crash : ℕ} {after-crash : List ℕ} (third : number_field space after-vote ≡ found crash after-crash) where
            -- what is left is the reach
            last_field : entry_up_to limit n i text ≡ then_read (reach_up_to lf after-crash limit n) (λ reach rest. found (record { vote = vote; crash = crash; reach = reach }) rest)
            unfolding entry_up_to entry_at then_read reach_up_to
            last_field = rw (first, eq-eqb id (i + 1) own, second, third) (then_if (leb n limit) (reach_field lf after-crash n) (λ reach rest. found (record { vote = vote; crash = crash; reach = reach }) rest))

            pub no_reach : reach_up_to lf after-crash limit n ≡ wrong → None ≡ value_of (entry_up_to limit n i text)
            unfolding then_read
            no_reach e = rw (last_field, e)

            pub whole_entry : {reach : ℕ} {end : List ℕ} → reach_up_to lf after-crash limit n ≡ found reach end
                → Some (record { vote = vote; crash = crash; reach = reach }) ≡ value_of (entry_up_to limit n i text)
            unfolding then_read
            whole_entry e = rw (last_field, e)
