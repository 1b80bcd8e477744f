-- Reading a list at a place: what a list made by `tabulate` holds, that what stands past the end does not matter below it, and that two functions
-- which agree along a list agree at each place. Assumes nothing.
use mathlib.Core.Path.{◌≡◌, refl, sym, ap, ap₂, ◌∙◌}
use mathlib.Core.Logic.{inl, inr}
use mathlib.Core.List.{List, [], ◌∷◌, ◌++◌, map}
use Prim.Native.Nat.{ℕ, zero, suc, ◌+◌, ◌<◌}
use native.Mathlib.Nat.{not-suc-le-zero, le_of_suc-le-suc}
use native.Mathlib.Numerals.{add-one}
use native.Mathlib.Omega.{arith}
use lib.ListN.{length, get_or, drop, length-append, get_or-append, drop_of_length-le}
use lib.Seq.{drop-cons, ext_get_or}
use Rattle.std.specs.Option.{IfSome}
use Rattle.std.specs.List.{slice_get}
use Rattle.laws.specs.Below.{tabulate}
use Rattle.laws.proofs.Counting.{split}

module _ {A : Type 0} where
  get_d_end : (xs : List A) (x d : A) → get_or (xs ++ (x ∷ [])) (length xs) d ≡ x
  get_d_end [] x d = refl
  get_d_end (y ∷ xs) x d = get_d_end xs x d

  pub length_tabulate : (n : ℕ) (f : ℕ → A) → length (tabulate n f) ≡ n
  unfolding tabulate
  length_tabulate zero f = refl
  length_tabulate (suc n) f = length-append (tabulate n f) _ ∙ add-one (length (tabulate n f)) ∙ ap suc (length_tabulate n f)

  pub get_d_tabulate : (n : ℕ) (f : ℕ → A) (i : ℕ) (d : A) → i < n → get_or (tabulate n f) i d ≡ f i
  unfolding tabulate
  get_d_tabulate zero f i d l = absurd (not-suc-le-zero l)
  get_d_tabulate (suc n) f i d l =
      let k = length_tabulate n f in
      elim (split n i) [
        | inl a ↦
            let e : i ≡ n = omega arith in
            rw e (ap (λ (j : ℕ). get_or (tabulate (suc n) f) j d) (sym k) ∙ get_d_end (tabulate n f) (f n) d)
        | inr a ↦ get_or-append (tabulate n f) _ d i (omega arith) ∙ get_d_tabulate n f i d a
      ]

  -- below the length, what is read does not depend on what stands for a place past the end
  pub read_same : (l : List A) (a b : A) (i : ℕ) → i < length l → get_or l i a ≡ get_or l i b
  read_same [] a b i h = absurd (not-suc-le-zero h)
  read_same (x ∷ l) a b zero h = refl
  read_same (x ∷ l) a b (suc i) h = read_same l a b i (le_of_suc-le-suc h)

  -- two functions that agree along a list agree on what stands at a place of it
  pub agree_at : {B : Type 0} (f g : A → B) (l : List A) (i : ℕ) → map f l ≡ map g l → IfSome (slice_get l i) (λ x. f x ≡ g x)
  agree_at f g [] i e = tt
  agree_at f g (x ∷ l) zero e = cc
  agree_at f g (x ∷ l) (suc i) e = agree_at f g l i (cc)

  -- and two that agree below n make the same list
  pub tabulate_same : (n : ℕ) (f g : ℕ → A) → ((i : ℕ) → i < n → f i ≡ g i) → tabulate n f ≡ tabulate n g
  unfolding tabulate
  tabulate_same zero f g h = refl
  tabulate_same (suc n) f g h = ap₂ (λ (l : List A) (x : A). l ++ (x ∷ [])) (tabulate_same n f g (λ i l. h i (omega arith))) (h n (omega arith))

  -- a list is the list of its entries
  pub tabulate_entries : (d : A) (xs : List A) (n : ℕ) → length xs ≡ n → tabulate n (λ i. get_or xs i d) ≡ xs
  tabulate_entries d xs n e =
      let long = length_tabulate n (λ i. get_or xs i d) in
      ext_get_or d (tabulate n (λ i. get_or xs i d)) xs (long ∙ sym e) (λ i b. get_d_tabulate n (λ i. get_or xs i d) i d (omega arith))

  -- what a loop over a list has left after i elements: the next one is at its place, and those after it are left then
  pub next_left : (xs : List A) (i : ℕ) (d x : A) (rest : List A) → drop i xs ≡ x ∷ rest → (i < length xs) × (x ≡ get_or xs i d) × (rest ≡ drop (i + 1) xs)
  next_left xs i d x rest e =
      elim (split (length xs) i) [
        | inl a ↦ let none : drop i xs ≡ [] = drop_of_length-le xs a in cc
        | inr a ↦ let next = drop-cons xs i d a in (a, cc, rw (add-one i) (cc))
      ]
