-- Lists that a loop writes over from the front: none of the entries yet, one more, what is read, and how many there are. Assumes nothing.
use mathlib.Core.Path.{◌≡◌, sym, ap, ◌∙◌}
use mathlib.Core.List.{List, [], ◌∷◌, ◌++◌, append_assoc}
use Prim.Native.Nat.{ℕ, suc, ◌+◌, ◌-◌, ◌≤◌, ◌<◌}
use native.Mathlib.Numerals.{add-one}
use native.Mathlib.Omega.{arith}
use lib.ListN.{length, get_or, take, drop, set, length-append, length-drop, get_or-append}
use lib.Seq.{drop-cons, set_at, take_at, drop_at, get_or-append-add, get_or-drop}
use Rattle.laws.specs.Below.{tabulate}
use Rattle.laws.specs.Filled.{Overwritten}
use Rattle.laws.proofs.Lists.{length_tabulate, get_d_tabulate, tabulate_same}

stored : {A : Type 0} (f : ℕ → A) (xs : List A) (i : ℕ) (x : A) → i < length xs → x ≡ f i → set (tabulate i f ++ drop i xs) i x ≡ tabulate (suc i) f ++ drop (suc i) xs
unfolding tabulate
stored {A} f xs i x l same =
    ap (λ (rest : List A). set (tabulate i f ++ rest) i x) (drop-cons xs i x l)
    ∙ set_at (tabulate i f) (get_or xs i x) (drop (suc i) xs) x i (length_tabulate i f)
    ∙ ap (λ (y : A). tabulate i f ++ (y ∷ drop (suc i) xs)) same
    ∙ sym (append_assoc (tabulate i f) (f i ∷ []) (drop (suc i) xs))

module _ {A : Type 0} {f : ℕ → A} {xs : List A} where
  pub over_start : {ys : List A} → ys ≡ xs → Overwritten 0 f xs ys
  unfolding tabulate
  over_start e = record { is = e }

  -- one entry more is stored
  pub over_more : {ys : List A} {i : ℕ} {x : A} → i < length xs → Overwritten i f xs ys → x ≡ f i → Overwritten (i + 1) f xs (set ys i x)
  over_more {i = i} {x} l h same = rw (add-one i) (record { is = ap (λ (zs : List A). set zs i x) h.is ∙ stored f xs i x l same })

  module _ {ys : List A} {n : ℕ} (h : Overwritten n f xs ys) where
    -- what is read, of the entries written and of those after them
    pub over_at : (k : ℕ) (d : A) → k < n → get_or ys k d ≡ f k
    over_at k d l =
        let e = length_tabulate n f in
        ap (λ (zs : List A). get_or zs k d) h.is ∙ get_or-append (tabulate n f) (drop n xs) d k (omega arith) ∙ get_d_tabulate n f k d l

    pub over_past : (k : ℕ) (d : A) → n ≤ k → get_or ys k d ≡ get_or xs k d
    over_past k d l =
        let e = length_tabulate n f in
        let at : length (tabulate n f) + (k - n) ≡ k = omega arith in
        let from : n + (k - n) ≡ k = omega arith in
        ap (λ (zs : List A). get_or zs k d) h.is
        ∙ ap (λ (j : ℕ). get_or (tabulate n f ++ drop n xs) j d) (sym at)
        ∙ get_or-append-add (tabulate n f) (drop n xs) (k - n) d
        ∙ get_or-drop n xs (k - n) d
        ∙ ap (λ (j : ℕ). get_or xs j d) from

    pub over_long : n ≤ length xs → length ys ≡ length xs
    over_long l =
        let e = length_tabulate n f in
        let b = ap length h.is ∙ length-append (tabulate n f) (drop n xs) in
        let c = length-drop n xs in
        omega arith

    -- the entries written are the list of the function's values
    pub over_front : take n ys ≡ tabulate n f
    over_front = ap (take n) h.is ∙ take_at (tabulate n f) (drop n xs) n (length_tabulate n f)

    -- and a function that agrees with it below n has written the same
    pub over_so : {g : ℕ → A} → ((i : ℕ) → i < n → f i ≡ g i) → Overwritten n g xs ys
    over_so {g} same = record { is = h.is ∙ ap (λ (front : List A). front ++ drop n xs) (tabulate_same n f g same) }

    -- the loop over the first n entries is at its end
    pub over_all : {k : ℕ} → n ≡ k → Overwritten k f xs ys
    over_all e = rw (sym e) h

    -- the list that was written over is so too
    pub over_self : Overwritten n f ys ys
    over_self =
        record { is = h.is ∙ ap (λ (rest : List A). tabulate n f ++ rest) (sym (ap (drop n) h.is ∙ drop_at (tabulate n f) (drop n xs) n (length_tabulate n f))) }

    -- and written over once more, nothing is left of the first time
    pub over_again : {g : ℕ → A} {zs : List A} → Overwritten n g ys zs → Overwritten n g xs zs
    over_again {g} next =
        record { is = next.is ∙ ap (λ (rest : List A). tabulate n g ++ rest) (ap (drop n) h.is ∙ drop_at (tabulate n f) (drop n xs) n (length_tabulate n f)) }
