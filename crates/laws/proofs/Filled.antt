-- Arrays that a loop fills: none of the entries yet, one more, and all of them; and the list that they then make. Assumes nothing.
use mathlib.Core.Path.{◌≡◌, sym, ◌∙◌, subst}
use mathlib.Core.List.{List}
use Prim.Native.Nat.{ℕ, ◌+◌, ◌≤◌, ◌<◌}
use native.Mathlib.Omega.{arith}
use borrow.Author.Count.{below_more}
use lib.ListN.{length, get_or, take, set, length-set}
use lib.Seq.{get_or-set_same, get_or-set_other, get_or-take, length-take-le, ext_get_or}
use Rattle.laws.specs.Below.{tabulate}
use Rattle.laws.specs.Filled.{Each, Filled}
use Rattle.laws.proofs.Lists.{length_tabulate, get_d_tabulate}

module _ {A : Type 0} {d : A} {size : ℕ} {xs : List A} where
  module _ {R : ℕ → A → Type 0} where
    pub each_none : length xs ≡ size → Each d size 0 xs R
    each_none e = record { long = e; at = λ k h. absurd (omega arith) }

    -- what is stored at i keeps to R, and the other entries stay
    pub each_more : {i : ℕ} {x : A} → i < size → Each d size i xs R → R i x → Each d size (i + 1) (set xs i x) R
    each_more {i} {x} l h e =
        let long = h.long in
        record {
          long = length-set xs i x ∙ long;
          at = below_more (λ (k : ℕ). R k (get_or (set xs i x) k d)) i
              (λ k b. subst (λ (y : A). R k y) (sym (get_or-set_other xs i k x d (omega arith))) (h.at k b))
              (subst (λ (y : A). R i y) (sym (get_or-set_same xs i x d (omega arith))) e);
        }

    -- the loop over the entries is at its end
    pub each_all : {i n : ℕ} → n ≤ i → Each d size i xs R → Each d size n xs R
    each_all l h = record { long = h.long; at = λ k b. h.at k (omega arith) }

    pub each_so : {n : ℕ} {Q : ℕ → A → Type 0} → ((k : ℕ) (x : A) → k < n → R k x → Q k x) → Each d size n xs R → Each d size n xs Q
    each_so f h = record { long = h.long; at = λ k b. f k (get_or xs k d) b (h.at k b) }

  module _ {n : ℕ} {f : ℕ → A} where
    -- the first n entries are the list of the function's values
    pub filled_take : n ≤ size → Filled d size n xs f → take n xs ≡ tabulate n f
    filled_take l h =
        let long = h.long in
        let m : length (take n xs) ≡ n = length-take-le n xs (omega arith) in
        ext_get_or d (take n xs) (tabulate n f) (m ∙ sym (length_tabulate n f))
        (λ i b. get_or-take n xs i d (omega arith) ∙ h.at i (omega arith) ∙ sym (get_d_tabulate n f i d (omega arith)))

    -- and a list of n entries is that list
    pub filled_list : length xs ≡ n → Filled d size n xs f → xs ≡ tabulate n f
    filled_list e h =
        ext_get_or d xs (tabulate n f) (e ∙ sym (length_tabulate n f)) (λ i b. h.at i (omega arith) ∙ sym (get_d_tabulate n f i d (omega arith)))
