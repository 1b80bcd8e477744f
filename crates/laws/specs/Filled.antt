-- Arrays of which the first entries are known, or were written over.
use Rattle.std.specs.Prelude.{ℕ, ◌<◌, ◌≡◌, List, ◌++◌, length, get_or, drop}
use Rattle.laws.specs.Below.{tabulate}

-- the list has so many entries, and R holds of each of the first n; d stands for what is past a list's end
pub record Each {A : Type 0} (d : A) (size n : ℕ) (xs : List A) (R : ℕ → A → Type 0) : Type 0 where
  pub long : length xs ≡ size
  pub at : (k : ℕ) → k < n → R k (get_or xs k d)

-- the first n entries are f 0, f 1, .., f (n - 1)
abbrev pub Filled : {A : Type 0} → A → ℕ → ℕ → List A → (ℕ → A) → Type 0
Filled {A} d size n xs f = Each d size n xs (λ (k : ℕ) (x : A). x ≡ f k)

-- a list has become another one: f 0, f 1, .., f (n - 1) are its first n entries now, and the others are as they were
pub record Overwritten {A : Type 0} (n : ℕ) (f : ℕ → A) (before after : List A) : Type 0 where
  pub is : after ≡ tabulate n f ++ drop n before
