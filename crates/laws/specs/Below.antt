-- Sums, counts, lists and loops over the numbers below n, in the order in which a loop goes through them, and the least of them that passes a test.
use Rattle.std.specs.Prelude.{ℕ, zero, suc, ◌+◌, List, [], ◌∷◌, ◌++◌, Bool, cond}

-- f 0 + f 1 + .. + f (n - 1)
unfoldable pub sum : ℕ → (ℕ → ℕ) → ℕ
sum zero f = 0
sum (suc n) f = sum n f + f n

-- 1 for a test that holds, 0 for one that does not
abbrev pub bit : Bool → ℕ
bit b = cond b 1 0

-- how many numbers below n pass the test p
unfoldable pub count : ℕ → (ℕ → Bool) → ℕ
unfolding sum
count n p = sum n (λ i. bit (p i))

-- the least number below n that passes the test p, or n if there is none
unfoldable pub least : ℕ → (ℕ → Bool) → ℕ
least zero p = 0
least (suc n) p = cond (p 0) 0 (suc (least n (λ i. p (suc i))))

-- the list of f 0, f 1, .., f (n - 1)
unfoldable pub tabulate : {A : Type 0} → ℕ → (ℕ → A) → List A
tabulate zero f = []
tabulate (suc n) f = tabulate n f ++ (f n ∷ [])

-- what a loop over 0, 1, .., n - 1 leaves that starts with a and makes `step i x` of x at i
unfoldable pub fold : {A : Type 0} → ℕ → (ℕ → A → A) → A → A
fold zero step a = a
fold (suc n) step a = step n (fold n step a)
