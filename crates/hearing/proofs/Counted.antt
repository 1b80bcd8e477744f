-- The counts of a row: no more estimates than places, and a loop that has counted the first i places. Assumes nothing.
use mathlib.Core.Path.{◌≡◌, sym}
use mathlib.Core.List.{List}
use mathlib.Core.Bool.{Bool, false}
use Prim.Native.Nat.{ℕ, ◌≤◌}
use borrow.Author.Tests.{ltb-false}
use lib.Dec.{eqb, ltb}
use lib.ListN.{length, get_or}
use Rattle.laws.specs.Below.{count}
use Rattle.laws.proofs.Below.{count_apart, count_end}
use Rattle.laws.proofs.Counting.{count_of_none, count_zero}
use Rattle.member.specs.declared.Tally.{Tally}
use Rattle.member.specs.Hearing.{codes, tally_of, estimates}
use Rattle.member.proofs.Counts.{one_code}

-- no more estimates than the row is long
pub estimates_high : (row : List ℕ) (k : Tally) → k ≡ tally_of row → estimates k ≤ length row
unfolding codes
estimates_high row k e =
    rw e (count_apart (length row) (λ i. eqb (get_or row i 0) 1) (λ i. eqb (get_or row i 0) 2) (λ i. one_code (get_or row i 0)))

-- whether the code at a place of the row passes the test
abbrev pub is_at : (ℕ → Bool) → List ℕ → ℕ → Bool
is_at test row i = test (get_or row i 0)

-- the counts after i places of the codes that pass each of three tests
pub record Counted (row : List ℕ) (p q r : ℕ → Bool) (i a b c : ℕ) : Type 0 where
  pub first : a ≡ count i (is_at p row)
  pub second : b ≡ count i (is_at q row)
  pub third : c ≡ count i (is_at r row)

-- after all places they are the counts of the row
pub counted_all : (row : List ℕ) (p q r : ℕ → Bool) (i a b c : ℕ) → Counted row p q r i a b c → i ≤ length row → length row ≤ i
    → (a ≡ codes p row) × ((b ≡ codes q row) × (c ≡ codes r row))
unfolding codes
counted_all row p q r i a b c k lo hi =
    (count_end i (length row) _ a k.first lo hi, (count_end i (length row) _ b k.second lo hi, count_end i (length row) _ c k.third lo hi))

-- where no code is above 2, none is a decided message and all are codes
pub nothing_above : (row : List ℕ) (test : ℕ → Bool) → 0 ≡ codes (λ c. ltb 2 c) row → ((c : ℕ) → c ≤ 2 → test c ≡ false) → 0 ≡ codes test row
unfolding codes
nothing_above row test none low =
    sym
    (count_of_none (length row) (is_at test row)
    (λ i l. low (get_or row i 0) (ltb-false 2 (get_or row i 0) (count_zero (length row) (is_at (λ c. ltb 2 c) row) (sym none) i l))))
