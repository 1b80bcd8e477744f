-- The counts of a row of codes c 0, .., c (n - 1), and what a member's tests on them say of the codes. Assumes nothing.
use mathlib.Core.Path.{◌≡◌, refl, ap, ◌∙◌}
use mathlib.Core.Logic.{◌⊎◌, inl, inr, ◌≢◌}
use mathlib.Core.Bool.{Bool, true, false, ◌||◌, true≢false}
use Prim.Native.Nat.{ℕ, ◌+◌, ◌≤◌, ◌<◌}
use native.Mathlib.Omega.{arith}
use lib.Dec.{ltb, eqb}
use lib.ListN.{get_or}
use borrow.Author.Tests.{eqb-true, eqb-false, eq-eqb, ne_eqb, ltb-true, ltb-false, lt-ltb, le-ltb}
use Rattle.laws.specs.Below.{count, tabulate}
use Rattle.laws.proofs.Test.{true_or_false, and_left, and_right, or_left, or_right, or_neither, or_true, or_false}
use Rattle.laws.proofs.Counting.{Some, split, count_same, count_either, count_pos, count_some, count_zero, count_of_none, count_full, count_short}
use Rattle.laws.proofs.Lists.{length_tabulate, get_d_tabulate}
use Rattle.member.specs.declared.Tally.{Tally}
use Rattle.member.specs.Hearing.{codes, tally_of, estimates, told, told_both, first_estimate, lowered, told_value, is_estimate}
use Rattle.member.proofs.Counts.{one_code}
use Rattle.member.proofs.Codes.{estimate_not_0}
use Rattle.run.proofs.OneRound.{estimates_in, NoneDecided, LoweredBy}

pub codes_are : (test : ℕ → Bool) (n : ℕ) (c : ℕ → ℕ) → codes test (tabulate n c) ≡ count n (λ j. test (c j))
unfolding codes
codes_are test n c =
    ap (λ (l : ℕ). count l (λ i. test (get_or (tabulate n c) i 0))) (length_tabulate n c)
    ∙ count_same n (λ i. test (get_or (tabulate n c) i 0)) (λ j. test (c j)) (λ j jl. ap test (get_d_tabulate n c j 0 jl))

-- the counts k of the codes
pub record Counts (n : ℕ) (c : ℕ → ℕ) (k : Tally) : Type 0 where
  pub zeros_are : k.zeros ≡ count n (λ j. eqb (c j) 1)
  pub ones_are : k.ones ≡ count n (λ j. eqb (c j) 2)
  pub aborts_are : k.aborts ≡ count n (λ j. eqb (c j) 3)
  pub commits_are : k.commits ≡ count n (λ j. eqb (c j) 4)
  pub others_are : k.others ≡ count n (λ j. ltb 4 (c j))
  pub estimates_are : estimates k ≡ estimates_in n c

pub counts_of : (n : ℕ) (c : ℕ → ℕ) → Counts n c (tally_of (tabulate n c))
counts_of n c =
    let z = codes_are (λ x. eqb x 1) n c in
    let o = codes_are (λ x. eqb x 2) n c in
    let e = count_either n (λ j. eqb (c j) 1) (λ j. eqb (c j) 2) (λ j. one_code (c j)) in
    record {
      zeros_are = z;
      ones_are = o;
      aborts_are = codes_are (λ x. eqb x 3) n c;
      commits_are = codes_are (λ x. eqb x 4) n c;
      others_are = codes_are (λ x. ltb 4 x) n c;
      estimates_are = omega arith;
    }

module _ (n : ℕ) (c : ℕ → ℕ) (k : Tally) (counted : Counts n c k) where
  -- the code x stands in the row if it is counted, and not if it is not
  some_code : (x y : ℕ) → y ≡ count n (λ j. eqb (c j) x) → 0 < y → Some n λ j. c j ≡ x
  some_code x y e h =
      let s = count_some n (λ j. eqb (c j) x) (omega arith) in
      (s.0, s.1, eqb-true (c s.0) x s.2)

  no_code : (x y : ℕ) → y ≡ count n (λ j. eqb (c j) x) → y ≡ 0 → (j : ℕ) → j < n → c j ≢ x
  no_code x y e z j jl = eqb-false (c j) x (count_zero n (λ j. eqb (c j) x) (omega arith) j jl)

  pub some_one : k.ones ≢ 0 → Some n λ j. c j ≡ 2
  some_one h = some_code 2 k.ones counted.ones_are (omega arith)

  pub no_one : k.ones ≡ 0 → (j : ℕ) → j < n → c j ≢ 2
  no_one = no_code 2 k.ones counted.ones_are

  -- a told member takes the value of a decided message
  pub told_value_lem : told k ≡ true → Some n λ j. c j ≡ 3 + told_value k
  unfolding told told_value
  told_value_lem e =
      elim (true_or_false (ltb 0 k.aborts)) [
        | inl a ↦ rw a (some_code 3 k.aborts counted.aborts_are (ltb-true 0 k.aborts a))
        | inr a ↦ rw a (some_code 4 k.commits counted.commits_are (ltb-true 0 k.commits (rw a at e)))
      ]

  pub is_told : (j : ℕ) → j < n → 3 ≤ c j → c j ≤ 4 → told k ≡ true
  unfolding told
  is_told j jl lo hi =
      elim (split (c j) 3) [
        | inl a ↦
            let p = count_pos n (λ j. eqb (c j) 3) j jl (eq-eqb (c j) 3 (omega arith)) in
            let q = counted.aborts_are in
            or_left (ltb 0 k.aborts) (ltb 0 k.commits) (lt-ltb 0 k.aborts (omega arith))
        | inr a ↦
            let p = count_pos n (λ j. eqb (c j) 4) j jl (eq-eqb (c j) 4 (omega arith)) in
            let q = counted.commits_are in
            or_right (ltb 0 k.aborts) (ltb 0 k.commits) (lt-ltb 0 k.commits (omega arith))
      ]

  pub not_told : NoneDecided n c → told k ≡ false
  unfolding told
  not_told h =
      let a = count_of_none n (λ j. eqb (c j) 3) (λ j jl. ne_eqb (c j) 3 (λ e. let l = h j jl in omega arith)) in
      let b = count_of_none n (λ j. eqb (c j) 4) (λ j jl. ne_eqb (c j) 4 (λ e. let l = h j jl in omega arith)) in
      let ak = counted.aborts_are in
      let bk = counted.commits_are in
      or_neither (ltb 0 k.aborts) (ltb 0 k.commits) (le-ltb 0 k.aborts (omega arith)) (le-ltb 0 k.commits (omega arith))

  -- decided messages of both values
  pub told_both_lem : told_both k ≡ true → (Some n λ j. c j ≡ 3) × (Some n λ j. c j ≡ 4)
  unfolding told_both
  told_both_lem e = (
    some_code 3 k.aborts counted.aborts_are (ltb-true 0 k.aborts (and_left (ltb 0 k.aborts) (ltb 0 k.commits) e)),
    some_code 4 k.commits counted.commits_are (ltb-true 0 k.commits (and_right (ltb 0 k.aborts) (ltb 0 k.commits) e)),
  )

  pub no_others : ((j : ℕ) → j < n → c j ≤ 4) → k.others ≡ 0
  no_others h = counted.others_are ∙ count_of_none n (λ j. ltb 4 (c j)) (λ j jl. le-ltb 4 (c j) (h j jl))

  pub lowered_by : (before : ℕ) → LoweredBy n c before (lowered before k)
  unfolding lowered
  lowered_by before =
      elim (true_or_false (ltb 0 k.zeros)) [
        | inl b ↦ rw b (inl (refl, some_code 1 k.zeros counted.zeros_are (ltb-true 0 k.zeros b)))
        | inr b ↦ rw b (inr (refl, no_code 1 k.zeros counted.zeros_are (let h = ltb-false 0 k.zeros b in omega arith)))
      ]

  -- in round 1 the estimate stays only if every code is an estimate 1
  pub first_estimate_lem : (before : ℕ)
      → ((first_estimate n before k ≡ 0) × (Some n λ j. c j ≢ 2)) ⊎ ((first_estimate n before k ≡ before) × ((j : ℕ) → j < n → c j ≡ 2))
  unfolding first_estimate
  first_estimate_lem before =
      let few = counted.estimates_are in
      elim (true_or_false (ltb (estimates k) n || ltb 0 k.zeros)) [
        | inl b ↦ rw b (inl (refl, missed b))
        | inr b ↦ rw b (inr (refl, all_ones b))
      ]
    where
      not_two : (x : ℕ) → is_estimate x ≡ false → x ≢ 2
      not_two x e two = let z : true ≡ false = rw two at e in absurd (true≢false z)

      missed : ltb (estimates k) n || ltb 0 k.zeros ≡ true → Some n λ j. c j ≢ 2
      missed b =
          elim (or_true (ltb (estimates k) n) (ltb 0 k.zeros) b) [
            | inl h ↦
                let x = ltb-true (estimates k) n h in
                let y = count_short n (λ j. is_estimate (c j)) (omega (arith, counted.estimates_are)) in
                (y.0, y.1, not_two (c y.0) y.2)
            | inr h ↦
                let y = some_code 1 k.zeros counted.zeros_are (ltb-true 0 k.zeros h) in
                (y.0, y.1, λ q. let z = y.2 in omega arith)
          ]

      all_ones : ltb (estimates k) n || ltb 0 k.zeros ≡ false → (j : ℕ) → j < n → c j ≡ 2
      all_ones b j jl =
          let h = or_false (ltb (estimates k) n) (ltb 0 k.zeros) b in
          let x = ltb-false (estimates k) n h.0 in
          let z = ltb-false 0 k.zeros h.1 in
          estimate_not_0 (c j) (count_full n (λ j. is_estimate (c j)) (omega (arith, counted.estimates_are)) j jl)
          (no_code 1 k.zeros counted.zeros_are (omega arith) j jl)
