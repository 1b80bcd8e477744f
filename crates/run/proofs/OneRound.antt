-- What a round means for one process, as plain numbers: of a cluster of n and t, in round r + 1, with the codes c 0, .., c (n - 1) heard, the
-- estimate and the decided round that it has after it. Assumes nothing.
use mathlib.Core.Path.{◌≡◌}
use mathlib.Core.Logic.{◌⊎◌, ◌≢◌}
use Prim.Native.Nat.{ℕ, suc, ◌+◌, ◌≤◌, ◌<◌}
use Rattle.laws.specs.Below.{count}
use Rattle.laws.proofs.Counting.{Some}
use Rattle.member.specs.Hearing.{is_estimate}

-- how many estimates are among the codes
abbrev pub estimates_in : ℕ → (ℕ → ℕ) → ℕ
estimates_in n c = count n (λ j. is_estimate (c j))

-- no decided message is among the codes
abbrev pub NoneDecided : ℕ → (ℕ → ℕ) → Type 0
NoneDecided n c = (j : ℕ) → j < n → c j ≤ 2

-- an estimate 0 that is heard makes the estimate 0, and else it stays
abbrev pub LoweredBy : ℕ → (ℕ → ℕ) → ℕ → ℕ → Type 0
LoweredBy n c before estimate = ((estimate ≡ 0) × (Some n λ j. c j ≡ 1)) ⊎ ((estimate ≡ before) × ((j : ℕ) → j < n → c j ≢ 1))

-- the process decides what a decided message says
pub record ToldBy (n r : ℕ) (c : ℕ → ℕ) (estimate decided : ℕ) : Type 0 where
  pub decided_is : decided ≡ suc r
  pub by : Some n λ k. c k ≡ 3 + estimate

-- FCWFA's first round: nobody decides, and the estimate is 1 after it only if every process is heard to say 1
pub record FirstRound (n : ℕ) (c : ℕ → ℕ) (before estimate decided : ℕ) : Type 0 where
  pub decided_is : decided ≡ 0
  pub estimate_is : ((estimate ≡ 0) × (Some n λ j. c j ≢ 2)) ⊎ ((estimate ≡ before) × ((j : ℕ) → j < n → c j ≡ 2))

-- by which rule of FCWFA the process decides, not told
pub data Why (n t r : ℕ) (c : ℕ → ℕ) : Type 0 where
  by_zeros : r ≡ 1 → ((j : ℕ) → j < n → c j ≢ 2) → Why n t r c
  by_quiet : suc r < t → n + 1 ≤ estimates_in n c + r → Why n t r c
  by_count : suc r ≡ t → n + 1 ≤ estimates_in n c + t → Why n t r c
  by_last : r ≡ t → Why n t r c

-- why it does not decide yet
pub record NotYet (n t r : ℕ) (c : ℕ → ℕ) : Type 0 where
  pub not_last : r < t
  pub not_zeros : r ≡ 1 → Some n λ j. c j ≡ 2
  pub not_quiet : suc r < t → estimates_in n c + r ≤ n
  pub not_count : suc r ≡ t → estimates_in n c + t ≤ n

pub data Ends (n t r : ℕ) (c : ℕ → ℕ) (decided : ℕ) : Type 0 where
  decides : decided ≡ suc r → Why n t r c → Ends n t r c decided
  waits : decided ≡ 0 → NotYet n t r c → Ends n t r c decided
