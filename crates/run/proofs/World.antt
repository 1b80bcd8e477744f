-- A run as plain numbers, and what one round does to them: the laws that every protocol of the bench keeps, and those of FCWFA's rules.
-- Everything that demand 3 says is shown from these laws alone, in the files after this one; that a run keeps them is shown in RunWorld.antt
-- and FcwfaRun.antt. Assumes nothing.
use mathlib.Core.Path.{◌≡◌}
use mathlib.Core.Logic.{◌⊎◌}
use Prim.Native.Nat.{ℕ, suc, ◌+◌, ◌≤◌, ◌<◌}
use native.Mathlib.Omega.{arith}
use lib.Dec.{leb}
use borrow.Author.Tests.{leb-true, le-leb, lt-leb}
use Rattle.laws.specs.Below.{count}
use Rattle.laws.proofs.Counting.{count_mono, count_strict}
use Rattle.run.proofs.OneRound.{NoneDecided, LoweredBy, ToldBy, FirstRound, Ends}

-- n processes of which t may crash. `crash j` is the crash round of j, above t + 1 if it never crashes, so that j completes round r exactly if
-- r < crash j; `estimate r i` and `decided r i` are those of process i after r rounds; `code r i j` is the code that i hears from j in round
-- r + 1. From round start + 1 on an estimate 0 that is heard lowers the estimate.
pub record World : Type 0 where
  pub n : ℕ
  pub t : ℕ
  pub start : ℕ
  pub crash : ℕ → ℕ
  pub estimate : ℕ → ℕ → ℕ
  pub decided : ℕ → ℕ → ℕ
  pub code : ℕ → ℕ → ℕ → ℕ

module _ (w : World) where
  open w use {n, t, start, crash, estimate, decided, code}

  -- what i hears from j in round r + 1: nothing, an estimate, or a decision made in round r
  pub data Heard (r i j : ℕ) : Type 0 where
    hears_nothing : code r i j ≡ 0 → (suc r < crash j → (0 < decided r j) × (decided r j < r)) → Heard r i j
    hears_estimate : r < crash j → decided r j ≡ 0 → code r i j ≡ suc (estimate r j) → Heard r i j
    hears_decision : r < crash j → 0 < r → decided r j ≡ r → code r i j ≡ 3 + estimate r j → Heard r i j

  -- i is after round r + 1 as it was before it
  pub record Kept (r i : ℕ) : Type 0 where
    pub estimate_is : estimate (suc r) i ≡ estimate r i
    pub decided_is : decided (suc r) i ≡ decided r i

  -- i decides in round r + 1 what a decided message says
  abbrev pub Told : ℕ → ℕ → Type 0
  Told r i = ToldBy n r (code r i) (estimate (suc r) i) (decided (suc r) i)

  -- an estimate 0 that is heard in round r + 1 makes the estimate of i a 0, and else it stays
  abbrev pub Lowered : ℕ → ℕ → Type 0
  Lowered r i = LoweredBy n (code r i) (estimate r i) (estimate (suc r) i)

  -- i, undecided, completes round r + 1
  pub record Plays (r i : ℕ) : Type 0 where
    pub time : r ≤ t
    pub process : i < n
    pub alive : suc r < crash i
    pub undecided : decided r i ≡ 0

  -- no decided message reaches i in round r + 1
  abbrev pub NotTold : ℕ → ℕ → Type 0
  NotTold r i = NoneDecided n (code r i)

  -- how many crash in rounds 1 to r
  abbrev pub crashes : ℕ → ℕ
  crashes r = count n (λ j. leb (crash j) r)

  -- what a run of any of the protocols keeps
  pub record RoundLaws : Type 0 where
    pub t_low : 3 ≤ t
    pub t_high : t < n
    pub few : crashes (suc t) ≤ t
    pub opens_bit : (i : ℕ) → i < n → estimate 0 i ≤ 1
    pub opens_undecided : (i : ℕ) → i < n → decided 0 i ≡ 0
    pub heard : (r i j : ℕ) → r ≤ t → i < n → j < n → Heard r i j
    pub out : (r i : ℕ) → r ≤ t → i < n → crash i ≤ suc r → Kept r i
    pub kept : (r i : ℕ) → r ≤ t → i < n → 0 < decided r i → Kept r i
    pub moves : (r i : ℕ) → Plays r i → (decided (suc r) i ≡ 0) ⊎ (decided (suc r) i ≡ suc r)
    pub never_rises : (r i : ℕ) → Plays r i → NotTold r i → estimate (suc r) i ≤ estimate r i
    pub told : (r i j : ℕ) → Plays r i → 0 < r → j < n → 3 ≤ code r i j → code r i j ≤ 4 → Told r i
    pub lowers : (r i : ℕ) → Plays r i → start ≤ r → NotTold r i → Lowered r i
    pub ends : (i : ℕ) → Plays t i → decided (suc t) i ≡ suc t

  -- nobody has decided by the end of round r
  abbrev pub NobodyDecided : ℕ → Type 0
  NobodyDecided r = (j : ℕ) → j < n → decided r j ≡ 0

  -- all who complete round r have the estimate v after it
  abbrev pub Uniform : ℕ → ℕ → Type 0
  Uniform r v = (i : ℕ) → i < n → r < crash i → estimate r i ≡ v

  -- every decision is v
  abbrev pub AllDecide : ℕ → Type 0
  AllDecide v = (i : ℕ) → i < n → 0 < decided (suc t) i → estimate (suc t) i ≡ v

  -- what a run of FCWFA keeps besides
  pub record DecisionRules : Type 0 where
    pub start_1 : start ≡ 1
    pub first : (i : ℕ) → Plays 0 i → FirstRound n (code 0 i) (estimate 0 i) (estimate 1 i) (decided 1 i)
    pub ends : (r i : ℕ) → Plays r i → 0 < r → NotTold r i → Ends n t r (code r i) (decided (suc r) i)

  pub crashes_mono : (r q : ℕ) → r ≤ q → crashes r ≤ crashes q
  crashes_mono r q h =
      count_mono n (λ j. leb (crash j) r) (λ j. leb (crash j) q) (λ j _ e.
      le-leb (crash j) q (let a = leb-true (crash j) r e in omega arith))

  -- x crashes after round r, and by round q
  pub crashes_more : (r q x : ℕ) → r ≤ q → x < n → r < crash x → crash x ≤ q → crashes r < crashes q
  crashes_more r q x h xl a b =
      count_strict n (λ j. leb (crash j) r) (λ j. leb (crash j) q)
      (λ j _ e. le-leb (crash j) q (let y = leb-true (crash j) r e in omega arith)) x xl (lt-leb (crash x) r a) (le-leb (crash x) q b)
