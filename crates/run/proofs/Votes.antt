-- Votes. A vote of 0 makes every estimate after round 1 a 0, whether its message is heard or missed, and round 2 decides on zeros only. Votes of
-- 1 without a crash fill every row with ones, and round 2 is quiet. Assumes nothing.
use mathlib.Core.Path.{◌≡◌, refl}
use mathlib.Core.Logic.{◌⊎◌, inl, inr, ◌≢◌}
use Prim.Native.Nat.{ℕ, suc, ◌<◌}
use native.Mathlib.Omega.{arith}
use lib.Dec.{leb}
use borrow.Author.Tests.{leb-false}
use Rattle.laws.proofs.Counting.{Some, split, count_of_all, count_zero}
use Rattle.member.specs.Hearing.{is_estimate}
use Rattle.member.proofs.Codes.{is_estimate_lem}
use Rattle.run.proofs.OneRound.{decides, waits}
use Rattle.run.proofs.World.{World, Plays, RoundLaws, DecisionRules, crashes, Uniform, AllDecide}
use Rattle.run.proofs.States.{heard_by_all, heard_from_lem, nobody_told, plays_on, uniform_step, settled}

module _ (w : World) where
  open w use {n, t, start, crash, estimate, decided, code}

  module _ (laws : RoundLaws w) (rules : DecisionRules w) where
    -- nobody decides in round 1
    pub none_in_1 : (i : ℕ) → i < n → decided 1 i ≡ 0
    none_in_1 i l =
        let z = laws.opens_undecided i l in
        let tl = laws.t_low in
        elim (split (crash i) 1) [
          | inl a ↦ let k = (laws.out 0 i (omega arith) l a).decided_is in omega arith
          | inr a ↦ (rules.first i (record { time = omega arith; process = l; alive = a; undecided = z })).decided_is
        ]

    -- after round 1 an estimate is 1 only if every process was heard to say 1
    pub first_estimate_lem : (i : ℕ) → i < n → 1 < crash i → ((estimate 1 i ≡ 0) × (Some n λ j. code 0 i j ≢ 2)) ⊎ ((estimate 1 i ≡ 1) × ((j : ℕ) → j < n → code 0 i j ≡ 2))
    first_estimate_lem i l a =
        let o : Plays w 0 i = record { time = omega arith; process = l; alive = a; undecided = laws.opens_undecided i l } in
        elim (rules.first i o).estimate_is [
          | inl p ↦ inl p
          | inr p ↦
              let own = p.1 i l in
              let said = heard_by_all w laws 0 i i (omega arith) l l laws.opens_undecided a in
              let same = p.0 in
              inr (omega arith, p.1)
        ]

    -- a vote of 0, by k: every estimate after round 1 is 0, round 2 decides, and every decision is 0
    abort_1 : (k : ℕ) → k < n → estimate 0 k ≡ 0 → Uniform w 1 0
    abort_1 k kl z i l a =
        elim (first_estimate_lem i l a) [
          | inl p ↦ p.0
          | inr p ↦ let two = p.1 k kl in absurd (let h = heard_from_lem w laws 0 i k (omega arith) l kl laws.opens_undecided (omega arith) in omega arith)
        ]

    pub abort_2 : (k : ℕ) → k < n → estimate 0 k ≡ 0 → (i : ℕ) → i < n → 2 < crash i → (decided 2 i ≡ 2) × (estimate 2 i ≡ 0)
    abort_2 k kl z i l a =
        let tl = laws.t_low in
        let u1 = abort_1 k kl z in
        let o = plays_on w laws 1 i (omega arith) l a none_in_1 in
        let s1 = rules.start_1 in
        let e2 = uniform_step w laws 1 0 (omega arith) (omega arith) u1 i l a in
        elim (rules.ends 1 i o (omega arith) (nobody_told w laws 1 i (omega arith) l none_in_1)) [
          | decides e _ ↦ (e, e2)
          | waits _ h ↦
              let q = h.not_zeros refl in
              let x = q.0 in
              let xl : x < n = q.1 in
              let two = q.2 in
              absurd (let b = heard_from_lem w laws 1 i x (omega arith) l xl none_in_1 (omega arith) in let y = u1 x xl b.0 in omega arith)
        ]

    pub abort : (k : ℕ) → k < n → estimate 0 k ≡ 0 → AllDecide w 0
    abort k kl z i l p =
        let tl = laws.t_low in
        let s1 = rules.start_1 in
        settled w laws 0 0 i (omega arith) (omega arith) (abort_1 k kl z) l (laws.opens_undecided i l) p

    -- votes of 1 alone and no crash: every estimate after round 1 is 1, and round 2 is quiet
    module _ (ones : (j : ℕ) → j < n → estimate 0 j ≡ 1) (safe : crashes w (suc t) ≡ 0) where
      alive : (j : ℕ) → j < n → suc t < crash j
      alive j l = leb-false (crash j) (suc t) (count_zero n (λ j. leb (crash j) (suc t)) safe j l)

      commit_1 : Uniform w 1 1
      commit_1 i l a =
          let tl = laws.t_low in
          elim (first_estimate_lem i l a) [
            | inr p ↦ p.0
            | inl p ↦
                let j = p.1.0 in
                let jl : j < n = p.1.1 in
                let no2 : code 0 i j ≢ 2 = p.1.2 in
                let b = alive j jl in
                let o = ones j jl in
                absurd (let e = heard_by_all w laws 0 i j (omega arith) l jl laws.opens_undecided (omega arith) in omega arith)
          ]

      pub commit_2 : (i : ℕ) → i < n → (decided 2 i ≡ 2) × (estimate 2 i ≡ 1)
      commit_2 i l =
          let tl = laws.t_low in
          let a = alive i l in
          let s1 = rules.start_1 in
          let o = plays_on w laws 1 i (omega arith) l (omega arith) none_in_1 in
          let e2 = uniform_step w laws 1 1 (omega arith) (omega arith) commit_1 i l (omega arith) in
          elim (rules.ends 1 i o (omega arith) (nobody_told w laws 1 i (omega arith) l none_in_1)) [
            | decides e _ ↦ (e, e2)
            | waits _ h ↦
                let all = count_of_all n (λ j. is_estimate (code 1 i j)) (λ j jl.
                let b = alive j jl in
                let v = commit_1 j jl (omega arith) in
                let e = heard_by_all w laws 1 i j (omega arith) l jl none_in_1 (omega arith) in
                is_estimate_lem (code 1 i j) (omega arith) (omega arith)) in
                absurd (let y = h.not_quiet (omega arith) in omega arith)
          ]
