-- A run in which nobody decides before a given round: a 1 is heard in round 2, nobody is heard from then on that crashes by the end of the round, and
-- the crashes are as many as a round needs that ends undecided. So too few estimates are heard for any rule. Assumes nothing.
use mathlib.Core.Path.{◌≡◌, refl, ap, ◌∙◌}
use mathlib.Core.Logic.{inl, inr}
use mathlib.Core.Bool.{not}
use Prim.Native.Nat.{ℕ, zero, suc, ◌+◌, ◌≤◌, ◌<◌}
use native.Mathlib.Omega.{arith}
use lib.Dec.{leb}
use borrow.Author.Tests.{leb-true}
use Rattle.laws.proofs.Counting.{split, count_mono, count_not}
use Rattle.member.specs.Hearing.{is_estimate}
use Rattle.run.proofs.OneRound.{estimates_in, Why, by_zeros, by_quiet, by_count, by_last, decides, waits}
use Rattle.run.proofs.World.{World, RoundLaws, DecisionRules, crashes, NobodyDecided}
use Rattle.run.proofs.States.{heard_by_all, nobody_told, plays_on}
use Rattle.run.proofs.EarlyDecision.{EndsUndecided}
use Rattle.run.proofs.Votes.{none_in_1}

module _ (w : World) where
  open w use {n, t, crash, estimate, code}

  -- what keeps all undecided in the rounds before `settled`
  pub record KeptOpen (settled : ℕ) : Type 0 where
    -- a process that never crashes and has the estimate 1 after round 1
    pub survivor : ℕ
    pub process : survivor < n
    pub survives : suc t < crash survivor
    pub one : estimate 1 survivor ≡ 1
    -- in round r + 1, from round 2 on, nobody hears from one that crashes in it or crashed before
    pub lost : (r i j : ℕ) → 0 < r → r ≤ t → i < n → j < n → crash j ≤ suc r → code r i j ≡ 0
    -- as many crash as in a round that ends undecided
    pub many : (r : ℕ) → 0 < r → suc r < settled → EndsUndecided w r

  module _ (laws : RoundLaws w) (rules : DecisionRules w) (settled : ℕ) (kept : KeptOpen settled) where
    -- no estimate is heard in round r + 1 from those that crash by its end
    few_heard : (r i : ℕ) → 0 < r → r ≤ t → i < n → estimates_in n (code r i) + crashes w (suc r) ≤ n
    few_heard r i p rt l =
        let all = count_not n (λ j. is_estimate (code r i j)) in
        let sub = count_mono n (λ j. leb (crash j) (suc r)) (λ j. not (is_estimate (code r i j))) (λ j jl e.
        rw (kept.lost r i j p rt l jl (leb-true (crash j) (suc r) e)) refl) in
        omega arith

    -- so they are too few for the rules of the round; nor are all of round 2 zeros, since the survivor's 1 is heard in it
    no_rule : (r i : ℕ) → 0 < r → suc r < settled → i < n → NobodyDecided w r → Why n t r (code r i) → ⊥
    no_rule r i p b l nb why =
        let many = kept.many r p b in
        let rt = many.not_last in
        let few = few_heard r i p (omega arith) l in
        elim why [
          | by_zeros e none ↦
              let a = kept.survives in
              let heard = heard_by_all w laws r i kept.survivor (omega arith) l kept.process nb (omega arith) in
              none kept.survivor kept.process (heard ∙ ap suc (rw e kept.one))
          | by_quiet q h ↦ let c = many.early q in omega arith
          | by_count q h ↦ let c = many.round_t q in omega arith
          | by_last e ↦ omega arith
        ]

    -- and nobody decides in the round: whoever completes it is not told, and meets no rule
    none_in_next : (r : ℕ) → 0 < r → suc r < settled → NobodyDecided w r → NobodyDecided w (suc r)
    none_in_next r p b nb i l =
        let rt = (kept.many r p b).not_last in
        let low = nobody_told w laws r i (omega arith) l nb in
        elim (split (crash i) (suc r)) [
          | inl out ↦ (laws.out r i (omega arith) l out).decided_is ∙ nb i l
          | inr a ↦
              elim (rules.ends r i (plays_on w laws r i (omega arith) l a nb) p low) [
                | decides _ why ↦ absurd (no_rule r i p b l nb why)
                | waits z _ ↦ z
              ]
        ]

    -- nobody decides in round 1 either, so nobody has before `settled`
    pub nobody_yet : (r : ℕ) → r < settled → NobodyDecided w r
    nobody_yet zero b = laws.opens_undecided
    nobody_yet (suc zero) b = none_in_1 w laws rules
    nobody_yet (suc (suc r)) b = none_in_next (suc r) (omega arith) b (nobody_yet (suc r) (omega arith))
