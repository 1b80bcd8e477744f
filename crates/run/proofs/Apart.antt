-- Estimates that differ. Before the first decision two processes that complete a round differ only if a process crashed in each round so far:
-- whoever brought the 0 that the other missed crashed in this round, and differed from it the round before. So few crashes make the
-- estimates of all who complete a round alike. Assumes nothing.
use mathlib.Core.Path.{◌≡◌}
use mathlib.Core.Logic.{inl, inr, ◌≢◌}
use Prim.Native.Nat.{ℕ, zero, suc, ◌≤◌, ◌<◌}
use native.Mathlib.Omega.{arith}
use lib.Dec.{leb}
use borrow.Author.Tests.{le-leb}
use Rattle.laws.proofs.Counting.{split, count_pos}
use Rattle.run.proofs.World.{World, RoundLaws, DecisionRules, Lowered, crashes, NobodyDecided, Uniform, crashes_more}
use Rattle.run.proofs.States.{bits, undecided, heard_by_all, heard_from_lem, nobody_told, plays_on}
use Rattle.run.proofs.Votes.{first_estimate_lem}

module _ (w : World) where
  open w use {n, t, start, crash, estimate, decided, code}

  module _ (laws : RoundLaws w) (rules : DecisionRules w) where
    -- with no decision yet an estimate 0 that is heard lowers the estimate, from round 2 on
    pub unless_told : (r i : ℕ) → 0 < r → r ≤ t → i < n → suc r < crash i → NobodyDecided w r → Lowered w r i
    unless_told r i p rt l a nb = let s1 = rules.start_1 in laws.lowers r i (plays_on w laws r i rt l a nb) (omega arith) (nobody_told w laws r i rt l nb)

    -- i and k complete round r + 1, nobody having decided before it, and after it i has the estimate 1 and k the estimate 0
    pub apart_needs_crashes : (r i k : ℕ) → r ≤ t → i < n → k < n → suc r < crash i → suc r < crash k → NobodyDecided w r
        → estimate (suc r) i ≡ 1 → estimate (suc r) k ≡ 0 → suc r ≤ crashes w (suc r)
    apart_needs_crashes zero i k rt il kl ia ka nb ei ek =
        elim (first_estimate_lem w laws rules i il ia) [
          | inl p ↦ absurd (omega arith)
          | inr p ↦
              elim (first_estimate_lem w laws rules k kl ka) [
                | inr q ↦ absurd (omega arith)
                | inl q ↦
                    let j = q.1.0 in
                    let jl : j < n = q.1.1 in
                    let no2 : code 0 k j ≢ 2 = q.1.2 in
                    let two = p.1 j jl in
                    elim (split (crash j) 1) [
                      | inl a ↦ count_pos n (λ j. leb (crash j) 1) j jl (le-leb (crash j) 1 a)
                      | inr a ↦ let x = heard_by_all w laws 0 k j rt kl jl nb a in let y = heard_by_all w laws 0 i j rt il jl nb a in absurd (omega arith)
                    ]
              ]
        ]
    apart_needs_crashes (suc r) i k rt il kl ia ka nb ei ek =
        go (λ x. apart_needs_crashes r i x) (unless_told (suc r) i (omega arith) rt il ia nb) (unless_told (suc r) k (omega arith) rt kl ka nb)
      where
        go : ((x : ℕ) → r ≤ t → i < n → x < n → suc r < crash i → suc r < crash x → NobodyDecided w r
            → estimate (suc r) i ≡ 1 → estimate (suc r) x ≡ 0 → suc r ≤ crashes w (suc r))
            → Lowered w (suc r) i → Lowered w (suc r) k → suc (suc r) ≤ crashes w (suc (suc r))
        go ih (inl p) q = absurd (omega arith)
        go ih (inr p) (inr q) = absurd (let x = heard_by_all w laws (suc r) i k rt il kl nb ka in let y : code (suc r) i k ≢ 1 = p.1 k kl in omega arith)
        go ih (inr p) (inl q) =
            let x = q.1.0 in
            let xl : x < n = q.1.1 in
            let e1 = q.1.2 in
            let h = heard_from_lem w laws (suc r) k x rt kl xl nb (omega arith) in
            let prev : NobodyDecided w r = λ j jl. undecided w laws r (suc r) j (omega arith) (omega arith) jl (nb j jl) in
            let m = ih x (omega arith) il xl (omega arith) h.0 prev (omega arith) (omega arith) in
            let y : code (suc r) i x ≢ 1 = p.1 x xl in
            elim (split (crash x) (suc (suc r))) [
              | inl a ↦ let s = crashes_more w (suc r) (suc (suc r)) x (omega arith) xl h.0 a in omega arith
              | inr a ↦ absurd (let v = heard_by_all w laws (suc r) i x rt il xl nb a in let z = h.1 in omega arith)
            ]

    -- few crashes make a round uniform
    pub uniform_of : (r i : ℕ) → r ≤ t → NobodyDecided w r → crashes w (suc r) < suc r → i < n → suc r < crash i → Uniform w (suc r) (estimate (suc r) i)
    uniform_of r i rt nb few il ia k kl ka =
        let bi = bits w laws (suc r) (omega arith) i il in
        let bk = bits w laws (suc r) (omega arith) k kl in
        elim (split (estimate (suc r) k) (estimate (suc r) i)) [
          | inl a ↦
              elim (split (estimate (suc r) i) (estimate (suc r) k)) [
                | inl b ↦ omega arith
                | inr b ↦ absurd (let h = apart_needs_crashes r i k rt il kl ia ka nb (omega arith) (omega arith) in omega arith)
              ]
          | inr a ↦ absurd (let h = apart_needs_crashes r k i rt kl il ka ia nb (omega arith) (omega arith) in omega arith)
        ]
