-- Agreement. In the first round with a decision the estimates of all who complete it are alike, by the rule that decides: in a quiet round they
-- were alike before, since few crashed; on zeros only the decider's own 0 reaches all; in round t + 1 two estimates would need t + 1 crashes.
-- In round t after many crashes the deciders heard every process that was left, so they say the same, and one of them never crashes and tells
-- all others. From then on estimates and decisions stay alike. Assumes nothing.
use mathlib.Core.Path.{◌≡◌, ap}
use mathlib.Core.Logic.{inl, inr, ◌≢◌}
use mathlib.Core.Bool.{true, not}
use Prim.Native.Nat.{ℕ, zero, suc, ◌+◌, ◌≤◌, ◌<◌}
use native.Mathlib.Nat.{eq-zero-or-pos}
use native.Mathlib.Omega.{arith}
use lib.Dec.{leb}
use borrow.Author.Tests.{leb-true, leb-false, lt-leb}
use Rattle.laws.proofs.Counting.{split, find, count_mono, count_strict, count_not}
use Rattle.member.specs.Hearing.{is_estimate}
use Rattle.member.proofs.Codes.{estimate_heard}
use Rattle.run.proofs.OneRound.{by_zeros, by_quiet, by_count, by_last, decides, waits, estimates_in}
use Rattle.run.proofs.World.{World, RoundLaws, DecisionRules, Plays, Told, crashes, NobodyDecided, Uniform, AllDecide, crashes_mono, crashes_more}
use Rattle.run.proofs.States.{bits, teller, range, stays, undecided, between, hears_of, heard_by_all, heard_from_lem, nobody_told, plays_on, uniform_step, settled}
use Rattle.run.proofs.EarlyDecision.{crashes_so_far}
use Rattle.run.proofs.Votes.{none_in_1}
use Rattle.run.proofs.Apart.{unless_told, uniform_of}

module _ (w : World) where
  open w use {n, t, start, crash, estimate, decided, code}

  module _ (laws : RoundLaws w) (rules : DecisionRules w) where
    -- an estimate that is heard comes from one who has not crashed
    heard_alive : (r i : ℕ) → r ≤ t → i < n → NobodyDecided w r → (j : ℕ) → j < n → is_estimate (code r i j) ≡ true → not (leb (crash j) r) ≡ true
    heard_alive r i rt l nb j jl e = ap not (lt-leb (crash j) r (heard_from_lem w laws r i j rt l jl nb (estimate_heard (code r i j) e)).0)

    -- those who crashed before round r + 1 are missing in it
    gone : (r i : ℕ) → r ≤ t → i < n → NobodyDecided w r → crashes w r + estimates_in n (code r i) ≤ n
    gone r i rt l nb =
        let all = count_not n (λ j. leb (crash j) r) in
        let sub = count_mono n (λ j. is_estimate (code r i j)) (λ j. not (leb (crash j) r)) (heard_alive r i rt l nb) in
        omega arith

    -- and where no others are missing i hears every process that completed round r
    full : (r i : ℕ) → r ≤ t → i < n → NobodyDecided w r → n ≤ crashes w r + estimates_in n (code r i) → (j : ℕ) → j < n → r < crash j → code r i j ≡ suc (estimate r j)
    full r i rt l nb h j jl a =
        elim (eq-zero-or-pos (code r i j)) [
          | inr p ↦ (heard_from_lem w laws r i j rt l jl nb p).1
          | inl z ↦
              let all = count_not n (λ j. leb (crash j) r) in
              let sub = count_strict n (λ j. is_estimate (code r i j)) (λ j. not (leb (crash j) r)) (heard_alive r i rt l nb) j jl (ap is_estimate z) (ap not (lt-leb (crash j) r a)) in
              absurd (omega arith)
        ]

    -- round t = r + 1, after r crashes or more, nobody having decided
    module _ (r : ℕ) (pos : 0 < r) (rt : suc r ≡ t) (nb : NobodyDecided w r) (many : r ≤ crashes w r) where
      -- i decides in round t
      record Decider (i : ℕ) : Type 0 where
        process : i < n
        alive : suc r < crash i
        made : decided (suc r) i ≡ suc r

      decider : (i : ℕ) → i < n → 0 < decided (suc r) i → Decider i
      decider i l p =
          elim (range w laws (suc r) (omega arith) i l) [
            | inl z ↦ absurd (omega arith)
            | inr m ↦
                let b = between w laws r (suc r) i (omega arith) (omega arith) l (nb i l) p in
                let hi = m.high in
                let al = m.alive in
                record { process = l; alive = omega arith; made = omega arith }
          ]

      all_heard : (i : ℕ) → Decider i → (j : ℕ) → j < n → r < crash j → code r i j ≡ suc (estimate r j)
      all_heard i d =
          let il = d.process in
          let m = d.made in
          let tl = laws.t_low in
          full r i (omega arith) il nb
          (elim (rules.ends r i (plays_on w laws r i (omega arith) il d.alive nb) pos (nobody_told w laws r i (omega arith) il nb)) [
            | waits z _ ↦ absurd (omega arith)
            | decides _ y ↦
                elim y [ by_zeros e _ ↦ absurd (omega arith) | by_quiet b _ ↦ absurd (omega arith) | by_count _ h ↦ omega arith | by_last b ↦ absurd (omega arith) ]
          ])

      -- they all heard the same
      not_apart : (i k : ℕ) → Decider i → Decider k → estimate (suc r) i ≡ 0 → estimate (suc r) k ≡ 1 → ⊥
      not_apart i k di dk zi ok =
          let il = di.process in
          let kl = dk.process in
          elim (unless_told w laws rules r k pos (omega arith) kl dk.alive nb) [
            | inl q ↦ omega arith
            | inr q ↦
                elim (unless_told w laws rules r i pos (omega arith) il di.alive nb) [
                  | inl p ↦
                      let x = p.1.0 in
                      let xl : x < n = p.1.1 in
                      let e = p.1.2 in
                      let h = heard_from_lem w laws r i x (omega arith) il xl nb (omega arith) in
                      let v = all_heard k dk x xl h.0 in
                      let y : code r k x ≢ 1 = q.1 x xl in
                      omega arith
                  | inr p ↦
                      let own = all_heard i di i il (let a = di.alive in omega arith) in
                      let y : code r i i ≢ 1 = p.1 i il in
                      omega arith
                ]
          ]

      same : (i k : ℕ) → Decider i → Decider k → estimate (suc r) k ≡ estimate (suc r) i
      same i k di dk =
          let bi = bits w laws (suc r) (omega arith) i di.process in
          let bk = bits w laws (suc r) (omega arith) k dk.process in
          elim (split (estimate (suc r) k) (estimate (suc r) i)) [
            | inl a ↦ elim (split (estimate (suc r) i) (estimate (suc r) k)) [ inl b ↦ omega arith | inr b ↦ absurd (not_apart k i dk di (omega arith) (omega arith)) ]
            | inr a ↦ absurd (not_apart i k di dk (omega arith) (omega arith))
          ]

      -- a process that is told in round t + 1 has it from such a decider
      told_late : (i k x : ℕ) → Decider i → x < n → decided t x ≡ t → estimate (suc t) k ≡ estimate t x → estimate (suc t) k ≡ estimate (suc r) i
      told_late i k x di xl dx e =
          let px : 0 < decided (suc r) x = rw rt (omega arith) in
          let v = same i x di (decider x xl px) in
          let v2 : estimate (suc r) x ≡ estimate t x = ap (λ q. estimate q x) rt in
          omega arith

      -- whoever does not decide in round t has seen all crashes, and is told by i, which does not crash
      waiter : (i k : ℕ) → Decider i → k < n → decided (suc r) k ≡ 0 → 0 < decided (suc t) k → Told w t k
      waiter i k di kl z p =
          let ia = di.alive in
          let il = di.process in
          let ka : suc t < crash k =
          elim (range w laws (suc t) (omega arith) k kl) [
            | inl y ↦ absurd (omega arith)
            | inr m ↦ let b = between w laws (suc r) (suc t) k (omega arith) (omega arith) kl z p in let al = m.alive in omega arith
          ] in
          let before = nb k kl in
          let o : Plays w r k = record { time = omega arith; process = kl; alive = omega arith; undecided = before } in
          let k8 = (crashes_so_far w laws rules r k o pos z).round_t rt in
          let ic : suc t < crash i =
          elim (split (crash i) (suc t)) [
            | inr a ↦ a
            | inl a ↦ let s = crashes_more w (suc r) (suc t) i (omega arith) il ia a in let f = laws.few in absurd (omega arith)
          ] in
          let ot : Plays w t k = record { time = omega arith; process = kl; alive = ka; undecided = rw (← rt) z } in
          hears_of w laws t k i ot (omega arith) il ic (rw (← rt) di.made)

      round_t : (i : ℕ) → Decider i → AllDecide w (estimate (suc r) i)
      round_t i di k kl kp =
          elim (eq-zero-or-pos (decided (suc r) k)) [
            | inr p ↦
                let s = stays w laws (suc r) (suc t) k (omega arith) (omega arith) kl p in
                let e = same i k di (decider k kl p) in
                omega arith
            | inl z ↦
                let g = teller w laws t k (omega arith) kl (waiter i k di kl z kp) in
                told_late i k g.0 di g.1 g.2.2 g.2.3
          ]

    -- the first round with a decision settles all
    few_first : (r i : ℕ) → r ≤ t → NobodyDecided w r → crashes w r < r → i < n → suc r < crash i → (v : ℕ) × AllDecide w v
    few_first zero i rt nb h l a = absurd (omega arith)
    few_first (suc q) i rt nb h l a =
        let s1 = rules.start_1 in
        let before : NobodyDecided w q = λ j jl. undecided w laws q (suc q) j (omega arith) (omega arith) jl (nb j jl) in
        let u = uniform_of w laws rules q i (omega arith) before h l (omega arith) in
        let v = uniform_step w laws (suc q) (estimate (suc q) i) (omega arith) rt u in
        (estimate (suc q) i, λ k kl kp. settled w laws (suc q) (estimate (suc q) i) k (omega arith) rt v kl (nb k kl) kp)

    uniform_first : (r v : ℕ) → r ≤ t → NobodyDecided w r → Uniform w (suc r) v → (v : ℕ) × AllDecide w v
    uniform_first r v rt nb u = let s1 = rules.start_1 in (v, λ k kl kp. settled w laws r v k (omega arith) rt u kl (nb k kl) kp)

    first_decision : (r i : ℕ) → 0 < r → r ≤ t → NobodyDecided w r → i < n → 0 < decided (suc r) i → (v : ℕ) × AllDecide w v
    first_decision r i p rt nb l d =
        elim (split (crash i) (suc r)) [
          | inl a ↦ absurd (let k = (laws.out r i rt l a).decided_is in let z = nb i l in omega arith)
          | inr a ↦
              elim (rules.ends r i (plays_on w laws r i rt l a nb) p (nobody_told w laws r i rt l nb)) [
                | waits z _ ↦ absurd (omega arith)
                | decides e y ↦
                    elim y [
                      | by_zeros r1 no2 ↦
                          let own = heard_by_all w laws r i i rt l l nb a in
                          let not2 : code r i i ≢ 2 = no2 i l in
                          let b = bits w laws r (omega arith) i l in
                          uniform_first r 0 rt nb (λ k kl ka.
                          elim (unless_told w laws rules r k p rt kl ka nb) [
                            | inl q ↦ q.0
                            | inr q ↦ absurd (let x = heard_by_all w laws r k i rt kl l nb a in let z : code r k i ≢ 1 = q.1 i l in omega arith)
                          ])
                      | by_quiet b m ↦ few_first r i rt nb (let g = gone r i rt l nb in omega arith) l a
                      | by_count b m ↦
                          elim (split r (crashes w r)) [
                            | inl x ↦ (estimate (suc r) i, round_t r p b nb x i (record { process = l; alive = a; made = e }))
                            | inr x ↦ few_first r i rt nb x l a
                          ]
                      | by_last b ↦ uniform_first r (estimate (suc r) i) rt nb (uniform_of w laws rules r i rt nb (let f = laws.few in let m = crashes_mono w (suc r) (suc t) (omega arith) in omega arith) l a)
                    ]
              ]
        ]

    search_round : (k r : ℕ) → k + r ≡ suc t → 0 < r → NobodyDecided w r → (v : ℕ) × AllDecide w v
    search_round zero r e p nb = (0, λ i l q. absurd (let z = nb i l in let y : r ≡ suc t = omega arith in let x : decided (suc t) i ≡ 0 = rw (← y) z in omega arith))
    search_round (suc k) r e p nb =
        elim (find n (λ j. leb 1 (decided (suc r) j))) [
          | inl s ↦ first_decision r s.0 p (omega arith) nb s.1 (leb-true 1 (decided (suc r) s.0) s.2)
          | inr f ↦ search_round k (suc r) (omega arith) (omega arith) (λ j jl. let h = leb-false 1 (decided (suc r) j) (f j jl) in omega arith)
        ]

    pub agreement : (v : ℕ) × AllDecide w v
    agreement = search_round t 1 (omega arith) (omega arith) (none_in_1 w laws rules)
