-- What is known of the states after each round: an estimate is 0 or 1; a decision is made once, in a round that its process completes, and
-- stays; what a process hears of another; and that estimates which are all alike stay so. Assumes nothing.
use mathlib.Core.Path.{◌≡◌, refl}
use mathlib.Core.Logic.{◌⊎◌, inl, inr}
use Prim.Native.Nat.{ℕ, zero, suc, ◌+◌, ◌≤◌, ◌<◌}
use native.Mathlib.Nat.{eq-zero-or-pos}
use native.Mathlib.Omega.{arith}
use lib.Dec.{leb}
use borrow.Author.Tests.{leb-true, leb-false}
use Rattle.laws.proofs.Counting.{Some, split, find}
use Rattle.run.proofs.World.{World, RoundLaws, hears_nothing, hears_estimate, hears_decision, Kept, Told, Plays, NotTold, NobodyDecided, Uniform}

module _ (w : World) where
  open w use {n, t, start, crash, estimate, decided, code}

  module _ (laws : RoundLaws w) where
    -- the ways of process i through round r + 1
    pub data Way (r i : ℕ) : Type 0 where
      stays_put : (crash i ≤ suc r) ⊎ (0 < decided r i) → Kept w r i → Way r i
      told : Plays w r i → 0 < r → Told w r i → Way r i
      not_told : Plays w r i → NotTold w r i → Way r i

    -- a code of 3 or more comes from a decision of the round before
    pub heard_decision : (r i j : ℕ) → r ≤ t → i < n → j < n → estimate r j ≤ 1 → 3 ≤ code r i j → (r < crash j) × (0 < r) × (decided r j ≡ r) × (code r i j ≡ 3 + estimate r j)
    heard_decision r i j rt il jl b h =
        elim (laws.heard r i j rt il jl) [
          | hears_nothing e _ ↦ absurd (omega arith)
          | hears_estimate a d e ↦ absurd (omega arith)
          | hears_decision a p d e ↦ (a, p, d, e)
        ]

    way_of : (r i : ℕ) → r ≤ t → i < n → ((j : ℕ) → j < n → estimate r j ≤ 1) → Way r i
    way_of r i rt l b =
        elim (split (crash i) (suc r)) [
          | inl out ↦ stays_put (inl out) (laws.out r i rt l out)
          | inr a ↦
              elim (eq-zero-or-pos (decided r i)) [
                | inr d ↦ stays_put (inr d) (laws.kept r i rt l d)
                | inl u ↦
                    let o : Plays w r i = record { time = rt; process = l; alive = a; undecided = u } in
                    elim (find n (λ j. leb 3 (code r i j))) [
                      | inl s ↦
                          let h = leb-true 3 (code r i s.0) s.2 in
                          let b' = b s.0 s.1 in
                          let g = heard_decision r i s.0 rt l s.1 b' h in
                          told o g.1 (laws.told r i s.0 o g.1 s.1 h (omega (arith, g.3)))
                      | inr f ↦ not_told o (λ j jl. let h = leb-false 3 (code r i j) (f j jl) in omega arith)
                    ]
              ]
        ]

    -- estimates are 0 or 1
    pub bits : (r : ℕ) → r ≤ suc t → (i : ℕ) → i < n → estimate r i ≤ 1
    bits zero rt i l = laws.opens_bit i l
    bits (suc r) rt i l = go (bits r (omega arith))
      where
        by : ((j : ℕ) → j < n → estimate r j ≤ 1) → Way r i → estimate (suc r) i ≤ 1
        by ih (stays_put _ k) = let a = k.estimate_is in let b = ih i l in omega arith
        by ih (told o p h) =
            let k = h.by.0 in
            let kl : k < n = h.by.1 in
            let e = h.by.2 in
            let b = ih k kl in
            let d = heard_decision r i k (omega arith) l kl b (omega arith) in
            omega arith
        by ih (not_told o low) = let a = laws.never_rises r i o low in let b = ih i l in omega arith

        go : ((j : ℕ) → j < n → estimate r j ≤ 1) → estimate (suc r) i ≤ 1
        go ih = by ih (way_of r i (omega arith) l ih)

    pub way : (r i : ℕ) → r ≤ t → i < n → Way r i
    way r i rt l = way_of r i rt l (bits r (omega arith))

    -- whom a told process has it from
    pub teller : (r i : ℕ) → r ≤ t → i < n → Told w r i → Some n λ k. (r < crash k) × (0 < r) × (decided r k ≡ r) × (estimate (suc r) i ≡ estimate r k)
    teller r i rt l h =
        let k = h.by.0 in
        let kl : k < n = h.by.1 in
        let e = h.by.2 in
        let g = heard_decision r i k rt l kl (bits r (omega arith) k kl) (omega arith) in
        (k, kl, (g.0, g.1, g.2, omega arith))

    -- a decision was made in a round that its process completed
    pub record MadeIn (r i : ℕ) : Type 0 where
      pub low : 0 < decided r i
      pub high : decided r i ≤ r
      pub alive : decided r i < crash i

    pub range : (r : ℕ) → r ≤ suc t → (i : ℕ) → i < n → (decided r i ≡ 0) ⊎ MadeIn r i
    range zero rt i l = inl (laws.opens_undecided i l)
    range (suc r) rt i l = go (range r (omega arith) i l) (way r i (omega arith) l)
      where
        new : suc r < crash i → decided (suc r) i ≡ suc r → (decided (suc r) i ≡ 0) ⊎ MadeIn (suc r) i
        new a e = inr (record { low = omega arith; high = omega arith; alive = omega arith })

        go : (decided r i ≡ 0) ⊎ MadeIn r i → Way r i → (decided (suc r) i ≡ 0) ⊎ MadeIn (suc r) i
        go ih (stays_put _ k) =
            let e = k.decided_is in
            elim ih [ inl z ↦ inl (omega arith) | inr m ↦ inr (record { low = omega arith; high = omega arith; alive = omega arith }) ]
        go ih (told o p h) = new o.alive h.decided_is
        go ih (not_told o low) = elim (laws.moves r i o) [ inl z ↦ inl z | inr e ↦ new o.alive e ]

    -- a decision stays
    pub stays : (r q i : ℕ) → r ≤ q → q ≤ suc t → i < n → 0 < decided r i → (decided q i ≡ decided r i) × (estimate q i ≡ estimate r i)
    stays r zero i rq qt l p = let e : r ≡ 0 = omega arith in rw e (refl, refl)
    stays r (suc q) i rq qt l p =
        elim (split r q) [
          | inl a ↦
              let ih = stays r q i a (omega arith) l p in
              let k = laws.kept q i (omega arith) l (omega arith) in
              let kd = k.decided_is in
              let ke = k.estimate_is in
              (omega arith, omega arith)
          | inr a ↦ let e : r ≡ suc q = omega arith in rw e (refl, refl)
        ]

    -- who decided in round d had decided it at the end of d
    pub made_at : (r i d : ℕ) → r ≤ suc t → i < n → 0 < d → decided r i ≡ d → (decided d i ≡ d) × (estimate d i ≡ estimate r i)
    made_at zero i d rt l p e = absurd (let z = laws.opens_undecided i l in omega arith)
    made_at (suc r) i d rt l p e = go (made_at r i d (omega arith) l p) (way r i (omega arith) l)
      where
        new : decided (suc r) i ≡ suc r → (decided d i ≡ d) × (estimate d i ≡ estimate (suc r) i)
        new q = let s : d ≡ suc r = omega arith in rw s (q, refl)

        go : (decided r i ≡ d → (decided d i ≡ d) × (estimate d i ≡ estimate r i)) → Way r i → (decided d i ≡ d) × (estimate d i ≡ estimate (suc r) i)
        go ih (stays_put _ k) = let kd = k.decided_is in let ke = k.estimate_is in let h = ih (omega arith) in (h.0, omega arith)
        go ih (told _ _ h) = new h.decided_is
        go ih (not_told o low) = elim (laws.moves r i o) [ inl z ↦ absurd (omega arith) | inr q ↦ new q ]

    -- whoever is undecided now was undecided before
    pub undecided : (r q i : ℕ) → r ≤ q → q ≤ suc t → i < n → decided q i ≡ 0 → decided r i ≡ 0
    undecided r q i rq qt l e = elim (eq-zero-or-pos (decided r i)) [ inl z ↦ z | inr p ↦ absurd (let s = stays r q i rq qt l p in omega arith) ]

    -- undecided after r and decided after q: decided in between
    pub between : (r q i : ℕ) → r ≤ q → q ≤ suc t → i < n → decided r i ≡ 0 → 0 < decided q i → r < decided q i
    between r q i rq qt l z p =
        elim (split (decided q i) r) [
          | inr a ↦ a
          | inl a ↦
              let d = decided q i in
              let m = made_at q i d qt l p refl in
              absurd (let s = stays d r i a (omega arith) l (omega arith) in omega arith)
        ]

    -- a decision of round d is heard in round d + 1
    pub hears_of : (d i j : ℕ) → Plays w d i → 0 < d → j < n → suc d < crash j → decided d j ≡ d → Told w d i
    hears_of d i j o p jl ja e =
        elim (laws.heard d i j o.time o.process jl) [
          | hears_nothing _ s ↦ absurd (let h = s ja in omega arith)
          | hears_estimate _ z _ ↦ absurd (omega arith)
          | hears_decision _ _ _ q ↦
              let dt = o.time in
              let b = bits d (omega arith) j jl in
              laws.told d i j o p jl (omega arith) (omega arith)
        ]

    -- where i is undecided still, nobody that completed round r had decided before r: i would have heard of it
    pub said_before : (r i j : ℕ) → Plays w r i → j < n → r < crash j → 0 < decided r j → decided r j < r → ⊥
    said_before r i j o jl a p b =
        let rt = o.time in
        let il = o.process in
        let ia = o.alive in
        let u = o.undecided in
        let d = decided r j in
        let m = made_at r j d (omega arith) jl p refl in
        let od : Plays w d i = record { time = omega arith; process = il; alive = omega arith; undecided = undecided d r i (omega arith) (omega arith) il u } in
        let told = (hears_of d i j od p jl (omega arith) m.0).decided_is in
        let v = undecided (suc d) r i (omega arith) (omega arith) il u in
        omega arith

    -- whoever sends nothing to an undecided process has crashed
    pub missing : (r i j : ℕ) → Plays w r i → j < n → code r i j ≡ 0 → crash j ≤ suc r
    missing r i j o jl z =
        elim (split (crash j) (suc r)) [
          | inl a ↦ a
          | inr a ↦
              absurd (elim (laws.heard r i j o.time o.process jl) [
                | hears_nothing _ s ↦ let h = s a in said_before r i j o jl (omega arith) h.0 h.1
                | hears_estimate _ _ e ↦ omega arith
                | hears_decision _ _ _ e ↦ omega arith
              ])
        ]

    -- with no decision yet, who completes the round is heard by all
    pub heard_by_all : (r i j : ℕ) → r ≤ t → i < n → j < n → NobodyDecided w r → suc r < crash j → code r i j ≡ suc (estimate r j)
    heard_by_all r i j rt il jl nb a =
        let z = nb j jl in
        elim (laws.heard r i j rt il jl) [
          | hears_nothing _ s ↦ absurd (let h = s a in omega arith)
          | hears_estimate _ _ e ↦ e
          | hears_decision _ p e _ ↦ absurd (omega arith)
        ]

    -- and what is heard is an estimate of one who completed the round before
    pub heard_from_lem : (r i j : ℕ) → r ≤ t → i < n → j < n → NobodyDecided w r → 0 < code r i j → (r < crash j) × (code r i j ≡ suc (estimate r j))
    heard_from_lem r i j rt il jl nb a =
        let z = nb j jl in
        elim (laws.heard r i j rt il jl) [
          | hears_nothing e _ ↦ absurd (omega arith)
          | hears_estimate b _ e ↦ (b, e)
          | hears_decision _ p e _ ↦ absurd (omega arith)
        ]

    pub nobody_told : (r i : ℕ) → r ≤ t → i < n → NobodyDecided w r → NotTold w r i
    nobody_told r i rt l nb j jl =
        let b = bits r (omega arith) j jl in
        elim (eq-zero-or-pos (code r i j)) [ inl z ↦ omega arith | inr p ↦ let h = heard_from_lem r i j rt l jl nb p in omega arith ]

    pub plays_on : (r i : ℕ) → r ≤ t → i < n → suc r < crash i → NobodyDecided w r → Plays w r i
    plays_on r i rt l a nb = record { time = rt; process = l; alive = a; undecided = nb i l }

    pub last_round : (i : ℕ) → i < n → suc t < crash i → 0 < decided (suc t) i
    last_round i l a =
        elim (eq-zero-or-pos (decided t i)) [
          | inl z ↦ let e = laws.ends i (record { time = omega arith; process = l; alive = a; undecided = z }) in omega arith
          | inr p ↦ let k = (laws.kept t i (omega arith) l p).decided_is in omega arith
        ]

    -- Estimates that are all alike stay so.

    pub uniform_step : (r v : ℕ) → start ≤ r → r ≤ t → Uniform w r v → Uniform w (suc r) v
    uniform_step r v sr rt u i l a = go (way r i rt l)
      where
        go : Way r i → estimate (suc r) i ≡ v
        go (stays_put (inl b) k) = absurd (omega arith)
        go (stays_put (inr b) k) = let e = k.estimate_is in let u' = u i l (omega arith) in omega arith
        go (told o p h) =
            let g = teller r i rt l h in
            let u' = u g.0 g.1 g.2.0 in
            let e = g.2.3 in
            omega arith
        go (not_told o low) =
            elim (laws.lowers r i o sr low) [
              | inr q ↦ let u' = u i l (omega arith) in omega arith
              | inl q ↦
                  let x = q.1.0 in
                  let xl : x < n = q.1.1 in
                  let e = q.1.2 in
                  elim (laws.heard r i x rt l xl) [
                    | hears_nothing f _ ↦ absurd (omega arith)
                    | hears_estimate b _ f ↦ let u' = u x xl b in omega arith
                    | hears_decision _ _ _ f ↦ absurd (omega arith)
                  ]
            ]

    pub uniform_on : (r q v : ℕ) → start ≤ r → r ≤ q → q ≤ suc t → Uniform w r v → Uniform w q v
    uniform_on r zero v p rq qt u = let e : r ≡ 0 = omega arith in rw e at u
    uniform_on r (suc q) v p rq qt u =
        elim (split r q) [
          | inl a ↦ uniform_step q v (omega arith) (omega arith) (uniform_on r q v p a (omega arith) u)
          | inr a ↦ let e : r ≡ suc q = omega arith in rw e at u
        ]

    -- after a uniform round all later decisions are alike
    pub settled : (r v i : ℕ) → start ≤ suc r → r ≤ t → Uniform w (suc r) v → i < n → decided r i ≡ 0 → 0 < decided (suc t) i → estimate (suc t) i ≡ v
    settled r v i sr rt u l z p =
        elim (range (suc t) (omega arith) i l) [
          | inl y ↦ absurd (omega arith)
          | inr m ↦
              let hi = m.high in
              let d = decided (suc t) i in
              let at = made_at (suc t) i d (omega arith) l p refl in
              let u' = uniform_on (suc r) d v sr (between r (suc t) i (omega arith) (omega arith) l z p) hi u i l m.alive in
              omega arith
        ]
