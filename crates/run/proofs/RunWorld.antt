-- The run of a schedule that keeps the rules, by members that behave, keeps the laws of World.antt. Assumes nothing.
use mathlib.Core.Path.{◌≡◌, refl, ap, ◌∙◌}
use mathlib.Core.Logic.{◌⊎◌, inl, inr, ◌≢◌}
use mathlib.Core.Bool.{true, false}
use Prim.Native.Nat.{ℕ, zero, suc, ◌+◌, ◌-◌, ◌≤◌, ◌<◌}
use native.Mathlib.Omega.{arith}
use lib.Dec.{eqb}
use borrow.Author.Tests.{eqb-true, eqb-false}
use Rattle.laws.specs.Below.{tabulate}
use Rattle.laws.proofs.Test.{true_or_false}
use Rattle.laws.proofs.Counting.{split}
use Rattle.member.specs.declared.Member.{Member}
use Rattle.sets.specs.Sets.{names}
use Rattle.sets.proofs.Theorem.{set_facts}
use Rattle.schedule.specs.Schedule.{Schedule, vote_of, reach_of}
use Rattle.schedule.specs.Questions.{Rules}
use Rattle.run.specs.Protocol.{Protocol}
use Rattle.run.specs.Run.{state_at, code_heard, row_of, states_after, after}
use Rattle.run.specs.Report.{sent}
use Rattle.run.specs.Facts.{WhoHearsWhom, WhatIsSent}
use Rattle.run.proofs.Rounds.{Part, completing, crashing, gone, part, who_hears_whom, what_is_sent, who_moves}
use Rattle.run.proofs.CrashRounds.{crash_round, round_crash, alive, living, crashed, crashes_all}
use Rattle.run.proofs.World.{World, RoundLaws, Plays, Heard, hears_nothing, hears_estimate, hears_decision, Kept}
use Rattle.run.proofs.Behaviour.{Behaves, Phase, waiting, fresh, over}

module _ (P : Protocol) (s : Schedule) where
  -- what i hears from j in round r + 1
  abbrev pub code_of : ℕ → ℕ → ℕ → ℕ
  code_of r = code_heard P s (suc r) (states_after P s r)

  -- the run as plain numbers
  abbrev pub world : ℕ → World
  world start = record {
    n = s.n;
    t = s.t;
    start = start;
    crash = crash_round s;
    estimate = λ r i. (after P s r i).estimate;
    decided = λ r i. (after P s r i).decided;
    code = code_of;
  }

  pub row_is : (r i : ℕ) → row_of P s (suc r) (states_after P s r) i ≡ tabulate s.n (code_of r i)
  unfolding row_of
  row_is r i = refl

  -- the state that stands at a place after r rounds
  pub state_is : (r i : ℕ) → state_at (states_after P s r) i ≡ after P s r i
  unfolding after
  state_is r i = refl

  pub opens_as : (i : ℕ) → i < s.n → after P s 0 i ≡ P.opening s.n s.t (i + 1) (vote_of s i)
  opens_as i l = (who_moves P s 0 i l).opens

  pub keeps_state : (r i : ℕ) → r ≤ s.t → i < s.n → crash_round s i ≤ suc r → after P s (suc r) i ≡ after P s r i
  keeps_state r i rt l a = let c = crashed s (suc r) i (omega arith) a in (who_moves P s r i l).crashed c.0 c.1

  pub rests : (r i : ℕ) → i < s.n → P.stopped (after P s r i) ≡ true → after P s (suc r) i ≡ after P s r i
  rests r i l e = (who_moves P s r i l).rests e

  pub hears_row : (r i : ℕ) → i < s.n → suc r < crash_round s i → P.stopped (after P s r i) ≡ false
      → after P s (suc r) i ≡ P.hears (after P s r i) (tabulate s.n (code_of r i))
  hears_row r i l a e =
      (who_moves P s r i l).hears (record { process = l; completed = living s (suc r) i a }) e ∙ ap (P.hears (after P s r i)) (row_is r i)

  same : (start r i : ℕ) → after P s (suc r) i ≡ after P s r i → Kept (world start) r i
  same start r i e = record { estimate_is = ap (λ (m : Member). m.estimate) e; decided_is = ap (λ (m : Member). m.decided) e }

module _ (P : Protocol) (start : ℕ) (At : ℕ → ℕ → ℕ → Member → Type 0) (behaves : Behaves P start At) (s : Schedule) where
  -- who has completed round r stands there
  pub stands : (r : ℕ) → r ≤ suc s.t → (i : ℕ) → i < s.n → r < crash_round s i → At s.n s.t r (after P s r i)
  stands zero rt i l a = rw (opens_as P s i l) (behaves.opens_at s.n s.t (i + 1) (vote_of s i))
  stands (suc r) rt i l a = go (stands r (omega arith) i l (omega arith)) (true_or_false (P.stopped (after P s r i)))
    where
      go : At s.n s.t r (after P s r i) → (P.stopped (after P s r i) ≡ true) ⊎ (P.stopped (after P s r i) ≡ false)
          → At s.n s.t (suc r) (after P s (suc r) i)
      go h (inl e) = rw (rests P s r i l e) (behaves.rests s.n s.t r (after P s r i) (omega arith) h e)
      go h (inr e) =
          rw (hears_row P s r i l a e)
          (behaves.goes_on s.n s.t r (after P s r i) (tabulate s.n (code_of P s r i)) (omega arith) h e)

  pub phase_at : (r : ℕ) → r ≤ s.t → (i : ℕ) → i < s.n → r < crash_round s i → Phase P r (after P s r i)
  phase_at r rt i l a = behaves.phase s.n s.t r (after P s r i) rt (stands r (omega arith) i l a)

  heard_is : (r i j : ℕ) → r ≤ s.t → i < s.n → j < s.n → Heard (world P s start) r i j
  heard_is r i j rt il jl = go (part s (suc r) j)
    where
      facts : WhoHearsWhom P s (suc r) (states_after P s r) i j
      facts = who_hears_whom P s (suc r) (states_after P s r) j i

      -- j is heard
      by : r < crash_round s j → code_of P s r i j ≡ P.says (after P s r j) → Phase P r (after P s r j) → Heard (world P s start) r i j
      by a e (waiting z _ q) = hears_estimate a z (e ∙ q)
      by a e (fresh p z _ q) = hears_decision a p z (e ∙ q)
      by a e (over p z _ q) = hears_nothing (e ∙ q) (λ _. (p, z))

      go : Part s (suc r) j → Heard (world P s start) r i j
      go (completing c) =
          let a = alive s (suc r) j (omega arith) c in
          by (omega arith) (facts.completing (record { process = jl; completed = c }) ∙ ap P.says (state_is P s r j)) (phase_at r rt j jl (omega arith))
      go (crashing e) =
          let a = round_crash s j (λ z. omega arith) in
          elim (true_or_false (names (reach_of s j) i)) [
            | inl n ↦ by (omega arith) (facts.named e n ∙ ap P.says (state_is P s r j)) (phase_at r rt j jl (omega arith))
            | inr n ↦ hears_nothing (facts.unnamed (λ z. omega arith) e n) (λ b. absurd (omega arith))
          ]
      go (gone lo hi) = let a = round_crash s j (λ z. omega arith) in hears_nothing (facts.silent lo hi) (λ b. absurd (omega arith))

  kept_is : (r i : ℕ) → r ≤ s.t → i < s.n → 0 < (after P s r i).decided → Kept (world P s start) r i
  kept_is r i rt l d =
      elim (split (crash_round s i) (suc r)) [
        | inl a ↦ same P s start r i (keeps_state P s r i rt l a)
        | inr a ↦
            elim (true_or_false (P.stopped (after P s r i))) [
              | inl e ↦ same P s start r i (rests P s r i l e)
              | inr e ↦
                  let h = hears_row P s r i l a e in
                  let k = behaves.kept (after P s r i) (tabulate s.n (code_of P s r i)) d in
                  record { estimate_is = ap (λ (m : Member). m.estimate) h ∙ k.0; decided_is = ap (λ (m : Member). m.decided) h ∙ k.1 }
            ]
      ]

  -- an undecided process that completes round r + 1 hears its row
  pub record Hearing (r i : ℕ) : Type 0 where
    pub at : At s.n s.t r (after P s r i)
    pub next : after P s (suc r) i ≡ P.hears (after P s r i) (tabulate s.n (code_of P s r i))

  pub hearing : (r i : ℕ) → Plays (world P s start) r i → Hearing r i
  hearing r i o =
      let rt : r ≤ s.t = o.time in
      let a : suc r < crash_round s i = o.alive in
      let u : (after P s r i).decided ≡ 0 = o.undecided in
      record {
        at = stands r (omega arith) i o.process (omega arith);
        next =
            elim (phase_at r rt i o.process (omega arith)) [
              | waiting _ f _ ↦ hears_row P s r i o.process a f
              | fresh p z _ _ ↦ absurd (omega arith)
              | over p _ _ _ ↦ absurd (omega arith)
            ];
      }

  pub round_laws : Rules s → RoundLaws (world P s start)
  round_laws ok = record {
    t_low = ok.t_low;
    t_high = ok.t_high;
    few = let a = crashes_all s ok in let b = ok.few in omega arith;
    opens_bit = λ i l.
        let e = ap (λ (m : Member). m.estimate) (opens_as P s i l) ∙ behaves.opens_with s.n s.t (i + 1) (vote_of s i) in
        let v = (ok.process i l).vote in
        omega arith;
    opens_undecided = λ i l. ap (λ (m : Member). m.decided) (opens_as P s i l) ∙ behaves.opens_undecided s.n s.t (i + 1) (vote_of s i);
    heard = heard_is;
    out = λ r i rt l a. same P s start r i (keeps_state P s r i rt l a);
    kept = kept_is;
    moves = λ r i o.
        let g = hearing r i o in
        let e = ap (λ (m : Member). m.decided) g.next in
        elim (behaves.moves s.n s.t r (after P s r i) (tabulate s.n (code_of P s r i)) g.at o.undecided) [ inl z ↦ inl (e ∙ z) | inr z ↦ inr (e ∙ z) ];
    never_rises = λ r i o low.
        let g = hearing r i o in
        rw g.next (behaves.never_rises s.n s.t r (after P s r i) (code_of P s r i) g.at o.undecided low);
    told = λ r i j o p jl lo hi.
        let g = hearing r i o in
        rw g.next (behaves.told s.n s.t r (after P s r i) (code_of P s r i) g.at o.undecided p j jl lo hi);
    lowers = λ r i o sr low.
        let g = hearing r i o in
        rw g.next (behaves.lowers s.n s.t r (after P s r i) (code_of P s r i) g.at o.undecided sr low);
    ends = λ i o.
        let g = hearing s.t i o in
        ap (λ (m : Member). m.decided) g.next ∙ behaves.ends s.n s.t (after P s s.t i) (tabulate s.n (code_of P s s.t i)) ok.t_low g.at o.undecided;
  }

  pub vote_is : (i : ℕ) → i < s.n → (after P s 0 i).estimate ≡ vote_of s i
  vote_is i l = ap (λ (m : Member). m.estimate) (opens_as P s i l) ∙ behaves.opens_with s.n s.t (i + 1) (vote_of s i)

  -- What one sender adds in round r + 1: at most n - 1, since no reach names its own process; and only a process adds that has completed round r and is undecided or decided in it.
  abbrev pub sent_of : ℕ → ℕ → ℕ
  sent_of r j = sent P s (suc r) (states_after P s r) j

  sent_facts : (r j : ℕ) → WhatIsSent P s (suc r) (states_after P s r) j
  sent_facts r j = what_is_sent P s (suc r) (states_after P s r) j

  -- whether it says something
  data Speaks (r j : ℕ) : Type 0 where
    mute : sent_of r j ≡ 0 → Speaks r j
    spoke : P.says (state_at (states_after P s r) j) ≢ 0 → Speaks r j

  speaks : (r j : ℕ) → Speaks r j
  speaks r j =
      elim (true_or_false (eqb (P.says (state_at (states_after P s r) j)) 0)) [
        | inl z ↦ mute ((sent_facts r j).says_nothing (eqb-true (P.says (state_at (states_after P s r) j)) 0 z))
        | inr z ↦ spoke (eqb-false (P.says (state_at (states_after P s r) j)) 0 z)
      ]

  pub sent_high : Rules s → (r j : ℕ) → j < s.n → sent_of r j ≤ s.n - 1
  sent_high ok r j jl = go (speaks r j) (part s (suc r) j)
    where
      go : Speaks r j → Part s (suc r) j → sent_of r j ≤ s.n - 1
      go (mute z) _ = omega arith
      go (spoke h) (completing c) = let e = (sent_facts r j).completing h (record { process = jl; completed = c }) in omega arith
      go (spoke h) (crashing q) =
          let e = (sent_facts r j).crashing h (λ z. omega arith) q in
          let o = (set_facts s.n).ones_of_others (reach_of s j) j (ok.process j jl).reach jl (ok.process j jl).not_own in
          omega arith
      go (spoke h) (gone lo hi) = let e = (sent_facts r j).silent lo hi in omega arith

  pub sent_by_lem : (r j : ℕ) → r ≤ s.t → j < s.n → 0 < sent_of r j
      → (r < crash_round s j) × (((after P s r j).decided ≡ 0) ⊎ ((after P s r j).decided ≡ r))
  sent_by_lem r j rt jl p = go (speaks r j) (part s (suc r) j)
    where
      spoken : P.says (state_at (states_after P s r) j) ≢ 0 → r < crash_round s j
          → (r < crash_round s j) × (((after P s r j).decided ≡ 0) ⊎ ((after P s r j).decided ≡ r))
      spoken h a = (
        a,
        elim (phase_at r rt j jl a) [
          | waiting z _ _ ↦ inl z
          | fresh _ z _ _ ↦ inr z
          | over _ _ _ z ↦ absurd (h (ap P.says (state_is P s r j) ∙ z))
        ],
      )

      go : Speaks r j → Part s (suc r) j → (r < crash_round s j) × (((after P s r j).decided ≡ 0) ⊎ ((after P s r j).decided ≡ r))
      go (mute z) _ = absurd (omega arith)
      go (spoke h) (completing c) = spoken h (let a = alive s (suc r) j (omega arith) c in omega arith)
      go (spoke h) (crashing q) = spoken h (let a = round_crash s j (λ z. omega arith) in omega arith)
      go (spoke h) (gone lo hi) = absurd (let e = (sent_facts r j).silent lo hi in omega arith)
