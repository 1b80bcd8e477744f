-- Where nothing is sent in a round, nothing happens from there on: whoever completes the round has nothing to say, so it is stopped and keeps its
-- state, and everybody else keeps it anyway; and whoever speaks in a later round would have completed this one. A completing sender that speaks adds
-- n - 1, which is not 0 where there is another process: n is at least 4 in an accepted schedule, so it adds at least 3. Assumes nothing.
use mathlib.Core.Path.{◌≡◌, refl, sym, ap, ◌∙◌}
use mathlib.Core.Logic.{inl, inr}
use mathlib.Core.List.{List}
use mathlib.Core.Bool.{true, cond}
use Prim.Native.Nat.{ℕ, zero, suc, ◌≤◌, ◌<◌}
use native.Mathlib.Omega.{arith}
use lib.Dec.{eqb}
use lib.Seq.{ext_get_or}
use borrow.Author.Tests.{eqb-true, eqb-false}
use Rattle.laws.specs.Below.{sum}
use Rattle.laws.proofs.Test.{true_or_false, cond_true, cond_false}
use Rattle.laws.proofs.Counting.{split}
use Rattle.laws.proofs.Sums.{sum_zero, sum_none}
use Rattle.member.specs.declared.Member.{Member}
use Rattle.member.specs.State.{undecided, stopped}
use Rattle.member.specs.Saying.{nothing, estimate_code, decided_code, says}
use Rattle.schedule.specs.Schedule.{Schedule}
use Rattle.run.specs.Protocol.{Protocol, nobody}
use Rattle.run.specs.Run.{completes, state_at, next_state, states_after, after}
use Rattle.run.specs.Report.{sent, sent_after}
use Rattle.run.specs.Facts.{SilentFrom}
use Rattle.run.proofs.Rounds.{completes_if, if_completes, completing, crashing, gone, part, what_is_sent, crashed_stays, stopped_stays, states_long, who_moves}
use Rattle.run.proofs.RunWorld.{state_is}

module _ (P : Protocol) (s : Schedule) (others : 1 < s.n) (mute : (m : Member) → P.says m ≡ nothing → P.stopped m ≡ true) where
  -- whoever completes a round in which nothing is sent has nothing to say
  nothing_to_say : (r : ℕ) (states : List Member) → sum s.n (sent P s r states) ≡ 0 → (i : ℕ) → i < s.n → completes s r i ≡ true
      → P.says (state_at states i) ≡ nothing
  nothing_to_say r states z i l c =
      elim (true_or_false (eqb (P.says (state_at states i)) nothing)) [
        | inl e ↦ eqb-true _ _ e
        | inr e ↦
            let adds = (what_is_sent P s r states i).completing (eqb-false _ _ e) (record { process = l; completed = c }) in
            let none = sum_none s.n (sent P s r states) z i l in
            absurd (omega arith)
      ]

  -- so such a round leaves every state as it is
  pub nothing_moves : (r : ℕ) (states : List Member) → sum s.n (sent P s r states) ≡ 0 → (i : ℕ) → i < s.n → next_state P s r states i ≡ state_at states i
  unfolding next_state
  nothing_moves r states z i l =
      elim (true_or_false (completes s r i)) [
        | inl c ↦ stopped_stays P r _ _ _ (mute _ (nothing_to_say r states z i l c))
        | inr c ↦ crashed_stays P r _ _ _ c
      ]

  -- whoever completes the round that follows r rounds has nothing to say
  abbrev Silent : ℕ → Type 0
  Silent r = (i : ℕ) → i < s.n → completes s (suc r) i ≡ true → P.says (after P s r i) ≡ nothing

  nobody_speaks : (r : ℕ) → sent_after P s r ≡ 0 → Silent r
  nobody_speaks r z i l c = sym (ap P.says (state_is P s r i)) ∙ nothing_to_say (suc r) (states_after P s r) z i l c

  module _ (r : ℕ) (h : Silent r) where
    keeps : (i : ℕ) → i < s.n → after P s (suc r) i ≡ after P s r i
    keeps i l =
        elim (part s (suc r) i) [
          | completing c ↦ (who_moves P s r i l).rests (mute _ (h i l c))
          | crashing e ↦ (who_moves P s r i l).crashed (omega arith) (omega arith)
          | gone lo hi ↦ (who_moves P s r i l).crashed lo (omega arith)
        ]

    -- whoever completes a later round completes this one
    says_no_more : (i : ℕ) → i < s.n → completes s (suc r) i ≡ true → P.says (after P s (suc r) i) ≡ nothing
    says_no_more i l c = ap P.says (keeps i l) ∙ h i l c

    goes_on : Silent (suc r)
    goes_on i l c =
        says_no_more i l (completes_if s (suc r) i (elim (if_completes s (suc (suc r)) i c) [ inl z ↦ inl z | inr b ↦ inr (omega arith) ]))

    none_sent : sent_after P s (suc r) ≡ 0
    none_sent =
        sum_zero s.n (sent P s (suc (suc r)) (states_after P s (suc r))) (λ j l.
        let facts = what_is_sent P s (suc (suc r)) (states_after P s (suc r)) j in
        let says_at = ap P.says (state_is P s (suc r) j) in
        elim (part s (suc (suc r)) j) [
          | completing c ↦ facts.says_nothing (says_at ∙ goes_on j l c)
          | crashing e ↦ facts.says_nothing (says_at ∙ says_no_more j l (completes_if s (suc r) j (inr (omega arith))))
          | gone lo hi ↦ facts.silent lo hi
        ])

    states_same : states_after P s (suc r) ≡ states_after P s r
    states_same =
        ext_get_or (nobody) _ _ (states_long P s (suc r) ∙ sym (states_long P s r))
        (λ i b. let e = states_long P s (suc r) in state_is P s (suc r) i ∙ keeps i (omega arith) ∙ sym (state_is P s r i))

  -- what holds after k rounds
  record Since (r k : ℕ) : Type 0 where
    quiet : Silent k
    states : states_after P s k ≡ states_after P s r
    sends : sent_after P s k ≡ 0

  module _ (r : ℕ) (z : sent_after P s r ≡ 0) where
    at_once : (k : ℕ) → k ≡ r → Since r k
    at_once k e = rw e (record { quiet = nobody_speaks r z; states = refl; sends = z })

    since : (k : ℕ) → r ≤ k → Since r k
    since zero l = at_once 0 (omega arith)
    since (suc k) l =
        elim (split r k) [
          | inl a ↦
              let e = since k a in
              record { quiet = goes_on k e.quiet; states = states_same k e.quiet ∙ e.states; sends = none_sent k e.quiet }
          | inr a ↦ at_once (suc k) (omega arith)
        ]

    pub silent_from : SilentFrom P s r
    silent_from = record { states = λ k l. (since k l).states; sends = λ k l. (since k l).sends }

-- a member of FCWFA that has nothing to say is stopped
pub mute_stops : (m : Member) → says m ≡ nothing → stopped m ≡ true
unfolding says
mute_stops m e =
    elim (true_or_false (stopped m)) [
      | inl h ↦ h
      | inr h ↦
          let speaks = cond_false (stopped m) nothing (cond (undecided m) (estimate_code m.estimate) (decided_code m.estimate)) h in
          elim (true_or_false (undecided m)) [
            | inl u ↦ let c = cond_true (undecided m) (estimate_code m.estimate) (decided_code m.estimate) u in absurd (omega arith)
            | inr u ↦ let c = cond_false (undecided m) (estimate_code m.estimate) (decided_code m.estimate) u in absurd (omega arith)
          ]
    ]
