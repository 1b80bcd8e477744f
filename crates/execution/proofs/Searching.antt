-- The rounds that end with the first in which some process decides. After each round the lowest-numbered decided process is looked for; while there is none
-- the round is not the last, since some process is decided after round t + 1, and the first round with one is that of the outcome. Assumes nothing.
use mathlib.Core.Path.{◌≡◌, refl, sym, ap, ◌∙◌}
use mathlib.Core.Logic.{inl, inr}
use mathlib.Core.Bool.{true, false, true≢false}
use mathlib.Core.List.{List}
use Prim.Native.Nat.{ℕ, zero, suc, ◌+◌, ◌≤◌, ◌<◌}
use native.Mathlib.Omega.{arith}
use borrow.Author.Tests.{le-ltb, lt-ltb}
use Rattle.laws.proofs.Counting.{split}
use Rattle.laws.specs.Answer.{accepted}
use Rattle.laws.proofs.Refusals.{is_accepted}
use Rattle.member.specs.declared.Member.{Member}
use Rattle.sets.specs.Largest.{largest}
use Rattle.schedule.specs.Schedule.{Schedule}
use Rattle.schedule.specs.Questions.{question, Rules}
use Rattle.run.specs.Protocol.{Protocol, fcwfa, by_calls}
use Rattle.run.specs.Run.{state_at, states_after}
use Rattle.run.specs.Facts.{OwnAnswers}
use Rattle.run.specs.Outcome.{lowest_decided, some_decided, outcome_round}
use Rattle.run.proofs.Outcome.{lowest_high, lowest_same, round_is, none_opened, decided_at_end}
use Rattle.execution.specs.declared.FirstDecision.{FirstDecision}
use Rattle.execution.specs.Decision.{FirstDecides, first_decision_of}
use Rattle.execution.proofs.AllRounds.{Stand, process_at}

module _ (s : Schedule) where
  -- what was found in r rounds: the lowest-numbered process that is decided after them, and nobody after those before
  pub record Searched (place r : ℕ) : Type 0 where
    pub inside : r ≤ s.t + 1
    pub found : place ≡ lowest_decided s.n (states_after fcwfa s r)
    pub before : (k : ℕ) → suc k < r → some_decided fcwfa s (suc k) ≡ false

  -- somebody was found
  module _ {place r : ℕ} (h : Searched place r) (some : place ≡ s.n → ⊥) where
    pub place_low : place < s.n
    place_low = let e = h.found in let high = lowest_high s.n (states_after fcwfa s r) in omega arith

    somebody : some_decided fcwfa s r ≡ true
    somebody = let l = place_low in let e = h.found in lt-ltb (lowest_decided s.n (states_after fcwfa s r)) s.n (omega arith)

-- Of a schedule that keeps the rules: nobody is decided before round 1, and somebody is after round t + 1.
module _ (s : Schedule) (ok : Rules s) where
  pub nothing_searched : Searched s s.n 0
  nothing_searched = record { inside = omega arith; found = sym (none_opened s ok); before = λ k l. absurd (omega arith) }

  module _ {place r : ℕ} (h : Searched s place r) where
    module _ (none : place ≡ s.n) where
      nobody_yet : some_decided fcwfa s r ≡ false
      nobody_yet = let e = h.found in le-ltb (lowest_decided s.n (states_after fcwfa s r)) s.n (omega arith)

      -- so a round is left
      pub round_left : r < s.t + 1
      round_left =
          let inside = h.inside in
          elim (split (s.t + 1) r) [
            | inr l ↦ l
            | inl l ↦
                let e : r ≡ suc s.t = omega arith in
                absurd (true≢false (sym (decided_at_end s ok) ∙ rw e at nobody_yet))
          ]

      earlier : (k : ℕ) → suc k ≤ r → some_decided fcwfa s (suc k) ≡ false
      earlier k l = elim (split r (suc k)) [ inl same ↦ (let e : suc k ≡ r = omega arith in rw e nobody_yet) | inr sooner ↦ h.before k sooner ]

      pub searches_on : s.n ≤ largest → OwnAnswers fcwfa largest s → {next : List Member} {place_now : ℕ} → Stand (by_calls largest fcwfa) s (r + 1) next
          → place_now ≡ lowest_decided s.n next → Searched s place_now (r + 1)
      searches_on small own {next} stand e =
          let left = round_left in
          record {
            inside = omega arith;
            found = e ∙ lowest_same s.n next (states_after fcwfa s (r + 1)) (λ i l. ap (λ (m : Member). m.decided) (process_at fcwfa s small own (omega arith) stand i l));
            before = λ k l. earlier k (omega arith);
          }

    module _ (some : place ≡ s.n → ⊥) where
      last_round : r ≡ outcome_round fcwfa s
      last_round = go r refl
        where
          go : (q : ℕ) → r ≡ q → r ≡ outcome_round fcwfa s
          go zero e = absurd (some (h.found ∙ rw e (none_opened s ok)))
          go (suc k) e =
              let inside = h.inside in
              e ∙ round_is fcwfa s k (omega arith) (λ j l. h.before j (omega arith)) (rw (← e) (somebody s h some))

      pub first_decides : s.n ≤ largest → OwnAnswers fcwfa largest s → {members : List Member} {round : ℕ} {m : Member} → Stand (by_calls largest fcwfa) s r members
          → round ≡ r → m ≡ state_at members place → FirstDecides fcwfa s round m
      first_decides small own stand same e = record {
        in_round = same ∙ last_round;
        member_is =
            e
            ∙ process_at fcwfa s small own h.inside stand place (place_low s h some)
            ∙ ap (state_at (states_after fcwfa s r)) h.found
            ∙ ap (λ (q : ℕ). state_at (states_after fcwfa s q) (lowest_decided s.n (states_after fcwfa s q))) last_round;
      }

-- The whole call, of an accepted schedule.
pub first_decision : (P : Protocol) (s : Schedule) → 0 ≡ question s largest true → (left : FirstDecision) → FirstDecides P s left.round left.member
    → accepted left ≡ first_decision_of P largest s
first_decision P s passed left d = ap accepted (λ i. record { round = d.in_round i; member = d.member_is i }) ∙ is_accepted _ _ tt passed
