-- The outcome: some process has decided at the end of the run, so there is a first round after which one has; whoever is decided then decided in it, and
-- keeps its decision to the end, where all agree. Assumes nothing.
use mathlib.Core.Path.{◌≡◌, sym, ap, ◌∙◌}
use mathlib.Core.Logic.{◌≢◌, inl, inr}
use mathlib.Core.List.{List}
use mathlib.Core.Bool.{Bool, true, false, not, true≢false}
use Prim.Native.Nat.{ℕ, zero, suc, ◌+◌, ◌-◌, ◌≤◌, ◌<◌}
use native.Mathlib.Nat.{eq-zero-or-pos}
use native.Mathlib.Omega.{arith}
use lib.Dec.{eqb}
use borrow.Author.Tests.{eq-eqb, ne_eqb, lt-ltb, ltb-true}
use Rattle.laws.proofs.Test.{cond_false}
use Rattle.laws.proofs.Counting.{split}
use Rattle.laws.proofs.Least.{least_is, least_before, least_passes, least_high, least_low, least_same}
use Rattle.member.specs.declared.Member.{Member}
use Rattle.schedule.specs.Schedule.{Schedule}
use Rattle.schedule.specs.Questions.{Rules}
use Rattle.run.specs.Protocol.{Protocol, fcwfa}
use Rattle.run.specs.Run.{states_after, after}
use Rattle.run.specs.Report.{given_round, round_of, decision_of, report}
use Rattle.run.specs.Demand.{Decides}
use Rattle.run.specs.Outcome.{lowest_decided, some_decided, outcome_round, outcome_place, outcome_decision, OutcomePromises}
use Rattle.run.proofs.States.{range, made_at, between, bits}
use Rattle.run.proofs.Votes.{none_in_1}
use Rattle.run.proofs.FcwfaRun.{run_world, laws, rules}
use Rattle.run.proofs.Demand.{end_is, lasts, demand_3}
use Rattle.run.proofs.Reported.{rounds_read}
use Rattle.run.proofs.Deciders.{some_decides}

-- the lowest-numbered process that is decided in these states
module _ (n : ℕ) (states : List Member) where
  abbrev is_decided : ℕ → Bool
  is_decided i = not (eqb (round_of states i) 0)

  decided_passes : (i : ℕ) → round_of states i ≢ 0 → is_decided i ≡ true
  decided_passes i d = ap not (ne_eqb (round_of states i) 0 d)

  pub lowest_high : lowest_decided n states ≤ n
  unfolding lowest_decided
  lowest_high = least_high n is_decided

  -- a place up to n whose process is decided if it is below n, and before which nobody is, is that of the lowest-numbered
  pub lowest_is : (k : ℕ) → k ≤ n → ((i : ℕ) → i < k → round_of states i ≡ 0) → (k < n → round_of states k ≢ 0) → k ≡ lowest_decided n states
  unfolding lowest_decided
  lowest_is k high before here =
      least_is n is_decided k high (λ i l. ap not (eq-eqb (round_of states i) 0 (before i l))) (λ l. decided_passes k (here l))

  -- nobody before it is decided
  pub none_lower : (i : ℕ) → i < lowest_decided n states → round_of states i ≡ 0
  unfolding lowest_decided
  none_lower i l =
      elim (eq-zero-or-pos (round_of states i)) [
        | inl z ↦ z
        | inr p ↦ absurd (true≢false (sym (decided_passes i (λ z. omega arith)) ∙ least_before n is_decided i l))
      ]

  -- it is decided itself
  pub is_decided_lem : lowest_decided n states < n → round_of states (lowest_decided n states) ≢ 0
  unfolding lowest_decided
  is_decided_lem l z = true≢false (sym (least_passes n is_decided l) ∙ ap (λ (d : ℕ). not (eqb d 0)) z)

  -- so there is one if any is
  pub some_lowest : (i : ℕ) → i < n → round_of states i ≢ 0 → lowest_decided n states < n
  some_lowest i l d = elim (split (lowest_decided n states) i) [ inl h ↦ (omega arith) | inr h ↦ absurd (d (none_lower i h)) ]

-- it goes by the states of the n processes alone
pub lowest_same : (n : ℕ) (a b : List Member) → ((i : ℕ) → i < n → round_of a i ≡ round_of b i) → lowest_decided n a ≡ lowest_decided n b
unfolding lowest_decided
lowest_same n a b same = least_same n _ _ (λ i l. ap (λ (d : ℕ). not (eqb d 0)) (same i l))

-- The first round after which some process is decided.
module _ (P : Protocol) (s : Schedule) where
  -- a round up to t + 1 after which some process is decided, and after none before it from round 1 on, is that of the outcome
  pub round_is : (r : ℕ) → r ≤ s.t → ((k : ℕ) → k < r → some_decided P s (suc k) ≡ false) → some_decided P s (suc r) ≡ true → suc r ≡ outcome_round P s
  unfolding outcome_round
  round_is r l before here = ap suc (least_is (s.t + 1) (λ k. some_decided P s (suc k)) r (omega arith) before (λ _. here))

  pub round_low : (r : ℕ) → r ≤ s.t → some_decided P s (suc r) ≡ true → outcome_round P s ≤ suc r
  unfolding outcome_round
  round_low r l here = let h = least_low (s.t + 1) (λ k. some_decided P s (suc k)) r here in omega arith

  pub round_before : (k : ℕ) → suc k < outcome_round P s → some_decided P s (suc k) ≡ false
  unfolding outcome_round
  round_before k l = least_before (s.t + 1) (λ r. some_decided P s (suc r)) k (omega arith)

  pub round_passes : outcome_round P s ≤ s.t + 1 → some_decided P s (outcome_round P s) ≡ true
  unfolding outcome_round
  round_passes l = least_passes (s.t + 1) (λ k. some_decided P s (suc k)) (omega arith)

  pub round_positive : 1 ≤ outcome_round P s
  unfolding outcome_round
  round_positive = omega arith

  module _ (r : ℕ) where
    -- some process is decided after r rounds
    pub some_is : (i : ℕ) → i < s.n → (after P s r i).decided ≢ 0 → some_decided P s r ≡ true
    unfolding after
    some_is i l d = lt-ltb _ _ (some_lowest s.n (states_after P s r) i l d)

    -- none is
    pub nobody_is : some_decided P s r ≡ false → (i : ℕ) → i < s.n → (after P s r i).decided ≡ 0
    nobody_is e i l =
        elim (eq-zero-or-pos (after P s r i).decided) [ inl z ↦ z | inr p ↦ absurd (true≢false (sym (some_is i l (λ z. omega arith)) ∙ e)) ]

module _ (s : Schedule) (ok : Rules s) where
  -- nobody is decided before round 1
  pub none_opened : lowest_decided s.n (states_after fcwfa s 0) ≡ s.n
  unfolding after
  none_opened = sym (lowest_is s.n (states_after fcwfa s 0) s.n (omega arith) (laws s ok).opens_undecided (λ l. absurd (omega arith)))

  -- some process is decided at the end of the run
  pub decided_at_end : some_decided fcwfa s (suc s.t) ≡ true
  decided_at_end =
      let x = some_decides s ok in
      let e = ap (λ m. m.decided) (end_is s ok x.0) in
      let read = rounds_read fcwfa s x.0 in
      let d : given_round (report fcwfa s) x.0 ≢ 0 = x.2 in
      some_is fcwfa s (suc s.t) x.0 x.1 (λ z. omega arith)

  pub round_high : outcome_round fcwfa s ≤ suc s.t
  round_high = round_low fcwfa s s.t (omega arith) decided_at_end

  abbrev r : ℕ
  r = outcome_round fcwfa s

  abbrev place : ℕ
  place = outcome_place fcwfa s

  place_low : place < s.n
  place_low = let h = round_high in ltb-true _ _ (round_passes fcwfa s (omega arith))

  is_decided_then : (after fcwfa s r place).decided ≢ 0
  unfolding after
  is_decided_then = is_decided_lem s.n (states_after fcwfa s r) place_low

  -- nobody is decided after the round before it, which is the opening or one that was searched
  nobody_before : (k : ℕ) → suc k ≡ r → (i : ℕ) → i < s.n → (after fcwfa s k i).decided ≡ 0
  nobody_before zero e i l = (laws s ok).opens_undecided i l
  nobody_before (suc k) e i l = nobody_is fcwfa s (suc k) (round_before fcwfa s k (omega arith)) i l

  -- it decided in this round
  decided_in_lem : (k : ℕ) → suc k ≡ r → (after fcwfa s r place).decided ≡ r
  decided_in_lem k e =
      let high = round_high in
      let low = place_low in
      let d : (after fcwfa s r place).decided ≢ 0 = is_decided_then in
      let after-k = between (run_world s) (laws s ok) k r place (omega arith) high low (nobody_before k e place low) (omega arith) in
      elim (range (run_world s) (laws s ok) r high place low) [ inl z ↦ absurd (d z) | inr m ↦ let at = m.high in omega arith ]

  value_is : outcome_decision fcwfa s ≡ (after fcwfa s r place).estimate
  unfolding outcome_decision decision_of after
  value_is = cond_false _ 2 _ (ne_eqb _ 0 is_decided_then)

  decides : (k : ℕ) → suc k ≡ r → Decides fcwfa s place (outcome_decision fcwfa s) r
  decides k e =
      let high = round_high in
      lasts s ok place _ r place_low (omega arith) high (decided_in_lem k e) (sym value_is)

  pub outcome_promises : OutcomePromises s (outcome_decision fcwfa s) (outcome_round fcwfa s)
  outcome_promises =
      let high = round_high in
      let low = round_positive fcwfa s in
      let d = decides (r - 1) (omega arith) in
      record {
        same_value = λ i x q h. (demand_3 s ok).agreement i place x _ q r h d;
        none_earlier = none_earlier;
        decider = place;
        decides = d;
        commit_or_abort = let b = bits (run_world s) (laws s ok) r high place place_low in let v = value_is in omega arith;
        from_round_2 = from_round_2;
        in_the_run = omega arith;
      }
    where
      not_in_1 : (q : ℕ) → q ≡ 1 → (after fcwfa s q place).decided ≡ q → ⊥
      not_in_1 q e d =
          let now : (after fcwfa s 1 place).decided ≡ 1 = rw e at d in
          let z = none_in_1 (run_world s) (laws s ok) (rules s ok) place place_low in
          omega arith

      from_round_2 : 2 ≤ r
      from_round_2 =
          let low = round_positive fcwfa s in
          let d = decided_in_lem (r - 1) (omega arith) in
          elim (split 2 r) [ inl l ↦ l | inr l ↦ absurd (not_in_1 r (omega arith) d) ]

      none_earlier : (i x q : ℕ) → Decides fcwfa s i x q → r ≤ q
      none_earlier i x q h =
          let l = h.process in
          let p : q ≢ 0 = h.not_none in
          let same = h.round in
          let e = ap (λ m. m.decided) (end_is s ok i) in
          let made = made_at (run_world s) (laws s ok) (suc s.t) i q (omega arith) l (omega arith) (omega arith) in
          let now = made.0 in
          elim (range (run_world s) (laws s ok) (suc s.t) (omega arith) i l) [
            | inl z ↦ absurd (omega arith)
            | inr m ↦
                let top = m.high in
                let k : suc (q - 1) ≡ q = omega arith in
                let some : some_decided fcwfa s (suc (q - 1)) ≡ true = rw k (some_is fcwfa s q i l (λ z. omega arith)) in
                let first = round_low fcwfa s (q - 1) (omega arith) some in
                omega arith
          ]
