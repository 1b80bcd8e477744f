-- Why a process decided. In its own round it played undecided, so its row met a rule (Chosen.antt), and each rule's test says of the row what is promised;
-- a decided message comes from one that decided in the round before, and by agreement says what the process decides. Who has not decided did not complete
-- the last round, and so crashes. Assumes nothing.
use mathlib.Core.Path.{◌≡◌, refl, sym, ap, ap₂, ◌∙◌, subst}
use mathlib.Core.Logic.{inl, inr, ◌≢◌}
use mathlib.Core.List.{List}
use mathlib.Core.Bool.{true, false, not, true≢false}
use Prim.Native.Nat.{ℕ, suc, ◌+◌, ◌-◌, ◌≤◌, ◌<◌}
use native.Mathlib.Nat.{eq-zero-or-pos}
use native.Mathlib.Omega.{arith}
use lib.Dec.{eqb}
use lib.ListN.{get_or}
use borrow.Author.Tests.{eqb-true, eq-eqb, ne_eqb}
use Rattle.laws.specs.Test.{within}
use Rattle.laws.specs.Below.{count, tabulate}
use Rattle.laws.proofs.Test.{true_or_false, or_true, cond_true, cond_false, within_low, within_high}
use Rattle.laws.proofs.Counting.{Some, split, count_mono, count_same, count_not}
use Rattle.laws.proofs.Lists.{length_tabulate, get_d_tabulate}
use Rattle.member.specs.declared.Member.{Member}
use Rattle.member.specs.declared.Tally.{Tally}
use Rattle.member.specs.declared.Rule.{Rule}
use Rattle.member.specs.declared.Rule.TheVariants.{NoRule}
use Rattle.member.specs.declared.Reason.{Reason}
use Rattle.member.specs.State.{stopped}
use Rattle.member.specs.Hearing.{tally_of, is_estimate, told, told_value}
use Rattle.member.specs.Reasons.{is_decision, lowest_sender, rule_heard, rule_number, reason_heard}
use Rattle.member.proofs.Promises.{told_bit, reason_promises}
use Rattle.member.proofs.Reasons.{none_before, sender_here, sender_low}
use Rattle.schedule.specs.Schedule.{Schedule, crash_of, crashed_by}
use Rattle.schedule.specs.Questions.{Rules}
use Rattle.run.specs.Protocol.{fcwfa}
use Rattle.run.specs.Run.{code_heard, row_of, states_after, after, final}
use Rattle.run.specs.Demand.{Completes, Decides}
use Rattle.run.specs.Why.{own_round, why_of, heard_of, ByMessage, RuleSays, ByCrash, WhyPromises}
use Rattle.run.proofs.World.{Plays, hears_nothing, hears_estimate, hears_decision}
use Rattle.run.proofs.States.{bits, range, stays, made_at, heard_decision}
use Rattle.run.proofs.Votes.{none_in_1}
use Rattle.run.proofs.Rows.{Counts, counts_of, some_one, no_one, told_value_lem, is_told}
use Rattle.run.proofs.Chosen as rule
use Rattle.run.proofs.Chosen.{Chosen}
use Rattle.run.proofs.FcwfaMember.{Stands, behaves, Later, later}
use Rattle.run.proofs.Rounds.{completes_if, who_hears_whom}
use Rattle.run.proofs.CrashesSoFar.{by_crashes_so_far, by_last_round}
use Rattle.run.proofs.Behaviour.{waiting, fresh, over}
use Rattle.run.proofs.CrashRounds.{living}
use Rattle.run.proofs.RunWorld.{code_of, row_is, phase_at, hearing}
use Rattle.run.proofs.FcwfaRun.{run_world, laws, rules, untold_low}
use Rattle.run.proofs.Demand.{end_is, lasts, demand_3}

-- the codes that are decided messages
decision_high : (c : ℕ) → is_decision c ≡ true → (3 ≤ c) × (c ≤ 4)
decision_high c e =
    elim (or_true (eqb c 3) (eqb c 4) e) [
      | inl a ↦ let x = eqb-true c 3 a in (omega arith, omega arith)
      | inr a ↦ let x = eqb-true c 4 a in (omega arith, omega arith)
    ]

is_decision_lem : (c v : ℕ) → v ≤ 1 → c ≡ 3 + v → is_decision c ≡ true
is_decision_lem c v b e =
    elim (eq-zero-or-pos v) [
      | inl z ↦ let x : c ≡ 3 = omega arith in rw x refl
      | inr p ↦ let x : c ≡ 4 = omega arith in rw x refl
    ]

-- process i hears its row in round r + 1
pub record OwnHearing (s : Schedule) (i r : ℕ) : Type 0 where
  pub time : r ≤ s.t
  pub completes : Completes s (suc r) i
  pub runs : stopped (after fcwfa s r i) ≡ false

module _ (s : Schedule) (ok : Rules s) (i : ℕ) (il : i < s.n) where
  -- The process decides in round r + 1.
  module _ (r : ℕ) (rt : r ≤ s.t) (made : (after fcwfa s (suc r) i).decided ≡ suc r) where
    -- it was undecided before, and completes the round
    pub plays : Plays (run_world s) r i
    plays = record {
      time = rt;
      process = il;
      alive =
          elim (range (run_world s) (laws s ok) (suc r) (omega arith) i il) [ inl z ↦ absurd (omega arith) | inr m ↦ let a = m.alive in omega arith ];
      undecided =
          elim (range (run_world s) (laws s ok) r (omega arith) i il) [
            | inl z ↦ z
            | inr m ↦
                let low = m.low in
                let high = m.high in
                let same = (stays (run_world s) (laws s ok) r (suc r) i (omega arith) (omega arith) il low).0 in
                absurd (omega arith)
          ];
    }

    abbrev c : ℕ → ℕ
    c = code_of fcwfa s r i

    abbrev row : List ℕ
    row = tabulate s.n c

    abbrev k : Tally
    k = tally_of row

    abbrev m : Member
    m = after fcwfa s r i

    counted : Counts s.n c k
    counted = counts_of s.n c

    -- not in round 1
    late : 0 < r
    late =
        elim (eq-zero-or-pos r) [
          | inr p ↦ p
          | inl z ↦
              let now : (after fcwfa s 1 i).decided ≡ 1 = rw z at made in
              let none = none_in_1 (run_world s) (laws s ok) (rules s ok) i il in
              absurd (omega arith)
        ]

    at : Stands s.n s.t r m
    at = (hearing fcwfa 1 Stands behaves s r i plays).at

    met : Later s.n s.t r m row
    met = later s.n s.t r m row at plays.undecided late

    -- no rule would leave it undecided
    some_rule : rule_heard m k ≢ NoRule
    some_rule none =
        let now = ap (λ (x : Member). x.decided) (hearing fcwfa 1 Stands behaves s r i plays).next in
        let same = (reason_promises m row).rests none in
        let before = plays.undecided in
        omega arith

    row_at : (j : ℕ) → j < s.n → get_or row j 0 ≡ c j
    row_at j jl = get_d_tabulate s.n c j 0 jl

    -- it hears its own estimate
    own_estimate : c i ≡ suc m.estimate
    own_estimate =
        let a = plays.alive in
        let u = plays.undecided in
        elim ((laws s ok).heard r i i rt il il) [
          | hears_nothing _ stopped-before ↦ absurd (let h = (stopped-before a).0 in omega arith)
          | hears_estimate _ _ e ↦ e
          | hears_decision _ p d _ ↦ absurd (omega arith)
        ]

    -- who crashed before the round is missing in it
    missing_all : crashed_by s r ≤ count s.n (λ j. not (is_estimate (c j)))
    unfolding crashed_by
    missing_all =
        count_mono s.n (λ j. within 1 (crash_of s j) r) (λ j. not (is_estimate (c j))) (λ j _ e.
        let low = within_low 1 (crash_of s j) r e in
        let high = within_high 1 (crash_of s j) r e in
        ap (λ (x : ℕ). not (is_estimate x)) ((who_hears_whom fcwfa s (suc r) (states_after fcwfa s r) j i).silent low (omega arith)))

    -- and by the crashes so far these are as many as a quiet round may miss
    missing_low : suc r ≤ s.t → r ≤ count s.n (λ j. not (is_estimate (c j))) + 1
    missing_low early =
        elim (split r 1) [
          | inl one ↦ omega arith
          | inr more ↦
              let a = plays.alive in
              let so_far =
              (by_crashes_so_far s ok).early r i more (omega arith)
              (record { completes_it = record { process = il; completed = living s r i (omega arith) }; undecided = plays.undecided })
              in
              let all = missing_all in
              omega arith
        ]

    -- What is said of the row, as it is named in round d.
    module _ (v d : ℕ) (in_round : d ≡ suc r) (decides : Decides fcwfa s i v d) (number : ℕ) where
      before : d - 1 ≡ r
      before = omega arith

      abbrev heard : ℕ → ℕ
      heard = heard_of s i v d number

      heard_is : (j : ℕ) → heard j ≡ c j
      heard_is j = ap₂ (λ (x y : ℕ). code_heard fcwfa s x (states_after fcwfa s y) i j) in_round before

      untold : told k ≡ false → (j : ℕ) → j < s.n → is_decision (heard j) ≡ false
      untold none j jl =
          elim (true_or_false (is_decision (heard j))) [
            | inr e ↦ e
            | inl e ↦
                let b = decision_high (c j) (sym (ap is_decision (heard_is j)) ∙ e) in
                absurd (true≢false (sym (is_told s.n c k counted j jl b.0 b.1) ∙ none))
          ]

      -- a decided message was heard: that of the lowest sender
      module _ (y : told k ≡ true) where
        some : Some s.n λ j. is_decision (c j) ≡ true
        some =
            let h = told_value_lem s.n c k counted y in
            (h.0, h.1, is_decision_lem (c h.0) (told_value k) (told_bit k) h.2)

        abbrev sender : ℕ
        sender = lowest_sender row

        sender_below : sender < s.n
        sender_below =
            let jl : some.0 < s.n = some.1 in
            let low = sender_low row some.0 (ap is_decision (row_at some.0 jl) ∙ some.2) in
            omega arith

        message_here : is_decision (c sender) ≡ true
        message_here =
            let long = length_tabulate s.n c in
            let below = sender_below in
            sym (ap is_decision (row_at sender below)) ∙ sender_here row (omega arith)

        by_message : number ≡ sender + 1 → ByMessage s i v d number
        by_message numbered =
            let below = sender_below in
            let b = bits (run_world s) (laws s ok) r (omega arith) sender below in
            let high = decision_high (c sender) message_here in
            let g = heard_decision (run_world s) (laws s ok) r i sender rt il below b high.0 in
            let told-then = lasts s ok sender _ r below late (omega arith) g.2 refl in
            let same : (after fcwfa s r sender).estimate ≡ v = (demand_3 s ok).agreement sender i _ v r d told-then decides in
            let u = plays.undecided in
            let now = g.2 in
            let first = late in
            record {
              sender = sender;
              numbered = numbered;
              another = λ e. let z : (after fcwfa s r sender).decided ≡ 0 = ap (λ (x : ℕ). (after fcwfa s r x).decided) e ∙ u in omega arith;
              decided_before = subst (Decides fcwfa s sender v) (sym before) (lasts s ok sender v r below late (omega arith) g.2 same);
              message = heard_is sender ∙ g.3 ∙ ap (λ (x : ℕ). 3 + x) same;
              lowest = λ j l.
                  ap is_decision (heard_is j ∙ sym (row_at j (omega arith))) ∙ none_before row j l;
            }

      -- where no estimate 1 was heard its own is 0, and is decided
      zero_decided : told k ≡ false → k.ones ≡ 0 → v ≡ 0
      zero_decided none zeros =
          let own = own_estimate in
          let not-1 : c i ≢ 2 = no_one s.n c k counted zeros i il in
          let bit = bits (run_world s) (laws s ok) r (omega arith) i il in
          let low = (laws s ok).never_rises r i plays (untold_low s ok r i rt il none) in
          let stays-so = (stays (run_world s) (laws s ok) (suc r) (suc s.t) i (omega arith) (omega arith) il (omega arith)).1 in
          let end = ap (λ (x : Member). x.estimate) (end_is s ok i) in
          let value = decides.value in
          omega arith

      -- by the rule that is met
      says : (met : Rule) → rule_heard m k ≡ met → Chosen s.n s.t (suc r) k met → number ≡ rule_number met m.n row → RuleSays s i v d number met
      unfolding rule_number
      says met named (rule.by_message y) e = by_message y e
      says met named (rule.by_zeros none two zeros) e = record {
        untold = untold none;
        in_round_2 = in_round ∙ two;
        zeros_only = λ j jl h. no_one s.n c k counted zeros j jl (sym (heard_is j) ∙ h);
        decides_0 = zero_decided none zeros;
        no_number = e;
      }
      says met named (rule.by_quiet none ones early few) e =
          let n_is = at.n_is in
          let est = counted.estimates_are in
          let all = count_not s.n (λ j. is_estimate (c j)) in
          let missing = count_same s.n (λ j. not (is_estimate (heard j))) (λ j. not (is_estimate (c j))) (λ j _. ap (λ (x : ℕ). not (is_estimate x)) (heard_is j)) in
          record {
            untold = untold none;
            not_zeros_only = λ two. let o = some_one s.n c k counted (ones (sym in_round ∙ two)) in (o.0, o.1, heard_is o.0 ∙ o.2);
            early = omega arith;
            missing = omega arith;
            few = omega arith;
            no_fewer = let low = missing_low (omega arith) in omega arith;
          }
      says met named (rule.by_count none at_t many) e =
          let est = counted.estimates_are in
          let same = count_same s.n (λ j. is_estimate (heard j)) (λ j. is_estimate (c j)) (λ j _. ap is_estimate (heard_is j)) in
          let all = count_not s.n (λ j. is_estimate (c j)) in
          let high = ok.t_high in
          record {
            untold = untold none;
            in_round_t = in_round ∙ at_t;
            estimates = omega arith;
            many = omega arith;
            no_more = let low = missing_low (omega arith) in omega arith;
          }
      says met named (rule.by_last none last) e = record { untold = untold none; in_last = in_round ∙ last; no_number = e }
      says met named (rule.by_none _ _ _ _ _) e = some_rule named

  -- The process's own round is r + 1.
  module _ (r : ℕ) (own : own_round s i ≡ suc r) where
    decided_is : (after fcwfa s (suc s.t) i).decided ≡ suc r
    decided_is = ap (λ (x : Member). x.decided) (sym (end_is s ok i)) ∙ own

    in_time : r ≤ s.t
    in_time =
        let e = decided_is in
        elim (range (run_world s) (laws s ok) (suc s.t) (omega arith) i il) [ inl z ↦ absurd (omega arith) | inr m ↦ let h = m.high in omega arith ]

    made_then : (after fcwfa s (suc r) i).decided ≡ suc r
    made_then = (made_at (run_world s) (laws s ok) (suc s.t) i (suc r) (omega arith) il (omega arith) decided_is).0

    -- it hears its row in it
    pub own_hearing : OwnHearing s i r
    own_hearing =
        let o = plays r in_time made_then in
        record {
          time = in_time;
          completes = record { process = il; completed = living s (suc r) i o.alive };
          runs =
              let a = o.alive in
              let u = o.undecided in
              elim (phase_at fcwfa 1 Stands behaves s r in_time i il (omega arith)) [
                | waiting _ e _ ↦ e
                | fresh p z _ _ ↦ absurd (omega arith)
                | over p _ _ _ ↦ absurd (omega arith)
              ];
        }

    -- and the reason is that of the row
    pub why_is : why_of s i ≡ reason_heard (after fcwfa s r i) (row_of fcwfa s (suc r) (states_after fcwfa s r) i)
    unfolding why_of
    why_is =
        let before : own_round s i - 1 ≡ r = omega arith in
        cond_false (eqb (own_round s i) 0) _ _ (ne_eqb (own_round s i) 0 (λ z. omega arith))
        ∙ ap₂ (λ (x y : ℕ). reason_heard (after fcwfa s y i) (row_of fcwfa s x (states_after fcwfa s y) i)) own before

    own_says : (v d : ℕ) → d ≡ suc r → Decides fcwfa s i v d → RuleSays s i v d (why_of s i).number (why_of s i).rule
    own_says v d e h =
        let later-on = met r in_time made_then in
        let is : why_of s i ≡ reason_heard (after fcwfa s r i) (tabulate s.n (code_of fcwfa s r i)) = why_is ∙ ap (reason_heard (after fcwfa s r i)) (row_is fcwfa s r i) in
        subst (λ (w : Reason). RuleSays s i v d w.number w.rule) (sym is)
        (says r in_time made_then v d e h _ _ refl
        (subst (λ (x : Rule). Chosen s.n s.t (suc r) (tally_of (tabulate s.n (code_of fcwfa s r i))) x) (sym later-on.named) later-on.chose) refl)

  -- One that decides has the reason of its own round.
  decided_says : (v d : ℕ) → Decides fcwfa s i v d → RuleSays s i v d (why_of s i).number (why_of s i).rule
  decided_says v d h =
      let in_round = h.round in
      let some : d ≢ 0 = h.not_none in
      own_says (d - 1) (omega arith) v d (omega arith) h

  -- One that does not is undecided after the last round
  at_last : own_round s i ≡ 0 → (after fcwfa s (s.t + 1) i).decided ≡ 0
  unfolding final after
  at_last none = none

  -- and has its crash round, for otherwise it would complete that round.
  undecided_says : own_round s i ≡ 0 → ByCrash s i (why_of s i)
  unfolding why_of
  undecided_says none =
      let is = cond_true (eqb (own_round s i) 0) _ _ (eq-eqb (own_round s i) 0 none) in
      record {
        no_rule = ap (λ (w : Reason). w.rule) is;
        crash_round = ap (λ (w : Reason). w.number) is;
        crashes = λ never.
            by_last_round s ok i
            (record {
              completes_it = record { process = il; completed = completes_if s (s.t + 1) i (inl never) };
              undecided = at_last none;
            });
      }

  pub why_promises : WhyPromises s i (why_of s i)
  why_promises = record { decided = decided_says; undecided = undecided_says }
