-- The promises of a member. Any row takes a decided member one round on as it is. An undecided one goes on with an estimate that is 0, 1 or its
-- own, undecided or decided in the round that it plays; and in round t + 1 some rule is always met. Assumes nothing.
use mathlib.Core.Path.{◌≡◌, refl, sym, ◌∙◌, ap}
use mathlib.Core.Logic.{◌⊎◌, inl, inr, ◌≢◌}
use mathlib.Core.List.{List}
use mathlib.Core.Bool.{Bool, true, false, cond, not, ◌&&◌, ◌||◌, false≢true}
use Prim.Native.Nat.{ℕ, ◌+◌, ◌-◌, ◌^◌, ◌≤◌, ◌<◌, zero-le}
use native.Mathlib.Omega.{arith}
use borrow.Author.Tests.{eqb-true, eqb-false, eq-eqb, ne_eqb, not-true}
use lib.Count.{ones}
use lib.Dec.{eqb, ltb, leb}
use lib.ListN.{length, get_or}
use lib.Pow.{pow_pos}
use Rattle.laws.proofs.Test.{true_or_false}
use Rattle.laws.proofs.Answer.{passed, answer_accepted, answer_refused}
use Rattle.sets.specs.Sets.{names}
use Rattle.sets.proofs.Bits.{names_nobody}
use Rattle.member.specs.declared.Member.{Member}
use Rattle.member.specs.declared.Tally.{Tally}
use Rattle.member.specs.declared.Rule.{Rule}
use Rattle.member.specs.declared.Rule.TheVariants.{Told, ZerosOnly, Quiet, RoundT, LastRound, NoRule}
use Rattle.member.specs.Opening.{opening}
use Rattle.member.specs.State.{in_range, stopped}
use Rattle.member.specs.Saying.{says}
use Rattle.member.specs.Hearing.{tally_of, is_estimate, estimates, told, zeros_only, quiet, enough, rule_met, moved, first_estimate, lowered, told_value, by_rule, becomes, sets_silent, with_silent, hears}
use Rattle.member.specs.Questions.{row_question, hear_question}
use Rattle.member.specs.Answers.{hear_answer}
use Rattle.member.specs.Reasons.{rule_heard}
use Rattle.member.specs.Promises.{OpeningPromises, HearingPromises, ReasonPromises}
use Rattle.member.proofs.Codes.{is_estimate_lem}
use Rattle.member.proofs.Silent.{silent_below, silent_names, silent_ones, sets, silent_is, silent_left}
use Rattle.member.proofs.Range.{Limits, Place, waiting, settled, Ranged, ranged, Running, running, open_limits, in_range_ranged, ranged_in_range}

-- One round on, undecided or decided in the round played.
pub record Step (m x : Member) : Type 0 where
  pub estimate : ℕ
  pub decided : ℕ
  pub is : x ≡ moved m estimate decided
  pub bit : m.estimate ≤ 1 → estimate ≤ 1
  pub when : (decided ≡ 0) ⊎ ((decided ≡ m.round) × (m.round ≢ 1))

cond_bit : (b : Bool) (x y : ℕ) → x ≤ 1 → y ≤ 1 → cond b x y ≤ 1
cond_bit true x y p q = p
cond_bit false x y p q = q

lowered_bit : (estimate : ℕ) (k : Tally) → estimate ≤ 1 → lowered estimate k ≤ 1
unfolding lowered
lowered_bit estimate k h = cond_bit (ltb 0 k.zeros) 0 estimate zero-le h

pub told_bit : (k : Tally) → told_value k ≤ 1
unfolding told_value
told_bit k = cond_bit (ltb 0 k.aborts) 0 1 zero-le (omega arith)

module _ (m : Member) (k : Tally) where
  module _ (later : m.round ≢ 1) where
    deciding : Step m (moved m (lowered m.estimate k) m.round)
    deciding = record { estimate = lowered m.estimate k; decided = m.round; is = refl; bit = lowered_bit m.estimate k; when = inr (refl, later) }

    by_rule_step : (rule : Rule) → Step m (by_rule rule m k)
    unfolding by_rule
    by_rule_step Told = record { estimate = told_value k; decided = m.round; is = refl; bit = λ _. told_bit k; when = inr (refl, later) }
    by_rule_step ZerosOnly = deciding
    by_rule_step Quiet = deciding
    by_rule_step RoundT = deciding
    by_rule_step LastRound = deciding
    by_rule_step NoRule = record { estimate = lowered m.estimate k; decided = 0; is = refl; bit = lowered_bit m.estimate k; when = inl refl }

  first_step : Step m (moved m (first_estimate m.n m.estimate k) 0)
  unfolding first_estimate
  first_step = record {
    estimate = first_estimate m.n m.estimate k;
    decided = 0;
    is = refl;
    bit = cond_bit (ltb (estimates k) m.n || ltb 0 k.zeros) 0 m.estimate zero-le;
    when = inl refl;
  }

  pub becomes_decided : m.decided ≢ 0 → becomes m k ≡ moved m m.estimate m.decided
  unfolding becomes
  becomes_decided d = rw (ne_eqb m.decided 0 d)

  pub becomes_first : m.decided ≡ 0 → m.round ≡ 1 → becomes m k ≡ moved m (first_estimate m.n m.estimate k) 0
  unfolding becomes
  becomes_first u r = rw (eq-eqb m.decided 0 u, eq-eqb m.round 1 r)

  pub becomes_later : m.decided ≡ 0 → m.round ≢ 1 → becomes m k ≡ by_rule (rule_met m.n m.t m.round k) m k
  unfolding becomes
  becomes_later u r = rw (eq-eqb m.decided 0 u, ne_eqb m.round 1 r)

  pub undecided_step : m.decided ≡ 0 → Step m (becomes m k)
  undecided_step u =
      elim (true_or_false (eqb m.round 1)) [
        | inl r ↦ rw (becomes_first u (eqb-true m.round 1 r)) first_step
        | inr r ↦ let later = eqb-false m.round 1 r in rw (becomes_later u later) (by_rule_step later (rule_met m.n m.t m.round k))
      ]

  -- in round t + 1 some rule is met
  some_rule : (a b c d last : Bool) → last ≡ true → (by_rule (cond a Told (cond b ZerosOnly (cond c Quiet (cond d RoundT (cond last LastRound NoRule))))) m k).decided ≡ m.round
  unfolding by_rule
  some_rule true b c d last e = refl
  some_rule false true c d last e = refl
  some_rule false false true d last e = refl
  some_rule false false false true last e = refl
  some_rule false false false false true e = refl
  some_rule false false false false false e = absurd (false≢true e)

  last_rule : m.round ≡ m.t + 1 → (by_rule (rule_met m.n m.t m.round k) m k).decided ≡ m.round
  unfolding rule_met
  last_rule e =
      some_rule (told k) (zeros_only m.round k) (quiet m.n m.t m.round k) (enough m.n m.t m.round k) (eqb m.round (m.t + 1))
      (eq-eqb m.round (m.t + 1) e)

  pub decides_last : m.t ≢ 0 → m.round ≡ m.t + 1 → (becomes m k).decided ≢ 0
  decides_last p e =
      elim (true_or_false (eqb m.decided 0)) [
        | inl u ↦ let r = last_rule e in rw (becomes_later (eqb-true m.decided 0 u) (λ z. omega arith)) (λ z. omega arith)
        | inr d ↦ let h = eqb-false m.decided 0 d in rw (becomes_decided h) h
      ]

  -- whether the rule that is met decides
  rule_decides : (rule : Rule) → rule ≢ NoRule → (by_rule rule m k).decided ≡ m.round
  unfolding by_rule
  rule_decides Told other = refl
  rule_decides ZerosOnly other = refl
  rule_decides Quiet other = refl
  rule_decides RoundT other = refl
  rule_decides LastRound other = refl
  rule_decides NoRule other = absurd (other refl)

  no_rule_rests : {rule : Rule} → rule ≡ NoRule → (by_rule rule m k).decided ≡ 0
  unfolding by_rule
  no_rule_rests e = rw e

  -- the rule that a row meets, by what the member is
  pub heard_decided : m.decided ≢ 0 → rule_heard m k ≡ NoRule
  unfolding rule_heard
  heard_decided d = rw (ne_eqb m.decided 0 d)

  pub heard_first : m.decided ≡ 0 → m.round ≡ 1 → rule_heard m k ≡ NoRule
  unfolding rule_heard
  heard_first u r = rw (eq-eqb m.decided 0 u, eq-eqb m.round 1 r)

  pub heard_later : m.decided ≡ 0 → m.round ≢ 1 → rule_heard m k ≡ rule_met m.n m.t m.round k
  unfolding rule_heard
  heard_later u r = rw (eq-eqb m.decided 0 u, ne_eqb m.round 1 r)

-- Where a member in range that has not stopped comes to.
undecided_place : (m : Member) (e d : ℕ) → Place m → m.decided ≡ 0 → (d ≡ 0) ⊎ ((d ≡ m.round) × (m.round ≢ 1)) → (m.round ≡ m.t + 1 → d ≢ 0) → Place (moved m e d)
undecided_place m e d (waiting u lo hi) z (inl w) last = let ne : m.round ≢ m.t + 1 = λ x. last x w in waiting w (omega arith) (omega arith)
undecided_place m e d (waiting u lo hi) z (inr w) last =
    let ne : m.round ≢ 1 = w.1 in
    settled (omega arith) (omega arith) (omega arith) (omega arith) (omega arith)
undecided_place m e d (settled a b r s t) z w last = absurd (omega arith)

decided_place : (m : Member) → Place m → Running m → m.decided ≢ 0 → Place (moved m m.estimate m.decided)
decided_place m (waiting u lo hi) run d = absurd (d u)
decided_place m (settled a b r s t) run d =
    let over : m.round ≢ m.t + 2 = run.not_over in
    let done : m.round ≢ m.decided + 2 = run.not_done d in
    settled a b (omega arith) (omega arith) (omega arith)

-- and with any silent set
with_silent_lem : (m : Member) (set : ℕ) → Place m → Place (with_silent m set)
with_silent_lem m set (waiting u lo hi) = waiting u lo hi
with_silent_lem m set (settled a b r s t) = settled a b r s t

-- the same limits with another estimate
same_limits : {limit n t id value : ℕ} (e : ℕ) → e ≤ 1 → Limits limit n t id value → Limits limit n t id e
same_limits e h l = record { n_low = l.n_low; n_high = l.n_high; t_low = l.t_low; t_high = l.t_high; id_low = l.id_low; id_high = l.id_high; value_high = h }

-- What the questions of an accepted hearing say.
pub record Accepts (limit : ℕ) (m : Member) (row : List ℕ) : Type 0 where
  pub range : Ranged limit m
  pub runs : Running m
  pub long : length row ≡ m.n
  pub own : get_or row (m.id - 1) 0 ≡ says m

module _ (limit : ℕ) (m : Member) (row : List ℕ) where
  pub accepts : hear_question limit m row ≡ 0 → Accepts limit m row
  unfolding hear_question row_question
  accepts e =
      let p1 = passed (in_range limit m) 11 _ (omega arith) e in
      let p2 = passed (not (stopped m)) 12 _ (omega arith) p1.1 in
      let p3 = passed (eqb (length row) m.n) 13 _ (omega arith) p2.1 in
      let p4 = passed _ 14 _ (omega arith) p3.1 in
      let p5 = passed _ 15 _ (omega arith) p4.1 in
      record {
        range = in_range_ranged limit m p1.0;
        runs = running m (not-true (stopped m) p2.0);
        long = eqb-true (length row) m.n p3.0;
        own = eqb-true (get_or row (m.id - 1) 0) (says m) p5.0;
      }

  -- an undecided member that runs says an estimate
  own_estimate : Accepts limit m row → m.decided ≡ 0 → is_estimate (get_or row (m.id - 1) 0) ≡ true
  unfolding says
  own_estimate a u =
      let value = a.range.bounds.value_high in
      rw (a.own, a.runs.goes_on, eq-eqb m.decided 0 u) (is_estimate_lem (1 + m.estimate) (omega arith) (omega arith))

  -- the set after an accepted row names no process above n, and not the own one
  module _ (a : Accepts limit m row) where
    silent_below_n : (hears m row).silent < 2 ^ m.n
    silent_below_n =
        elim (true_or_false (sets_silent m (tally_of row))) [
          | inl e ↦ rw (silent_is m row e, ← a.long) (silent_below row)
          | inr e ↦ rw (silent_left m row e) a.range.others.below
        ]

    silent_not_own : names (hears m row).silent (m.id - 1) ≡ false
    silent_not_own =
        let low = a.range.bounds.id_low in
        let high = a.range.bounds.id_high in
        let long = a.long in
        elim (true_or_false (sets_silent m (tally_of row))) [
          | inl e ↦ rw (silent_is m row e) (silent_names row (m.id - 1) (omega arith) ∙ ap not (own_estimate a (sets m (tally_of row) e).undecided_before))
          | inr e ↦ rw (silent_left m row e) a.range.others.not_own
        ]

    silent_ones_are : sets_silent m (tally_of row) ≡ true → ones (hears m row).silent ≡ m.n - estimates (tally_of row)
    silent_ones_are e = ap ones (silent_is m row e) ∙ silent_ones row ∙ ap (λ (n : ℕ). n - estimates (tally_of row)) a.long

    by_silent : sets_silent m (tally_of row) ≡ true
        → quiet m.n m.t m.round (tally_of row) ≡ leb m.round (m.t - 1) && leb (ones (hears m row).silent) (m.round - 2)
    unfolding quiet
    by_silent e = rw (silent_ones_are e)

  kept_range : hear_question limit m row ≡ 0 → in_range limit (hears m row) ≡ true
  kept_range q = ranged_in_range limit (hears m row) (go (true_or_false (eqb m.decided 0)))
    where
      a : Accepts limit m row
      a = accepts q

      go : (eqb m.decided 0 ≡ true) ⊎ (eqb m.decided 0 ≡ false) → Ranged limit (hears m row)
      go (inl u) =
          let z = eqb-true m.decided 0 u in
          let s = undecided_step m (tally_of row) z in
          let last : m.round ≡ m.t + 1 → s.decided ≢ 0 = λ e w. decides_last m (tally_of row) (λ t0. omega (arith, a.range.bounds.t_low)) e (ap (λ x. x.decided) s.is ∙ w) in
          rw s.is
          (ranged limit _ (same_limits s.estimate (s.bit a.range.bounds.value_high) a.range.bounds)
          (with_silent_lem _ _ (undecided_place m s.estimate s.decided a.range.place z s.when last)) (record { below = silent_below_n a; not_own = silent_not_own a }))
      go (inr u) =
          let d = eqb-false m.decided 0 u in
          rw (becomes_decided m (tally_of row) d)
          (ranged limit _ a.range.bounds (with_silent_lem _ _ (decided_place m a.range.place a.runs d)) (record { below = silent_below_n a; not_own = silent_not_own a }))

  -- n, t, own number and round, whatever is heard
  kept : (f : Member → ℕ) → ((e d : ℕ) → f (moved m e d) ≡ f (moved m 0 0)) → f (becomes m (tally_of row)) ≡ f (moved m 0 0)
  kept f h = elim (true_or_false (eqb m.decided 0)) [
    | inl u ↦ let s = undecided_step m (tally_of row) (eqb-true m.decided 0 u) in ap f s.is ∙ h s.estimate s.decided
    | inr u ↦ ap f (becomes_decided m (tally_of row) (eqb-false m.decided 0 u)) ∙ h m.estimate m.decided
  ]

  pub hearing_promises : HearingPromises limit m row
  unfolding hear_answer
  hearing_promises = record {
    refused_back = answer_refused (hear_question limit m row) (hears m row) m;
    accepted_on = answer_accepted (hear_question limit m row) (hears m row) m;
    round_grows = kept (λ x. x.round) (λ e d. refl);
    n_kept = kept (λ x. x.n) (λ e d. refl);
    t_kept = kept (λ x. x.t) (λ e d. refl);
    id_kept = kept (λ x. x.id) (λ e d. refl);
    in_range = kept_range;
    decided_last = λ q e. decides_last m (tally_of row) (λ t0. omega (arith, (accepts q).range.bounds.t_low)) e;
    estimate_kept = λ d. ap (λ x. x.estimate) (becomes_decided m (tally_of row) d);
    decided_kept = λ d. ap (λ x. x.decided) (becomes_decided m (tally_of row) d);
    silent_named = λ q e j l. let a = accepts q in let long = a.long in ap (λ (set : ℕ). names set j) (silent_is m row e) ∙ silent_names row j (omega arith);
    silent_count = λ q e. silent_ones_are (accepts q) e;
    silent_quiet = λ q e. by_silent (accepts q) e;
    silent_kept = silent_left m row;
  }

pub opening_promises : (limit n t id vote : ℕ) → OpeningPromises limit n t id vote
opening_promises limit n t id vote = record {
  in_range = λ q. ranged_in_range limit (opening n t id vote) (ranged limit _ (open_limits limit n t id vote q) (waiting refl (omega arith) (omega arith)) (record { below = pow_pos n; not_own = names_nobody 0 0 (id - 1) (omega arith) zero-le }));
}

module _ (m : Member) (row : List ℕ) where
  abbrev k : Tally
  k = tally_of row

  named_decides : rule_heard m k ≢ NoRule → (m.decided ≡ 0) × ((hears m row).decided ≡ m.round)
  named_decides other =
      elim (true_or_false (eqb m.decided 0)) [
        | inl e ↦
            let u = eqb-true m.decided 0 e in
            elim (true_or_false (eqb m.round 1)) [
              | inl r ↦ absurd (other (heard_first m k u (eqb-true m.round 1 r)))
              | inr r ↦
                  let later = eqb-false m.round 1 r in
                  (u, ap (λ (x : Member). x.decided) (becomes_later m k u later) ∙ rule_decides m k _ (λ z. other (heard_later m k u later ∙ z)))
            ]
        | inr e ↦ absurd (other (heard_decided m k (eqb-false m.decided 0 e)))
      ]

  none_rests : rule_heard m k ≡ NoRule → (hears m row).decided ≡ m.decided
  none_rests none =
      elim (true_or_false (eqb m.decided 0)) [
        | inl e ↦
            let u = eqb-true m.decided 0 e in
            elim (true_or_false (eqb m.round 1)) [
              | inl r ↦ ap (λ (x : Member). x.decided) (becomes_first m k u (eqb-true m.round 1 r)) ∙ sym u
              | inr r ↦
                  let later = eqb-false m.round 1 r in
                  ap (λ (x : Member). x.decided) (becomes_later m k u later) ∙ no_rule_rests m k (sym (heard_later m k u later) ∙ none) ∙ sym u
            ]
        | inr e ↦ ap (λ (x : Member). x.decided) (becomes_decided m k (eqb-false m.decided 0 e))
      ]

  pub reason_promises : ReasonPromises m row
  reason_promises = record { decides = named_decides; rests = none_rests }
