-- FCWFA's member behaves as the run asks, and decides by its rules. Assumes nothing.
use mathlib.Core.Path.{◌≡◌, refl, sym, ap, ◌∙◌}
use mathlib.Core.Logic.{◌⊎◌, inl, inr}
use mathlib.Core.List.{List}
use mathlib.Core.Bool.{true, false, true≢false}
use Prim.Native.Nat.{ℕ, suc, ◌+◌, ◌≤◌, ◌<◌}
use native.Mathlib.Nat.{eq-zero-or-pos}
use native.Mathlib.Omega.{arith}
use borrow.Author.Tests.{eq-eqb, ne_eqb}
use Rattle.laws.specs.Below.{tabulate}
use Rattle.laws.proofs.Below.{count_high}
use Rattle.member.specs.declared.Member.{Member}
use Rattle.member.specs.declared.Tally.{Tally}
use Rattle.member.specs.declared.Rule.{Rule}
use Rattle.member.specs.State.{stopped}
use Rattle.member.specs.Saying.{says}
use Rattle.member.specs.Hearing.{tally_of, estimates, rule_met, first_estimate, lowered, by_rule, becomes, hears, is_estimate}
use Rattle.member.specs.Reasons.{rule_heard}
use Rattle.member.specs.Promises.{HearingPromises}
use Rattle.member.proofs.Promises.{becomes_first, becomes_later, heard_later, undecided_step, decides_last, hearing_promises}
use Rattle.run.specs.Protocol.{fcwfa}
use Rattle.run.proofs.OneRound.{estimates_in, NoneDecided, LoweredBy, ToldBy, FirstRound, by_zeros, by_quiet, by_count, by_last, Ends, decides, waits}
use Rattle.run.proofs.Rows.{Counts, counts_of, some_one, no_one, told_value_lem, is_told, not_told, lowered_by, first_estimate_lem}
use Rattle.run.proofs.Behaviour.{Behaves, Phase, waiting, fresh, over}
use Rattle.run.proofs.Chosen as rule
use Rattle.run.proofs.Chosen.{Chosen, chosen, told_estimate, untold_estimate}

-- the round that a member stands in after r rounds: undecided, decided in round r, or decided before and done
pub data Stage (r : ℕ) (m : Member) : Type 0 where
  not_yet : m.decided ≡ 0 → m.round ≡ suc r → Stage r m
  just_now : 0 < r → m.decided ≡ r → m.round ≡ suc r → Stage r m
  done : 0 < m.decided → m.decided < r → m.round ≡ m.decided + 2 → Stage r m

-- a member of a run of n and t after r rounds
pub record Stands (n t r : ℕ) (m : Member) : Type 0 where
  pub n_is : m.n ≡ n
  pub t_is : m.t ≡ t
  pub stage : Stage r m

module _ (t r : ℕ) (m : Member) (te : m.t ≡ t) (rt : r ≤ t) where
  runs_not_yet : m.decided ≡ 0 → m.round ≡ suc r → stopped m ≡ false
  unfolding stopped
  runs_not_yet z e = rw (ne_eqb m.round (m.t + 2) (λ q. omega arith), eq-eqb m.decided 0 z) refl

  runs_just_now : 0 < r → m.decided ≡ r → m.round ≡ suc r → stopped m ≡ false
  unfolding stopped
  runs_just_now p z e =
      rw (ne_eqb m.round (m.t + 2) (λ q. omega arith), ne_eqb m.decided 0 (λ q. omega arith), ne_eqb m.round (m.decided + 2) (λ q. omega arith)) refl

  stops_done : 0 < m.decided → m.decided < r → m.round ≡ m.decided + 2 → stopped m ≡ true
  unfolding stopped
  stops_done p z e =
      rw (ne_eqb m.round (m.t + 2) (λ q. omega arith), ne_eqb m.decided 0 (λ q. omega arith), eq-eqb m.round (m.decided + 2) e) refl

phase_of : (n t r : ℕ) (m : Member) → r ≤ t → Stands n t r m → Phase fcwfa r m
unfolding says
phase_of n t r m rt a = go a.stage
  where
    go : Stage r m → Phase fcwfa r m
    go (not_yet z e) = let s = runs_not_yet t r m a.t_is rt z e in waiting z s (rw (s, eq-eqb m.decided 0 z) (omega arith))
    go (just_now p z e) = let s = runs_just_now t r m a.t_is rt p z e in fresh p z s (rw (s, ne_eqb m.decided 0 (λ q. omega arith)) refl)
    go (done p z e) = let s = stops_done t r m a.t_is rt p z e in over p z s (rw s refl)

rests_of : (n t r : ℕ) (m : Member) → r ≤ t → Stands n t r m → stopped m ≡ true → Stands n t (suc r) m
rests_of n t r m rt a s = record { n_is = a.n_is; t_is = a.t_is; stage = go a.stage }
  where
    go : Stage r m → Stage (suc r) m
    go (not_yet z e) = absurd (true≢false (sym s ∙ runs_not_yet t r m a.t_is rt z e))
    go (just_now p z e) = absurd (true≢false (sym s ∙ runs_just_now t r m a.t_is rt p z e))
    go (done p z e) = done p (omega arith) e

-- the round of a member that has not stopped, undecided or not
pub round_is : (n t r : ℕ) (m : Member) → r ≤ t → Stands n t r m → stopped m ≡ false → m.round ≡ suc r
round_is n t r m rt a s = go a.stage
  where
    go : Stage r m → m.round ≡ suc r
    go (not_yet z e) = e
    go (just_now p z e) = e
    go (done p z e) = absurd (true≢false (sym (stops_done t r m a.t_is rt p z e) ∙ s))

undecided_round : (n t r : ℕ) (m : Member) → Stands n t r m → m.decided ≡ 0 → m.round ≡ suc r
undecided_round n t r m a z =
    elim a.stage [ not_yet _ e ↦ e | just_now p q _ ↦ absurd (omega arith) | done p _ _ ↦ absurd (omega arith) ]

module _ (m : Member) (row : List ℕ) where
  promised : HearingPromises 0 m row
  promised = hearing_promises 0 m row

  may_decide : m.decided ≡ 0 → ((hears m row).decided ≡ 0) ⊎ ((hears m row).decided ≡ m.round)
  may_decide u =
      let s = undecided_step m (tally_of row) u in
      let e = ap (λ x. x.decided) s.is in
      elim s.when [ inl z ↦ inl (e ∙ z) | inr z ↦ inr (e ∙ z.0) ]

  keeps : 0 < m.decided → ((hears m row).estimate ≡ m.estimate) × ((hears m row).decided ≡ m.decided)
  keeps d = (promised.estimate_kept (λ z. omega arith), promised.decided_kept (λ z. omega arith))

goes_on_of : (n t r : ℕ) (m : Member) (row : List ℕ) → r ≤ t → Stands n t r m → stopped m ≡ false → Stands n t (suc r) (hears m row)
goes_on_of n t r m row rt a s = record { n_is = (promised m row).n_kept ∙ a.n_is; t_is = (promised m row).t_kept ∙ a.t_is; stage = go a.stage }
  where
    grows : (hears m row).round ≡ m.round + 1
    grows = (promised m row).round_grows

    go : Stage r m → Stage (suc r) (hears m row)
    go (not_yet z e) =
        let g = grows in
        elim (may_decide m row z) [ inl d ↦ not_yet d (omega arith) | inr d ↦ just_now (omega arith) (omega arith) (omega arith) ]
    go (just_now p z e) = let g = grows in let d = (keeps m row (omega arith)).1 in done (omega arith) (omega arith) (omega arith)
    go (done p z e) = absurd (true≢false (sym (stops_done t r m a.t_is rt p z e) ∙ s))

moves_of : (n t r : ℕ) (m : Member) (row : List ℕ) → Stands n t r m → m.decided ≡ 0 → ((hears m row).decided ≡ 0) ⊎ ((hears m row).decided ≡ suc r)
moves_of n t r m row a u = elim (may_decide m row u) [ inl z ↦ inl z | inr z ↦ inr (z ∙ undecided_round n t r m a u) ]

-- from round 2 on: the rule that is met, and the state by it
pub record Later (n t r : ℕ) (m : Member) (row : List ℕ) : Type 0 where
  pub met : Rule
  pub named : rule_heard m (tally_of row) ≡ met
  pub chose : Chosen n t (suc r) (tally_of row) met
  pub is : becomes m (tally_of row) ≡ by_rule met m (tally_of row)
  pub in_round : m.round ≡ suc r

chosen_for : (n t r : ℕ) {n' t' r' : ℕ} (k : Tally) → n' ≡ n → t' ≡ t → r' ≡ r → Chosen n t r k (rule_met n' t' r' k)
chosen_for n t r k x y z = rw (x, y, z) (chosen n t r k)

pub later : (n t r : ℕ) (m : Member) (row : List ℕ) → Stands n t r m → m.decided ≡ 0 → 0 < r → Later n t r m row
later n t r m row a u p =
    let e = undecided_round n t r m a u in
    record {
      met = rule_met m.n m.t m.round (tally_of row);
      named = heard_later m (tally_of row) u (λ q. omega arith);
      chose = chosen_for n t (suc r) (tally_of row) a.n_is a.t_is e;
      is = becomes_later m (tally_of row) u (λ q. omega arith);
      in_round = e;
    }

module _ (n t r : ℕ) (m : Member) (c : ℕ → ℕ) (a : Stands n t r m) (u : m.decided ≡ 0) where
  abbrev row : List ℕ
  row = tabulate n c

  abbrev k : Tally
  k = tally_of row

  counted : Counts n c k
  counted = counts_of n c

  told_of : 0 < r → (j : ℕ) → j < n → 3 ≤ c j → c j ≤ 4 → ToldBy n r c (hears m row).estimate (hears m row).decided
  told_of p j jl lo hi =
      let h = later n t r m row a u p in
      let tk = is_told n c k counted j jl lo hi in
      let e = told_estimate m h.met h.chose tk in
      let some = told_value_lem n c k counted tk in
      record {
        decided_is = ap (λ x. x.decided) h.is ∙ e.0 ∙ h.in_round;
        by = (some.0, some.1, some.2 ∙ ap (λ x. 3 + x) (sym (ap (λ x. x.estimate) h.is ∙ e.1)));
      }

  lowers_of : 1 ≤ r → NoneDecided n c → LoweredBy n c m.estimate (hears m row).estimate
  lowers_of p low =
      let h = later n t r m row a u p in
      let e : (hears m row).estimate ≡ lowered m.estimate k = ap (λ x. x.estimate) h.is ∙ untold_estimate m h.met h.chose (not_told n c k counted low) in
      rw e (lowered_by n c k counted m.estimate)

  pub first_of : r ≡ 0 → FirstRound n c m.estimate (hears m row).estimate (hears m row).decided
  first_of z =
      let e = undecided_round n t r m a u in
      let h = becomes_first m k u (omega arith) in
      let x : (hears m row).estimate ≡ first_estimate n m.estimate k = ap (λ y. y.estimate) h ∙ ap (λ q. first_estimate q m.estimate k) a.n_is in
      record { decided_is = ap (λ y. y.decided) h; estimate_is = rw x (first_estimate_lem n c k counted m.estimate) }

  never_rises_of : NoneDecided n c → (hears m row).estimate ≤ m.estimate
  never_rises_of low =
      elim (eq-zero-or-pos r) [
        | inl z ↦ elim (first_of z).estimate_is [ inl e ↦ let y = e.0 in omega arith | inr e ↦ let y = e.0 in omega arith ]
        | inr p ↦ elim (lowers_of p low) [ inl e ↦ let y = e.0 in omega arith | inr e ↦ let y = e.0 in omega arith ]
      ]

  -- by which rule the member decides that is not told, or why it does not
  pub ends_of : r ≤ t → t < n → 0 < r → NoneDecided n c → Ends n t r c (hears m row).decided
  unfolding by_rule
  ends_of rt tn p low = let h = later n t r m row a u p in go h.met h.chose (ap (λ x. x.decided) h.is) h.in_round
    where
      estimates_are : estimates k ≡ estimates_in n c
      estimates_are = counted.estimates_are

      most : estimates_in n c ≤ n
      most = count_high n (λ j. is_estimate (c j))

      go : (met : Rule) → Chosen n t (suc r) k met → (hears m row).decided ≡ (by_rule met m k).decided → m.round ≡ suc r → Ends n t r c (hears m row).decided
      go met (rule.by_message y) q e = absurd (true≢false (sym y ∙ not_told n c k counted low))
      go met (rule.by_zeros _ two none) q e = decides (q ∙ e) (by_zeros (omega arith) (no_one n c k counted none))
      go met (rule.by_quiet _ _ early few) q e = decides (q ∙ e) (by_quiet (omega arith) (omega (arith, estimates_are, most)))
      go met (rule.by_count _ at many) q e = decides (q ∙ e) (by_count at (omega (arith, estimates_are)))
      go met (rule.by_last _ at) q e = decides (q ∙ e) (by_last (omega arith))
      go met (rule.by_none _ ones few many end) q e =
          waits q
          (record {
            not_last = omega arith;
            not_zeros = λ h. some_one n c k counted (ones (omega arith));
            not_quiet = λ h. let x = few (omega arith) in omega (arith, estimates_are, most);
            not_count = λ h. let x = many h in omega (arith, estimates_are, most);
          })

ends_last : (n t : ℕ) (m : Member) (row : List ℕ) → 3 ≤ t → Stands n t t m → m.decided ≡ 0 → (hears m row).decided ≡ suc t
ends_last n t m row tl a u =
    let te = a.t_is in
    let e = undecided_round n t t m a u in
    elim (moves_of n t t m row a u) [
      | inl z ↦ absurd (decides_last m (tally_of row) (λ q. omega arith) (omega arith) z)
      | inr d ↦ d
    ]

pub behaves : Behaves fcwfa 1 Stands
behaves = record {
  opens_at = λ n t id vote. record { n_is = refl; t_is = refl; stage = not_yet refl refl };
  opens_with = λ n t id vote. refl;
  opens_undecided = λ n t id vote. refl;
  phase = phase_of;
  rests = rests_of;
  goes_on = goes_on_of;
  kept = keeps;
  moves = moves_of;
  never_rises = never_rises_of;
  told = told_of;
  lowers = lowers_of;
  ends = ends_last;
}
