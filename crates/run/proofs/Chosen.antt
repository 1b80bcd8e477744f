-- The rule that a row meets, from round 2 on, and what the state becomes by it. Assumes nothing.
use mathlib.Core.Path.{◌≡◌, refl}
use mathlib.Core.Logic.{inl, inr, ◌≢◌}
use mathlib.Core.Bool.{true, false, true≢false}
use Prim.Native.Nat.{ℕ, ◌+◌, ◌-◌, ◌≤◌, ◌<◌}
use lib.Dec.{leb, eqb}
use borrow.Author.Tests.{leb-true, leb-false, le-leb, eqb-true, eqb-false, eq-eqb}
use Rattle.laws.proofs.Test.{true_or_false, and_left, and_right, and_false}
use Rattle.member.specs.declared.Member.{Member}
use Rattle.member.specs.declared.Tally.{Tally}
use Rattle.member.specs.declared.Rule.{Rule}
use Rattle.member.specs.declared.Rule.TheVariants.{Told, ZerosOnly, Quiet, RoundT, LastRound, NoRule}
use Rattle.member.specs.Hearing.{estimates, told, zeros_only, quiet, enough, rule_met, by_rule, lowered, told_value}

-- what the counts k say where a rule is the first that is met in round r
pub data Chosen (n t r : ℕ) (k : Tally) : Rule → Type 0 where
  by_message : told k ≡ true → Chosen n t r k Told
  by_zeros : told k ≡ false → r ≡ 2 → k.ones ≡ 0 → Chosen n t r k ZerosOnly
  by_quiet : told k ≡ false → (r ≡ 2 → k.ones ≢ 0) → r ≤ t - 1 → n - estimates k ≤ r - 2 → Chosen n t r k Quiet
  by_count : told k ≡ false → r ≡ t → n - t + 1 ≤ estimates k → Chosen n t r k RoundT
  by_last : told k ≡ false → r ≡ t + 1 → Chosen n t r k LastRound
  by_none : told k ≡ false → (r ≡ 2 → k.ones ≢ 0) → (r ≤ t - 1 → r - 2 < n - estimates k) → (r ≡ t → estimates k < n - t + 1) → r ≢ t + 1
      → Chosen n t r k NoRule

module _ (n t r : ℕ) (k : Tally) where
  zeros_test : zeros_only r k ≡ true → (r ≡ 2) × (k.ones ≡ 0)
  unfolding zeros_only
  zeros_test e = (eqb-true r 2 (and_left (eqb r 2) (eqb k.ones 0) e), eqb-true k.ones 0 (and_right (eqb r 2) (eqb k.ones 0) e))

  zeros_fails : zeros_only r k ≡ false → r ≡ 2 → k.ones ≢ 0
  unfolding zeros_only
  zeros_fails e q = eqb-false k.ones 0 (and_false (eqb r 2) (eqb k.ones 0) e (eq-eqb r 2 q))

  quiet_test : quiet n t r k ≡ true → (r ≤ t - 1) × (n - estimates k ≤ r - 2)
  unfolding quiet
  quiet_test e = (
    leb-true r (t - 1) (and_left (leb r (t - 1)) (leb (n - estimates k) (r - 2)) e),
    leb-true (n - estimates k) (r - 2) (and_right (leb r (t - 1)) (leb (n - estimates k) (r - 2)) e),
  )

  quiet_fails : quiet n t r k ≡ false → r ≤ t - 1 → r - 2 < n - estimates k
  unfolding quiet
  quiet_fails e q = leb-false (n - estimates k) (r - 2) (and_false (leb r (t - 1)) (leb (n - estimates k) (r - 2)) e (le-leb r (t - 1) q))

  count_test : enough n t r k ≡ true → (r ≡ t) × (n - t + 1 ≤ estimates k)
  unfolding enough
  count_test e = (
    eqb-true r t (and_left (eqb r t) (leb (n - t + 1) (estimates k)) e),
    leb-true (n - t + 1) (estimates k) (and_right (eqb r t) (leb (n - t + 1) (estimates k)) e),
  )

  count_fails : enough n t r k ≡ false → r ≡ t → estimates k < n - t + 1
  unfolding enough
  count_fails e q = leb-false (n - t + 1) (estimates k) (and_false (eqb r t) (leb (n - t + 1) (estimates k)) e (eq-eqb r t q))

  pub chosen : Chosen n t r k (rule_met n t r k)
  unfolding rule_met
  chosen =
      elim (true_or_false (told k)) [
        | inl e ↦ rw e (by_message e)
        | inr e ↦
            rw e
            (elim (true_or_false (zeros_only r k)) [
              | inl a ↦ rw a (let h = zeros_test a in by_zeros e h.0 h.1)
              | inr a ↦
                  rw a
                  (elim (true_or_false (quiet n t r k)) [
                    | inl b ↦ rw b (let h = quiet_test b in by_quiet e (zeros_fails a) h.0 h.1)
                    | inr b ↦
                        rw b
                        (elim (true_or_false (enough n t r k)) [
                          | inl d ↦ rw d (let h = count_test d in by_count e h.0 h.1)
                          | inr d ↦
                              rw d
                              (elim (true_or_false (eqb r (t + 1))) [
                                | inl f ↦ rw f (by_last e (eqb-true r (t + 1) f))
                                | inr f ↦ rw f (by_none e (zeros_fails a) (quiet_fails b) (count_fails d) (eqb-false r (t + 1) f))
                              ])
                        ])
                  ])
            ])
      ]

module _ {n t r : ℕ} {k : Tally} (m : Member) where
  -- told, the estimate is the message's value
  pub told_estimate : (rule : Rule) → Chosen n t r k rule → told k ≡ true → ((by_rule rule m k).decided ≡ m.round) × ((by_rule rule m k).estimate ≡ told_value k)
  unfolding by_rule
  told_estimate rule (by_message _) e = (refl, refl)
  told_estimate rule (by_zeros z _ _) e = absurd (true≢false cc)
  told_estimate rule (by_quiet z _ _ _) e = absurd (true≢false cc)
  told_estimate rule (by_count z _ _) e = absurd (true≢false cc)
  told_estimate rule (by_last z _) e = absurd (true≢false cc)
  told_estimate rule (by_none z _ _ _ _) e = absurd (true≢false cc)

  -- and else it is lowered
  pub untold_estimate : (rule : Rule) → Chosen n t r k rule → told k ≡ false → (by_rule rule m k).estimate ≡ lowered m.estimate k
  unfolding by_rule
  untold_estimate rule (by_message y) e = absurd (true≢false cc)
  untold_estimate rule (by_zeros _ _ _) e = refl
  untold_estimate rule (by_quiet _ _ _ _) e = refl
  untold_estimate rule (by_count _ _ _) e = refl
  untold_estimate rule (by_last _ _) e = refl
  untold_estimate rule (by_none _ _ _ _ _) e = refl
