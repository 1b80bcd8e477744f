-- The number that goes with each rule, from a row and its counts. Assumes nothing.
use mathlib.Core.Path.{◌≡◌, refl, ap, ◌∙◌}
use mathlib.Core.List.{List}
use Prim.Native.Nat.{ℕ, ◌+◌, ◌-◌}
use Rattle.member.specs.declared.Member.{Member}
use Rattle.member.specs.declared.Tally.{Tally}
use Rattle.member.specs.declared.Reason.{Reason}
use Rattle.member.specs.declared.Rule.{Rule}
use Rattle.member.specs.declared.Rule.TheVariants.{Told, ZerosOnly, Quiet, RoundT, LastRound, NoRule}
use Rattle.member.specs.Hearing.{tally_of}
use Rattle.member.specs.Reasons.{lowest_sender, rule_heard, rule_number, reason_heard}

module _ (n : ℕ) (row : List ℕ) {rule : Rule} where
  pub told_number : rule ≡ Told → {place : ℕ} → place ≡ lowest_sender row → place + 1 ≡ rule_number rule n row
  unfolding rule_number
  told_number e found = rw (e, found)

  module _ {k : Tally} (counted : k ≡ tally_of row) where
    pub quiet_number : rule ≡ Quiet → n - (k.zeros + k.ones) ≡ rule_number rule n row
    unfolding rule_number
    quiet_number e = rw (e, counted)

    pub count_number : rule ≡ RoundT → k.zeros + k.ones ≡ rule_number rule n row
    unfolding rule_number
    count_number e = rw (e, counted)

-- the rules that have none
pub no_number : (rule : Rule) (n : ℕ) (row : List ℕ) → (rule ≡ Told → ⊥) → (rule ≡ Quiet → ⊥) → (rule ≡ RoundT → ⊥) → 0 ≡ rule_number rule n row
unfolding rule_number
no_number Told n row p q r = absurd (p refl)
no_number ZerosOnly n row p q r = refl
no_number Quiet n row p q r = absurd (q refl)
no_number RoundT n row p q r = absurd (r refl)
no_number LastRound n row p q r = refl
no_number NoRule n row p q r = refl

-- a rule and its number are the reason
pub reason_is : (m : Member) (row : List ℕ) {k : Tally} → k ≡ tally_of row → {rule : Rule} {number : ℕ} → rule ≡ rule_heard m k → number ≡ rule_number rule m.n row
    → ◌≡◌ {A = Reason} (record { rule = rule; number = number }) (reason_heard m row)
reason_is m row counted {rule} {number} e f =
    let same : rule ≡ rule_heard m (tally_of row) = e ∙ ap (rule_heard m) counted in
    λ i. record { rule = same i; number = (f ∙ ap (λ (x : Rule). rule_number x m.n row) same) i }
