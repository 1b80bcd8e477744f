-- The rules by which a member decides that was told nothing. Assumes nothing.
use mathlib.Core.Path.{◌≡◌, refl}
use Rattle.member.specs.declared.Member.{Member}
use Rattle.member.specs.declared.Tally.{Tally}
use Rattle.member.specs.declared.Rule.{Rule}
use Rattle.member.specs.declared.Rule.TheVariants.{Told, ZerosOnly, Quiet, RoundT, LastRound, NoRule}
use Rattle.member.specs.Hearing.{moved, lowered, by_rule}

-- the four rules between the first and none
pub by_other : (rule : Rule) (m : Member) (k : Tally) → (rule ≡ Told → ⊥) → (rule ≡ NoRule → ⊥) → by_rule rule m k ≡ moved m (lowered m.estimate k) m.round
unfolding by_rule
by_other Told m k p q = absurd (p refl)
by_other ZerosOnly m k p q = refl
by_other Quiet m k p q = refl
by_other RoundT m k p q = refl
by_other LastRound m k p q = refl
by_other NoRule m k p q = absurd (q refl)
