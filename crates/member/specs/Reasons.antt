-- Why a member decides by the row that it hears (document 02, K9): the rule that is met, and the number that goes with it.
use Rattle.std.specs.Prelude.{ℕ, ◌+◌, ◌-◌, List, Bool, cond, ◌||◌, length, get_or, eqb}
use Rattle.laws.specs.Below.{least}
use Rattle.member.specs.declared.Member.{Member}
use Rattle.member.specs.declared.Tally.{Tally}
use Rattle.member.specs.declared.Rule.{Rule}
use Rattle.member.specs.declared.Rule.TheVariants.{Told, ZerosOnly, Quiet, RoundT, LastRound, NoRule}
use Rattle.member.specs.declared.Reason.{Reason}
use Rattle.member.specs.State.{undecided}
use Rattle.member.specs.Saying.{decided_code}
use Rattle.member.specs.Hearing.{tally_of, estimates, rule_met}

-- whether a code is a decided message
abbrev pub is_decision : ℕ → Bool
is_decision c = eqb c (decided_code 0) || eqb c (decided_code 1)

-- "a decided message with the lowest sender": the place of the first decided message of a row, the row's length if there is none
unfoldable pub lowest_sender : List ℕ → ℕ
lowest_sender row = least (length row) (λ j. is_decision (get_or row j 0))

-- "The rule named is the first in 01's order that was met": by a row with these counts. A decided member and one in round 1 meet none.
unfoldable pub rule_heard : Member → Tally → Rule
rule_heard m k = cond (undecided m) (cond (eqb m.round 1) NoRule (rule_met m.n m.t m.round k)) NoRule

-- The number of a rule among n processes, from the row: the sender's process number, "a quiet round with its number of missing estimates, round t with
-- its number of estimates"; the others have none, and 0 stands for it.
unfoldable pub rule_number : Rule → ℕ → List ℕ → ℕ
rule_number Told n row = lowest_sender row + 1
rule_number ZerosOnly n row = 0
rule_number Quiet n row = n - estimates (tally_of row)
rule_number RoundT n row = estimates (tally_of row)
rule_number LastRound n row = 0
rule_number NoRule n row = 0

-- "and the numbers are those of the row that it heard there"
abbrev pub reason_heard : Member → List ℕ → Reason
reason_heard m row = record { rule = rule_heard m (tally_of row); number = rule_number (rule_heard m (tally_of row)) m.n row }
