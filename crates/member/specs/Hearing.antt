-- What hearing a row does: first which rule is met, then what the state becomes, and who was silent.
use Rattle.std.specs.Prelude.{ℕ, ◌+◌, ◌-◌, List, Bool, cond, ◌&&◌, ◌||◌, not, length, get_or, ltb, leb, eqb}
use Rattle.laws.specs.Below.{bit, count}
use Rattle.sets.specs.Sets.{set_of}
use Rattle.member.specs.declared.Member.{Member}
use Rattle.member.specs.declared.Tally.{Tally}
use Rattle.member.specs.declared.Rule.{Rule}
use Rattle.member.specs.declared.Rule.TheVariants.{Told, ZerosOnly, Quiet, RoundT, LastRound, NoRule}
use Rattle.member.specs.State.{undecided}
use Rattle.member.specs.Saying.{estimate_code, decided_code}

-- The counts of a row.

-- how many codes of a row pass a test
unfoldable pub codes : (ℕ → Bool) → List ℕ → ℕ
codes test row = count (length row) (λ i. test (get_or row i 0))

-- zeros and ones are the estimates 0 and 1, aborts and commits the decided messages with 0 and 1, others what is no code
abbrev pub tally_of : List ℕ → Tally
tally_of row = record {
  zeros = codes (λ c. eqb c (estimate_code 0)) row;
  ones = codes (λ c. eqb c (estimate_code 1)) row;
  aborts = codes (λ c. eqb c (decided_code 0)) row;
  commits = codes (λ c. eqb c (decided_code 1)) row;
  others = codes (λ c. ltb 4 c) row;
}

-- whether a code is an estimate
abbrev pub is_estimate : ℕ → Bool
is_estimate c = eqb c (estimate_code 0) || eqb c (estimate_code 1)

-- how many estimates were heard
abbrev pub estimates : Tally → ℕ
estimates k = k.zeros + k.ones

-- "some code 3 or 4"
unfoldable pub told : Tally → Bool
told k = ltb 0 k.aborts || ltb 0 k.commits

-- "code 3 or 4 in rounds 1 and 2"
unfoldable pub told_early : ℕ → Tally → Bool
told_early r k = leb r 2 && told k

-- "both 3 and 4"
unfoldable pub told_both : Tally → Bool
told_both k = ltb 0 k.aborts && ltb 0 k.commits

-- The rules by which an undecided member decides in round r, from 2 on.

-- "r = 2 and all estimates heard are 0"
unfoldable pub zeros_only : ℕ → Tally → Bool
zeros_only r k = eqb r 2 && eqb k.ones 0

-- "r ≤ t − 1 and at most r − 2 processes sent no estimate"
unfoldable pub quiet : ℕ → ℕ → ℕ → Tally → Bool
quiet n t r k = leb r (t - 1) && leb (n - estimates k) (r - 2)

-- "r = t and at least n − t + 1 estimates"
unfoldable pub enough : ℕ → ℕ → ℕ → Tally → Bool
enough n t r k = eqb r t && leb (n - t + 1) (estimates k)

-- the first rule that is met, in document 01's order
unfoldable pub rule_met : ℕ → ℕ → ℕ → Tally → Rule
rule_met n t r k =
    cond (told k) Told
    (cond (zeros_only r k) ZerosOnly
    (cond (quiet n t r k) Quiet
    (cond (enough n t r k) RoundT
    (cond (eqb r (t + 1)) LastRound
    NoRule))))

-- What the state becomes.

-- "the round always grows by 1"; with this estimate and this decided round
abbrev pub moved : Member → ℕ → ℕ → Member
moved m estimate decided = record { n = m.n; t = m.t; id = m.id; round = m.round + 1; estimate = estimate; decided = decided; silent = m.silent }

-- "r = 1: fewer than n estimates, or any estimate 0, makes its estimate 0"
unfoldable pub first_estimate : ℕ → ℕ → Tally → ℕ
first_estimate n estimate k = cond (ltb (estimates k) n || ltb 0 k.zeros) 0 estimate

-- "any estimate 0 makes its estimate 0"
unfoldable pub lowered : ℕ → Tally → ℕ
lowered estimate k = cond (ltb 0 k.zeros) 0 estimate

-- "it takes that value": the one value that the decided messages of an accepted row hold, since number 17 rules out two
unfoldable pub told_value : Tally → ℕ
told_value k = cond (ltb 0 k.aborts) 0 1

-- by the rule that is met, from round 2 on
unfoldable pub by_rule : Rule → Member → Tally → Member
by_rule Told m k = moved m (told_value k) m.round
by_rule ZerosOnly m k = moved m (lowered m.estimate k) m.round
by_rule Quiet m k = moved m (lowered m.estimate k) m.round
by_rule RoundT m k = moved m (lowered m.estimate k) m.round
by_rule LastRound m k = moved m (lowered m.estimate k) m.round
by_rule NoRule m k = moved m (lowered m.estimate k) 0

-- by the counts of the row: "A decided member changes nothing else"
unfoldable pub becomes : Member → Tally → Member
becomes m k =
    cond (undecided m)
    (cond (eqb m.round 1)
    (moved m (first_estimate m.n m.estimate k) 0)
    (by_rule (rule_met m.n m.t m.round k) m k))
    (moved m m.estimate m.decided)

-- Who was silent.

-- "A row heard while undecided from round 2 on, without a decided message": whether a row with these counts sets the silent set
unfoldable pub sets_silent : Member → Tally → Bool
sets_silent m k = undecided m && (leb 2 m.round && not (told k))

-- "the processes that sent no estimate", as a set
abbrev pub silent_in : List ℕ → ℕ
silent_in row = set_of (length row) (λ j. bit (not (is_estimate (get_or row j 0))))

-- such a row "makes it the processes that sent no estimate. Every other row leaves it."
unfoldable pub silent_after : Member → List ℕ → ℕ
silent_after m row = cond (sets_silent m (tally_of row)) (silent_in row) m.silent

-- a state with another silent set
abbrev pub with_silent : Member → ℕ → Member
with_silent m set = record { n = m.n; t = m.t; id = m.id; round = m.round; estimate = m.estimate; decided = m.decided; silent = set }

abbrev pub hears : Member → List ℕ → Member
hears m row = with_silent (becomes m (tally_of row)) (silent_after m row)
