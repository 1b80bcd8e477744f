-- What holds of every member, whatever it is given: consequences of the definitions that the contracts cite, proved in proofs/Promises.antt.
use Rattle.std.specs.Prelude.{ℕ, ◌+◌, ◌-◌, ◌<◌, ◌≡◌, ◌≢◌, List, true, false, not, ◌&&◌, leb, get_or}
use Rattle.std.specs.Int.Count.{ones}
use Rattle.laws.specs.Answer.{accepted, refused}
use Rattle.sets.specs.Sets.{names}
use Rattle.member.specs.declared.Member.{Member}
use Rattle.member.specs.Opening.{opening, open_question}
use Rattle.member.specs.State.{in_range}
use Rattle.member.specs.Hearing.{tally_of, is_estimate, estimates, quiet, sets_silent, hears}
use Rattle.member.specs.declared.Rule.TheVariants.{NoRule}
use Rattle.member.specs.Reasons.{rule_heard}
use Rattle.member.specs.Questions.{hear_question}
use Rattle.member.specs.Answers.{hear_answer}

-- of every opening, for any limit
pub record OpeningPromises (limit n t id vote : ℕ) : Type 0 where
  -- an opening that is accepted is in range
  pub in_range : open_question limit n t id vote ≡ 0 → in_range limit (opening n t id vote) ≡ true

-- of every state and every row, for any limit
pub record HearingPromises (limit : ℕ) (m : Member) (row : List ℕ) : Type 0 where
  -- a refused hearing gives back its number and the state given
  pub refused_back : hear_question limit m row ≢ 0 → hear_answer limit m row ≡ refused (hear_question limit m row) m
  -- an accepted one gives the next state
  pub accepted_on : hear_question limit m row ≡ 0 → hear_answer limit m row ≡ accepted (hears m row)
  -- in it the round has grown by 1, and n, t and own number are the same
  pub round_grows : (hears m row).round ≡ m.round + 1
  pub n_kept : (hears m row).n ≡ m.n
  pub t_kept : (hears m row).t ≡ m.t
  pub id_kept : (hears m row).id ≡ m.id
  -- an accepted hearing leaves the member in range
  pub in_range : hear_question limit m row ≡ 0 → in_range limit (hears m row) ≡ true
  -- nobody is undecided after the row of round t + 1
  pub decided_last : hear_question limit m row ≡ 0 → m.round ≡ m.t + 1 → (hears m row).decided ≢ 0
  -- the estimate of a decided member never changes, nor does its decided round
  pub estimate_kept : m.decided ≢ 0 → (hears m row).estimate ≡ m.estimate
  pub decided_kept : m.decided ≢ 0 → (hears m row).decided ≡ m.decided
  -- an accepted row that sets the silent set makes it name just those of processes 1 to n that sent no estimate: as many as estimates are missing. So the
  -- quiet rule, "r ≤ t − 1 and at most r − 2 processes sent no estimate", asks for at most r − 2 in the set.
  pub silent_named : hear_question limit m row ≡ 0 → sets_silent m (tally_of row) ≡ true
      → (j : ℕ) → j < m.n → names (hears m row).silent j ≡ not (is_estimate (get_or row j 0))
  pub silent_count : hear_question limit m row ≡ 0 → sets_silent m (tally_of row) ≡ true → ones (hears m row).silent ≡ m.n - estimates (tally_of row)
  pub silent_quiet : hear_question limit m row ≡ 0 → sets_silent m (tally_of row) ≡ true
      → quiet m.n m.t m.round (tally_of row) ≡ leb m.round (m.t - 1) && leb (ones (hears m row).silent) (m.round - 2)
  -- and a row that does not set it leaves it as it was
  pub silent_kept : sets_silent m (tally_of row) ≡ false → (hears m row).silent ≡ m.silent

-- of the rule that a row meets, for every state and every row: a member decides by a row, in the round that it plays, exactly where a rule is met
pub record ReasonPromises (m : Member) (row : List ℕ) : Type 0 where
  pub decides : rule_heard m (tally_of row) ≢ NoRule → (m.decided ≡ 0) × ((hears m row).decided ≡ m.round)
  pub rests : rule_heard m (tally_of row) ≡ NoRule → (hears m row).decided ≡ m.decided
