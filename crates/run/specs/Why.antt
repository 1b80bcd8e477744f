-- Why a process of a run decided, or why it did not (document 02, K9), under FCWFA. Proved in proofs/Why.antt:
-- `why_promises : (s : Schedule) → Rules s → (i : ℕ) → i < s.n → WhyPromises s i (why_of s i)`. Assumes nothing.
use Rattle.std.specs.Prelude.{ℕ, ◌+◌, ◌-◌, ◌≤◌, ◌<◌, ◌≡◌, ◌≢◌, List, false, cond, not, eqb}
use Rattle.laws.specs.Below.{count}
use Rattle.member.specs.declared.Member.{Member}
use Rattle.member.specs.declared.Rule.{Rule}
use Rattle.member.specs.declared.Rule.TheVariants.{Told, ZerosOnly, Quiet, RoundT, LastRound, NoRule}
use Rattle.member.specs.declared.Reason.{Reason}
use Rattle.member.specs.Saying.{estimate_code, decided_code}
use Rattle.member.specs.Hearing.{is_estimate}
use Rattle.member.specs.Reasons.{is_decision, reason_heard}
use Rattle.schedule.specs.Schedule.{Schedule, crash_of}
use Rattle.run.specs.Protocol.{fcwfa}
use Rattle.run.specs.Run.{states_after, after, final, code_heard, row_of}
use Rattle.run.specs.Report.{round_of}
use Rattle.run.specs.Demand.{Decides}

module _ (s : Schedule) (i : ℕ) where
  -- "that process's own round": the one in which it decided, 0 if it did not
  abbrev pub own_round : ℕ
  own_round = round_of (final fcwfa s) i

  -- its state at the start of that round
  abbrev pub own_state : Member
  own_state = after fcwfa s (own_round - 1) i

  -- "the row that it heard there"
  abbrev pub own_row : List ℕ
  own_row = row_of fcwfa s own_round (states_after fcwfa s (own_round - 1)) i

  -- "the tool names the rule that decided it", by its own row; "A process without a decision gets its crash round.", and no rule
  unfoldable pub why_of : Reason
  why_of = cond (eqb own_round 0) (record { rule = NoRule; number = crash_of s i }) (reason_heard own_state own_row)

  -- What a rule says that is named with a number: of process i, which decides v in round d.
  module _ (v d number : ℕ) where
    -- what process i heard from j in round d
    abbrev pub heard_of : ℕ → ℕ
    heard_of j = code_heard fcwfa s d (states_after fcwfa s (d - 1)) i j

    -- "a decided message with the lowest sender"
    pub record ByMessage : Type 0 where
      pub sender : ℕ
      pub numbered : number ≡ sender + 1
      pub another : sender ≢ i
      -- it decided in the round before, and the same value
      pub decided_before : Decides fcwfa s sender v (d - 1)
      -- its message was heard, and no decided message of a lower number
      pub message : heard_of sender ≡ decided_code v
      pub lowest : (j : ℕ) → j < sender → is_decision (heard_of j) ≡ false

    -- by the other rules no decided message was heard
    abbrev pub Untold : Type 0
    Untold = (j : ℕ) → j < s.n → is_decision (heard_of j) ≡ false

    -- "round 2 with zeros only"; so 0 is decided
    pub record ByZeros : Type 0 where
      pub untold : Untold
      pub in_round_2 : d ≡ 2
      pub zeros_only : (j : ℕ) → j < s.n → heard_of j ≢ estimate_code 1
      pub decides_0 : v ≡ 0
      pub no_number : number ≡ 0

    -- "a quiet round with its number of missing estimates": one of rounds up to t − 1 with at most d − 2 missing. In round 2 it is not named with zeros only.
    -- And no fewer are missing: by the crashes so far, the process would have decided sooner.
    pub record ByQuiet : Type 0 where
      pub untold : Untold
      pub not_zeros_only : d ≡ 2 → (j : ℕ) × (j < s.n) × (heard_of j ≡ estimate_code 1)
      pub early : d ≤ s.t - 1
      pub missing : number ≡ count s.n (λ j. not (is_estimate (heard_of j)))
      pub few : number ≤ d - 2
      pub no_fewer : d - 2 ≤ number

    -- "round t with its number of estimates": at least n − t + 1, and for the same reason at most one more
    pub record ByCount : Type 0 where
      pub untold : Untold
      pub in_round_t : d ≡ s.t
      pub estimates : number ≡ count s.n (λ j. is_estimate (heard_of j))
      pub many : s.n - s.t + 1 ≤ number
      pub no_more : number ≤ s.n - s.t + 2

    -- "or the last round"
    pub record ByLast : Type 0 where
      pub untold : Untold
      pub in_last : d ≡ s.t + 1
      pub no_number : number ≡ 0

    -- each rule; one that decides is never none
    abbrev pub RuleSays : Rule → Type 0
    RuleSays Told = ByMessage
    RuleSays ZerosOnly = ByZeros
    RuleSays Quiet = ByQuiet
    RuleSays RoundT = ByCount
    RuleSays LastRound = ByLast
    RuleSays NoRule = ⊥

  -- "A process without a decision gets its crash round.": it has one
  pub record ByCrash (why : Reason) : Type 0 where
    pub no_rule : why.rule ≡ NoRule
    pub crash_round : why.number ≡ crash_of s i
    pub crashes : crash_of s i ≢ 0

  -- What is promised of the reason that is given for process i.
  pub record WhyPromises (why : Reason) : Type 0 where
    -- one that decides is given a rule that was met in its own round, and that rule's number
    pub decided : (v d : ℕ) → Decides fcwfa s i v d → RuleSays v d why.number why.rule
    -- and one that does not the round of its crash
    pub undecided : own_round ≡ 0 → ByCrash why
