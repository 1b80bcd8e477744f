-- The row of a process in its own round, as the code forms it, is the one that it heard in the run: the members stand as they did before that round, what
-- they say is what they said, and the row is delivered from it. No call of a member is refused in a run, so the member answers by which rule it decided.
-- Assumes nothing.
use mathlib.Core.Path.{◌≡◌, sym, ap, ap₂, ◌∙◌}
use mathlib.Core.List.{List, []}
use mathlib.Core.Bool.{true}
use Prim.Native.Nat.{ℕ, suc, ◌+◌, ◌<◌, min}
use native.Mathlib.Omega.{arith}
use lib.ListN.{get_or, take, replicate}
use Rattle.laws.specs.Answer.{Answer, accepted}
use Rattle.laws.specs.Filled.{Overwritten}
use Rattle.laws.proofs.Answer.{answer_accepted, place_given}
use Rattle.laws.proofs.Lists.{get_d_tabulate, tabulate_same}
use Rattle.laws.proofs.Overwritten.{over_at}
use Rattle.sets.specs.Largest.{largest, fitting}
use Rattle.member.specs.declared.Member.{Member}
use Rattle.member.specs.declared.Reason.{Reason}
use Rattle.member.specs.Saying.{nothing}
use Rattle.member.specs.Answers.{explain_answer}
use Rattle.schedule.specs.Schedule.{Schedule, crash_of, reach_of}
use Rattle.schedule.specs.Questions.{question, Accepted}
use Rattle.schedule.proofs.Accepted.{question_accepted}
use Rattle.run.specs.Protocol.{fcwfa, nobody}
use Rattle.run.specs.Run.{delivered, code_said, code_heard, row_of, state_at, states_after, after}
use Rattle.run.specs.Facts.{RunPromises}
use Rattle.run.specs.Why.{own_round, why_of}
use Rattle.run.proofs.Theorem.{accepted_run}
use Rattle.run.proofs.Why.{OwnHearing, own_hearing, why_is}
use Rattle.delivery.specs.Delivery.{Delivers}
use Rattle.execution.specs.Calls.{calls}
use Rattle.execution.specs.Ran.{members_after, ran_of}
use Rattle.execution.specs.declared.Ran.{Ran}
use Rattle.execution.proofs.OneRound.{row_at}
use Rattle.execution.proofs.Whole.{left_members}

-- Of an accepted schedule, the process at place i, and its own round, r + 1.
module _ (s : Schedule) (passed : question s largest true ≡ 0) (i : ℕ) (il : i < s.n) (r : ℕ) (own : own_round s i ≡ suc r) where
  accepts : Accepted s largest true
  accepts = question_accepted s largest true passed

  promises : RunPromises largest s
  promises = accepted_run s largest true passed

  hears_then : OwnHearing s i r
  hears_then = own_hearing s accepts.rules i il r own

  -- the rounds before it are rounds of the run, and leave its states
  pub left_before : (before : ℕ) {ran : Ran} → before ≡ r → accepted ran ≡ ran_of fcwfa largest s true (min before (s.t + 1)) → ran.members ≡ members_after fcwfa s r
  left_before before e left =
      let time = hears_then.time in
      left_members fcwfa s true (min before (s.t + 1)) left ∙ ap (members_after fcwfa s) {x = min before (s.t + 1)} {y = r} (omega arith)

  module _ {members : List Member} (left : members ≡ members_after fcwfa s r) where
    pub member_at : (j : ℕ) → j < s.n → state_at members j ≡ after fcwfa s r j
    unfolding after
    member_at j l =
        let n_high = accepts.n_high in
        ap (λ (states : List Member). state_at states j) left ∙ get_d_tabulate largest (state_at (states_after fcwfa s r)) j nobody (omega arith)

    -- what a member says is not refused
    says_same : (j : ℕ) → j < s.n → code_said calls members j ≡ code_said fcwfa (states_after fcwfa s r) j
    unfolding after
    says_same j l =
        let time = hears_then.time in
        ap calls.says (member_at j l)
        ∙ place_given _ (fcwfa.says (after fcwfa s r j)) nothing (promises.none_refused.says r j (omega arith) l)

    -- the row that is delivered from what they say
    module _ {codes : List ℕ} (said : Overwritten largest (code_said calls members) (replicate largest 0) codes) {grid grid_now : List (List ℕ)} {round : ℕ}
        (in_round : round ≡ suc r) (sent : Delivers (fitting s.n) round (λ j. get_or codes j 0) s.crashes s.reaches grid grid_now) where
      fits : fitting s.n ≡ s.n
      fits = let n_high = accepts.n_high in omega arith

      own_row : take s.n (get_or grid_now i []) ≡ row_of fcwfa s (suc r) (states_after fcwfa s r) i
      unfolding row_of code_heard
      own_row =
          let n_high = accepts.n_high in
          row_at fcwfa s.n (suc r) (λ j. get_or codes j 0) s.crashes s.reaches (rw (in_round, fits) at sent) i il
          ∙ tabulate_same s.n _ _ (λ j l. ap (delivered (suc r) i (crash_of s j) (reach_of s j)) (over_at said j 0 (omega arith) ∙ says_same j l))

      -- so the member explains it
      pub own_explained : {why : Answer Reason (Unit {0})} {m : Member} {row : List ℕ} → m ≡ state_at members i → row ≡ take s.n (get_or grid_now i [])
          → why ≡ explain_answer largest m row → why ≡ accepted (why_of s i)
      unfolding explain_answer
      own_explained same at e =
          let h = hears_then in
          let not-refused = promises.none_refused.hears r i h.time h.completes h.runs in
          e
          ∙ ap₂ (explain_answer largest) (same ∙ member_at i il) (at ∙ own_row)
          ∙ answer_accepted _ _ tt not-refused
          ∙ ap (λ (x : Reason). accepted x) (sym (why_is s accepts.rules i il r own))
