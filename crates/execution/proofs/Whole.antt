-- The whole call: what the rounds of an accepted schedule leave. Assumes nothing.
use mathlib.Core.Path.{◌≡◌, ap, ◌∙◌}
use mathlib.Core.List.{List}
use mathlib.Core.Bool.{Bool}
use Prim.Native.Nat.{ℕ, ◌+◌, ◌<◌, min}
use native.Mathlib.Omega.{arith}
use Rattle.laws.proofs.Lists.{get_d_tabulate}
use Rattle.laws.specs.Answer.{accepted}
use Rattle.laws.proofs.Answer.{accepted_is}
use Rattle.laws.proofs.Refusals.{is_accepted}
use Rattle.member.specs.declared.Member.{Member}
use Rattle.sets.specs.Largest.{largest}
use Rattle.schedule.specs.Schedule.{Schedule}
use Rattle.schedule.specs.Questions.{question}
use Rattle.schedule.proofs.Accepted.{question_accepted}
use Rattle.run.specs.Protocol.{Protocol, nobody}
use Rattle.run.specs.Run.{state_at, final}
use Rattle.execution.specs.declared.Ran.{Ran}
use Rattle.execution.specs.Ran.{members_after, messages_after, Plays, ran_of}

-- What the code leaves for an accepted schedule after r rounds.
pub accepted_leaves : (P : Protocol) (s : Schedule) (answers : Bool) (r : ℕ) → 0 ≡ question s largest answers → (left : Ran) → Plays P s r left.members left.messages
    → accepted left ≡ ran_of P largest s answers r
accepted_leaves P s answers r passed left plays =
    ap accepted (λ i. record { members = plays.states i; messages = plays.counted i }) ∙ is_accepted _ _ tt passed

-- What the rounds of an accepted schedule leave, from the answer of the call.
module _ (P : Protocol) (s : Schedule) (answers : Bool) (r : ℕ) {ran : Ran} (left : accepted ran ≡ ran_of P largest s answers r) where
  pub passed : question s largest answers ≡ 0
  passed = (accepted_is _ _ tt left).0

  pub left_members : ran.members ≡ members_after P s r
  left_members = ap (λ (x : Ran). x.members) (accepted_is _ _ tt left).1

  pub left_messages : ran.messages ≡ messages_after P s r
  left_messages = ap (λ (x : Ran). x.messages) (accepted_is _ _ tt left).1

module _ (P : Protocol) (s : Schedule) (answers : Bool) (passed : question s largest answers ≡ 0) where
  -- all rounds are those of the run: t is below n, and n at most the largest
  pub all_rounds : min largest (s.t + 1) ≡ s.t + 1
  all_rounds =
      let a = question_accepted s largest answers passed in
      let n_high = a.n_high in
      let t_high = a.rules.t_high in
      omega arith

  -- they leave the states at the end of the run
  pub final_at : {ran : Ran} → accepted ran ≡ ran_of P largest s answers (min largest (s.t + 1)) → (i : ℕ) → i < s.n → state_at ran.members i ≡ state_at (final P s) i
  unfolding final
  final_at left i l =
      let n_high = (question_accepted s largest answers passed).n_high in
      ap (λ (states : List Member). state_at states i) (left_members P s answers (min largest (s.t + 1)) left ∙ ap (members_after P s) all_rounds)
      ∙ get_d_tabulate largest (state_at (final P s)) i nobody (omega arith)
