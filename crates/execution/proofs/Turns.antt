-- What an accepted call leaves is in range, so that its saying is not refused; and nobody says nothing. Assumes nothing.
use mathlib.Core.Path.{◌≡◌, refl, sym, ap, ◌∙◌}
use mathlib.Core.List.{List}
use mathlib.Core.Bool.{Bool, true}
use Prim.Native.Nat.{ℕ}
use Rattle.laws.specs.Test.{within}
use Rattle.laws.specs.Answer.{ask, accepted, place_after}
use Rattle.laws.proofs.Answer.{accepted_is, place_given}
use Rattle.member.specs.declared.Member.{Member}
use Rattle.member.specs.Opening.{open_question}
use Rattle.member.specs.State.{in_limits, in_range}
use Rattle.member.specs.Saying.{nothing, says}
use Rattle.member.specs.Questions.{say_question}
use Rattle.member.specs.Answers.{open_answer, hear_answer}
use Rattle.member.proofs.Promises.{opening_promises, hearing_promises}
use Rattle.sets.specs.Largest.{largest}
use Rattle.run.specs.Protocol.{nobody}
use Rattle.execution.specs.Calls.{calls}

pub in_range_says : (m : Member) → in_range largest m ≡ true → says m ≡ calls.says m
unfolding say_question ask
in_range_says m e = sym (place_given (say_question largest m) (says m) nothing (ap (λ (b : Bool). ask b 11 0) e))

pub nobody_says : nothing ≡ calls.says nobody
unfolding say_question ask within in_range in_limits open_question place_after
nobody_says = refl

pub opened_in_range : (n t id vote : ℕ) {m : Member} → accepted m ≡ open_answer largest n t id vote → in_range largest m ≡ true
unfolding open_answer
opened_in_range n t id vote e =
    let h = accepted_is _ _ tt e in
    ap (in_range largest) h.1 ∙ (opening_promises largest n t id vote).in_range h.0

pub heard_in_range : (m : Member) (row : List ℕ) {next : Member} → accepted next ≡ hear_answer largest m row → in_range largest next ≡ true
unfolding hear_answer
heard_in_range m row e =
    let h = accepted_is _ _ m e in
    ap (in_range largest) h.1 ∙ (hearing_promises largest m row).in_range h.0
