-- Refusals by a question. Assumes nothing.
use mathlib.Core.Path.{◌≡◌, refl, sym, ap, ◌∙◌}
use mathlib.Core.Logic.{◌≢◌}
use Prim.Native.Nat.{ℕ, ◌<◌}
use native.Mathlib.Omega.{arith}
use Rattle.std.specs.Prelude.{Ok, Err, Result, is_ok}
use borrow.Author.Tests.{ne_eqb}
use lib.Dec.{eqb}
use Rattle.laws.specs.Answer.{accepted, refused, answer, and_then, place_after}
use Rattle.laws.specs.Question.{question_number, comes_to, answer_is}
use Rattle.laws.specs.declared.question.Question.{Question}
use Rattle.laws.specs.declared.question.Question.TheVariants.{Size, Crashable, Tables, Vote, CrashRound, Reach, Crashes, TextLength, LineForm, OwnNumber, State, Stopped, RowLength, Code, OwnCode, ToldEarly, ToldBoth, Room}
use Rattle.std.specs.Result.{result_unwrap_or}
use Rattle.laws.proofs.Answer.{and_then_ends, answer_accepted, answer_refused, accepted_is, refused_is, not_accepted, value_or, place_given, place_kept}

-- No question has the number 0, which stands for a yes to each.
pub is_number : (q : Question) → 0 < question_number q
is_number Size = omega arith
is_number Crashable = omega arith
is_number Tables = omega arith
is_number Vote = omega arith
is_number CrashRound = omega arith
is_number Reach = omega arith
is_number Crashes = omega arith
is_number TextLength = omega arith
is_number LineForm = omega arith
is_number OwnNumber = omega arith
is_number State = omega arith
is_number Stopped = omega arith
is_number RowLength = omega arith
is_number Code = omega arith
is_number OwnCode = omega arith
is_number ToldEarly = omega arith
is_number ToldBoth = omega arith
is_number Room = omega arith

pub not_zero : (q : Question) → question_number q ≢ 0
not_zero q z =
    let above : 0 < question_number q = is_number q in
    omega arith

-- A call that is refused by a question, where its questions come to that one's number.
pub is_refused : {A B : Type 0} (q : Question) (k : ℕ) (value : A) (back : B) → question_number q ≡ k → refused (question_number q) back ≡ answer k value back
is_refused q k value back e =
    ap (λ i. refused i back) e ∙ sym (answer_refused k value back (λ z. not_zero q (e ∙ z)))

-- A call whose questions come to what another call's came to: it is accepted where that one is, and refused with the same number.
pub is_accepted : {A B : Type 0} (k : ℕ) (value : A) (back : B) → 0 ≡ k → accepted value ≡ answer k value back
is_accepted k value back e = sym (answer_accepted k value back (sym e))

-- A row of questions that is refused by its first part has that part's number.
pub ended : (q : Question) (k others : ℕ) → question_number q ≡ k → question_number q ≡ and_then k others
ended q k others e = e ∙ sym (and_then_ends k others (λ z. not_zero q (e ∙ z)))

-- A call is accepted exactly where its questions come to 0.
pub passes : {A : Type 0} (r : Result A Question) → is_ok r ≡ eqb (comes_to r) 0
passes (Ok value) = refl
passes (Err question) =
    sym (ne_eqb (question_number question) 0 (not_zero question))

-- A call answers what its questions come to: the value that is due, or the number of the first no.
pub answer_due : {A : Type 0} (r : Result A Question) (k : ℕ) (value : A) → comes_to r ≡ k → ((x : A) → r ≡ Ok x → x ≡ value) → answer_is r ≡ answer k value tt
answer_due (Ok x) k value e same = ap (λ y. accepted y) (same x refl) ∙ is_accepted k value tt e
answer_due (Err question) k value e same = is_refused question k value tt e

-- What stands for a refused call's value is what stands in a place that such a call leaves as it was.
pub value_or_kept : {A : Type 0} (r : Result A Question) (k : ℕ) (value other : A) → answer_is r ≡ answer k value tt → result_unwrap_or r other ≡ place_after k value other
value_or_kept (Ok x) k value other e =
    let h = accepted_is k value tt e in
    h.1 ∙ sym (place_given k value other h.0)
value_or_kept (Err question) k value other e = sym (place_kept k value other (refused_is k value tt e).1)

-- A call whose answer is a value has that value.
pub ok_of : {A : Type 0} (r : Result A Question) {value : A} → answer_is r ≡ accepted value → r ≡ Ok value
ok_of (Ok x) e = ap (λ y. Ok y) (ap (value_or x) e)
ok_of (Err question) e = absurd (not_accepted e)
