-- What a saying tells of the state; and what hearing answers once the questions about the state are passed: it goes by those about the row.
-- Assumes nothing.
use mathlib.Core.Path.{◌≡◌, sym, ◌∙◌, ap, ap₂}
use mathlib.Core.Logic.{inl, inr}
use mathlib.Core.List.{List}
use mathlib.Core.Bool.{true, false, not}
use Prim.Native.Nat.{ℕ, ◌-◌}
use native.Mathlib.Omega.{arith}
use borrow.Author.Tests.{eqb-true, eq-eqb}
use lib.Dec.{eqb}
use lib.ListN.{length, get_or}
use Rattle.laws.specs.Answer.{ask, accepted, refused, answer}
use Rattle.laws.proofs.Test.{true_or_false}
use Rattle.laws.proofs.Answer.{passed, refused_is, value_or, not_accepted}
use Rattle.laws.proofs.Refusals.{is_accepted}
use Rattle.member.specs.declared.Member.{Member}
use Rattle.member.specs.declared.Tally.{Tally}
use Rattle.member.specs.State.{in_range, stopped}
use Rattle.member.specs.Saying.{says}
use Rattle.member.specs.Hearing.{tally_of, becomes, silent_after, with_silent, hears}
use Rattle.hearing.specs.declared.heard.HeardRow.{HeardRow}
use Rattle.member.specs.Questions.{say_question, row_question, hear_question}
use Rattle.member.specs.Answers.{say_answer, hear_answer}

-- A saying is refused only where the state is not in range; any other tells that it is, and the code.
module _ (limit : ℕ) (m : Member) {x : ℕ} where
  pub say_refused : refused x tt ≡ say_answer limit m → in_range limit m ≡ false
  unfolding say_answer say_question ask answer
  say_refused e = elim (true_or_false (in_range limit m)) [ inl y ↦ absurd (not_accepted (rw y at e)) | inr n ↦ n ]

  -- so where a saying is refused hearing is, by the same question
  pub say_first : (row : List ℕ) → refused x tt ≡ say_answer limit m → x ≡ hear_question limit m row
  unfolding say_answer say_question hear_question ask
  say_first row e =
      let n = say_refused e in
      rw n (simp n at ((refused_is _ _ _ e).0))

  pub say_in_range : accepted x ≡ say_answer limit m → in_range limit m ≡ true
  unfolding say_answer say_question ask answer
  say_in_range e = elim (true_or_false (in_range limit m)) [ inl y ↦ y | inr n ↦ absurd (not_accepted (sym (rw n at e))) ]

  pub say_code : accepted x ≡ say_answer limit m → says m ≡ x
  unfolding say_answer say_question ask answer
  say_code e = sym (ap (value_or x) (rw (say_in_range e) at e))

-- a row that is accepted holds nothing but codes
pub all_codes : (limit : ℕ) (m : Member) (row : List ℕ) → hear_question limit m row ≡ 0 → (k : Tally) → k ≡ tally_of row → k.others ≡ 0
unfolding hear_question row_question
all_codes limit m row e k counted =
    let p1 = passed (in_range limit m) 11 _ (omega arith) e in
    let p2 = passed (not (stopped m)) 12 _ (omega arith) p1.1 in
    let p3 = passed (eqb (length row) m.n) 13 _ (omega arith) p2.1 in
    let p4 = passed (eqb (tally_of row).others 0) 14 _ (omega arith) p3.1 in
    ap (λ (x : Tally). x.others) counted ∙ eqb-true (tally_of row).others 0 p4.0

-- and its member is in range
pub heard_in_range : (limit : ℕ) (m : Member) (row : List ℕ) → hear_question limit m row ≡ 0 → in_range limit m ≡ true
unfolding hear_question
heard_in_range limit m row e = (passed (in_range limit m) 11 _ (omega arith) e).0

-- Past the questions about the state, hearing asks those about the row.
pub asks_row : (limit : ℕ) (m : Member) (row : List ℕ) → in_range limit m ≡ true → stopped m ≡ false → length row ≡ m.n → (k : Tally) → k ≡ tally_of row
    → hear_question limit m row ≡ row_question m (get_or row (m.id - 1) 0) k
unfolding hear_question ask
asks_row limit m row r s l k counted = rw (r, s, eq-eqb (length row) m.n l, counted)

-- what hearing an accepted row answers
pub row_accepted : (limit : ℕ) (m : Member) (row : List ℕ) → 0 ≡ hear_question limit m row → (h : HeardRow) → (h.member ≡ m) × (h.row.now ≡ row)
    → (next : Member) (set : ℕ) → next ≡ becomes h.member h.counts → set ≡ silent_after h.member h.row.now → (x : Member) → x ≡ with_silent next set → accepted x ≡ hear_answer limit m row
unfolding hear_answer
row_accepted limit m row z h same next set e f x g =
    let moved : next ≡ becomes h.member (tally_of h.row.now) = e ∙ ap (becomes h.member) h.counted in
    let whole : x ≡ hears h.member h.row.now = g ∙ ap₂ with_silent moved f in
    ap accepted (whole ∙ ap₂ hears same.0 same.1) ∙ is_accepted _ (hears m row) m z
