-- Questions that were passed, and the answer that follows. Assumes nothing.
use mathlib.Core.Path.{◌≡◌, refl, sym, ap, ◌∙◌}
use mathlib.Core.Logic.{◌⊎◌, inl, inr, ◌≢◌}
use mathlib.Core.Bool.{Bool, true, false, false≢true}
use Prim.Native.Nat.{ℕ, zero, suc, ◌+◌, ◌<◌}
use native.Mathlib.Nat.{not-suc-le-zero}
use native.Mathlib.Numerals.{add-one}
use native.Mathlib.Omega.{arith}
use borrow.Author.Count.{below_none}
use borrow.Author.Tests.{eqb-true, eqb-false, eq-eqb, ne_eqb}
use lib.Dec.{eqb}
use Rattle.laws.specs.Below.{fold}
use Rattle.laws.specs.Answer.{ask, and_then, ask_each, Answer, accepted, refused, answer, place_after, and_next, next_each}
use Rattle.laws.proofs.Test.{true_or_false, cond_true, cond_false}
use Rattle.laws.proofs.Counting.{Some, split, below_or_top}

-- Where a row of questions comes to m and the first has another number, that one is answered by yes, and the others come to m.
pub went_on : (b : Bool) (k others m : ℕ) → k ≢ m → ask b k others ≡ m → (b ≡ true) × (others ≡ m)
unfolding ask
went_on true k others m h e = (refl, e)
went_on false k others m h e = absurd (h e)

-- So where it comes to 0, the first is answered by yes, and the others come to 0.
pub passed : (b : Bool) (k others : ℕ) → 0 < k → ask b k others ≡ 0 → (b ≡ true) × (others ≡ 0)
passed b k others h e = went_on b k others 0 (λ z. omega arith) e

-- Where the first doesn't come to 0 they come to what it comes to, and else to what the second does.
pub and_then_ends : (q others : ℕ) → q ≢ 0 → and_then q others ≡ q
unfolding and_then
and_then_ends q others h = cond_false (eqb q 0) others q (ne_eqb q 0 h)

pub and_then_goes_on : (q others : ℕ) → q ≡ 0 → and_then q others ≡ others
unfolding and_then
and_then_goes_on q others z = cond_true (eqb q 0) others q (eq-eqb q 0 z)

-- Where two rows of questions, one after the other, come to m, and the first is passed if it comes to m, it is passed, and the second comes to m.
pub and_then_went_on : (q others m : ℕ) → (q ≡ m → q ≡ 0) → and_then q others ≡ m → (q ≡ 0) × (others ≡ m)
unfolding and_then
and_then_went_on q others m h e =
    elim (true_or_false (eqb q 0)) [
      | inl z ↦ (eqb-true q 0 z, sym (cond_true (eqb q 0) others q z) ∙ e)
      | inr z ↦ absurd (eqb-false q 0 z (h (sym (cond_false (eqb q 0) others q z) ∙ e)))
    ]

-- So where they come to 0, each does; and the other way.
and_then_passed : (q others : ℕ) → and_then q others ≡ 0 → (q ≡ 0) × (others ≡ 0)
and_then_passed q others e = and_then_went_on q others 0 (λ z. z) e

pub and_then_passes : (q others : ℕ) → q ≡ 0 → others ≡ 0 → and_then q others ≡ 0
and_then_passes q others a b = and_then_goes_on q others a ∙ b

-- One row more, as a loop that asks them in turn comes to it.
pub ask_each_step : (i : ℕ) (q : ℕ → ℕ) → ask_each (i + 1) q ≡ and_then (ask_each i q) (q i)
unfolding ask_each fold
ask_each_step i q = ap (λ (n : ℕ). ask_each n q) (add-one i)

-- Where the rows q 0, .., q (n - 1) come to 0 one after the other, each does; and the other way.
pub ask_each_passed : (n : ℕ) (q : ℕ → ℕ) → ask_each n q ≡ 0 → (i : ℕ) → i < n → q i ≡ 0
unfolding ask_each fold
ask_each_passed zero q e = below_none (λ i. q i ≡ 0)
ask_each_passed (suc n) q e =
    let p = and_then_passed (ask_each n q) (q n) e in
    below_or_top (λ i. q i ≡ 0) n (ask_each_passed n q p.0) p.1

pub ask_each_passes : (n : ℕ) (q : ℕ → ℕ) → ((i : ℕ) → i < n → q i ≡ 0) → ask_each n q ≡ 0
unfolding ask_each fold
ask_each_passes zero q h = refl
ask_each_passes (suc n) q h = and_then_passes (ask_each n q) (q n) (ask_each_passes n q (λ i l. h i (omega arith))) (h n (omega arith))

-- Rows of which none comes to a number other than 0 do not come to it one after the other.
pub ask_each_never : (n : ℕ) (q : ℕ → ℕ) (m : ℕ) → m ≢ 0 → ((i : ℕ) → q i ≢ m) → ask_each n q ≢ m
unfolding ask_each fold
ask_each_never zero q m h never e = h (sym e)
ask_each_never (suc n) q m h never e =
    let before : ask_each n q ≢ m = ask_each_never n q m h never in
    never n (and_then_went_on (ask_each n q) (q n) m (λ z. absurd (before z)) e).1

-- Rows of which the first that doesn't come to 0 is row i come to what it comes to.
pub ask_each_refused : (n : ℕ) (q : ℕ → ℕ) (m : ℕ) → m ≢ 0 → (i : ℕ) → i < n → 0 ≡ ask_each i q → m ≡ q i → m ≡ ask_each n q
unfolding ask_each fold
ask_each_refused zero q m h = below_none (λ i. 0 ≡ ask_each i q → m ≡ q i → m ≡ ask_each zero q)
ask_each_refused (suc n) q m h =
    below_or_top (λ i. 0 ≡ ask_each i q → m ≡ q i → m ≡ and_then (ask_each n q) (q n)) n
    (λ i l z e. let before = ask_each_refused n q m h i l z e in before ∙ sym (and_then_ends (ask_each n q) (q n) (λ w. h (before ∙ w))))
    (λ z e. e ∙ sym (and_then_goes_on (ask_each n q) (q n) (sym z)))

module _ {A B : Type 0} where
  pub answer_accepted : (q : ℕ) (value : A) (back : B) → q ≡ 0 → answer q value back ≡ accepted value
  unfolding answer
  answer_accepted q value back e = rw (eq-eqb q 0 e)

  pub answer_refused : (q : ℕ) (value : A) (back : B) → (q ≡ 0 → ⊥) → answer q value back ≡ refused q back
  unfolding answer
  answer_refused q value back e = rw (ne_eqb q 0 e)

  -- the value of an answer, or x where it is a refusal
  abbrev pub value_or : A → Answer A B → A
  value_or x (accepted value) = value
  value_or x (refused number back) = x

  -- a call whose questions come to 0 answers its value: whatever x is, it is not that of a refusal
  pub answered : (q : ℕ) (value : A) (back : B) → q ≡ 0 → (x : A) {a : Answer A B} → a ≡ answer q value back → value_or x a ≡ value
  answered q value back z x e = ap (value_or x) (e ∙ answer_accepted q value back z)

  -- a refusal is no accepted answer
  pub not_accepted : {number : ℕ} {back : B} {value : A} → refused number back ≡ accepted value → ⊥
  not_accepted e = false≢true (ap is_accepted e)
    where
      is_accepted : Answer A B → Bool
      is_accepted (accepted value) = true
      is_accepted (refused number back) = false

  -- an accepted answer is that of a call whose questions come to 0, and a refused one has the number that they come to
  pub accepted_is : (q : ℕ) (value : A) (back : B) {x : A} → accepted x ≡ answer q value back → (q ≡ 0) × (x ≡ value)
  accepted_is q value back {x} e =
      elim (true_or_false (eqb q 0)) [
        | inl z ↦ (eqb-true q 0 z, ap (value_or x) (e ∙ answer_accepted q value back (eqb-true q 0 z)))
        | inr z ↦ absurd (not_accepted (sym (e ∙ answer_refused q value back (eqb-false q 0 z))))
      ]

  pub refused_is : (q : ℕ) (value : A) (back : B) {k : ℕ} {b : B} → refused k b ≡ answer q value back → (k ≡ q) × (q ≡ 0 → ⊥)
  refused_is q value back {k} e =
      elim (true_or_false (eqb q 0)) [
        | inl z ↦ absurd (not_accepted (e ∙ answer_accepted q value back (eqb-true q 0 z)))
        | inr z ↦ (ap (number_or k) (e ∙ answer_refused q value back (eqb-false q 0 z)), eqb-false q 0 z)
      ]
    where
      -- the number of a refusal, or x where it is accepted
      number_or : ℕ → Answer A B → ℕ
      number_or x (accepted value) = x
      number_or x (refused number back) = number

-- A lent place after a call that is accepted, and after one that is refused.
module _ {A : Type 0} where
  pub place_given : (q : ℕ) (given lent : A) → q ≡ 0 → place_after q given lent ≡ given
  unfolding place_after
  place_given q given lent e = rw (eq-eqb q 0 e)

  pub place_kept : (q : ℕ) (given lent : A) → (q ≡ 0 → ⊥) → place_after q given lent ≡ lent
  unfolding place_after
  place_kept q given lent e = rw (ne_eqb q 0 e)

  -- where the same is given as stood there, it stands there
  pub place_same : (q : ℕ) (x : A) → place_after q x x ≡ x
  place_same q x = elim (true_or_false (eqb q 0)) [ inl e ↦ place_given q x x (eqb-true q 0 e) | inr e ↦ place_kept q x x (eqb-false q 0 e) ]

-- A call whose questions come to q, and what it leaves in a lent place for its value: the number and the place by its answer.
module _ {A B C : Type 0} (q : ℕ) (value : A) (back : B) (entered : A → C) (lent : C) where
  pub answer_given : {x : A} → accepted x ≡ answer q value back → (0 ≡ q) × (entered x ≡ place_after q (entered value) lent)
  answer_given e = let z = accepted_is q value back e in (sym z.0, ap entered z.1 ∙ sym (place_given q _ lent z.0))

  pub answer_kept : {k : ℕ} {b : B} → refused k b ≡ answer q value back → (k ≡ q) × (lent ≡ place_after q (entered value) lent)
  answer_kept e = let z = refused_is q value back e in (z.0, sym (place_kept q (entered value) lent z.1))

-- Rows of questions that give something back with their first no, one after the other.
module _ {B : Type 0} where
  module _ {A : Type 0} where
    pub and_next_passes : (p : Answer (Unit {0}) B) (others : Answer A B) → p ≡ accepted tt → and_next p others ≡ others
    unfolding and_next
    and_next_passes p others e = rw e

    pub and_next_refused : (p : Answer (Unit {0}) B) (others : Answer A B) (number : ℕ) (back : B) → p ≡ refused number back → and_next p others ≡ refused number back
    unfolding and_next
    and_next_refused p others number back e = rw e

    pub and_next_assoc : (p q : Answer (Unit {0}) B) (others : Answer A B) → and_next (and_next p q) others ≡ and_next p (and_next q others)
    unfolding and_next
    and_next_assoc (accepted _) q others = refl
    and_next_assoc (refused number back) q others = refl

    -- two rows that end in an answer were both passed
    pub and_next_accepted : (p : Answer (Unit {0}) B) (others : Answer A B) (value : A) → and_next p others ≡ accepted value → (p ≡ accepted tt) × (others ≡ accepted value)
    unfolding and_next
    and_next_accepted (accepted _) others value e = (refl, e)
    and_next_accepted (refused number back) others value e = absurd (not_accepted e)

    -- of two rows that end in a refusal, one refused
    pub and_next_either : (p : Answer (Unit {0}) B) (others : Answer A B) (number : ℕ) (back : B) → and_next p others ≡ refused number back
        → (p ≡ refused number back) ⊎ (others ≡ refused number back)
    unfolding and_next
    and_next_either (accepted _) others number back e = inr e
    and_next_either (refused m b) others number back e = inl (ap refusal e)
      where
        -- the same refusal, of a row of questions
        refusal : Answer A B → Answer (Unit {0}) B
        refusal (accepted value) = accepted tt
        refusal (refused number back) = refused number back

  pub next_each_passes : (n : ℕ) (q : ℕ → Answer (Unit {0}) B) → ((i : ℕ) → i < n → q i ≡ accepted tt) → next_each n q ≡ accepted tt
  unfolding next_each fold
  next_each_passes zero q h = refl
  next_each_passes (suc n) q h = and_next_passes (next_each n q) (q n) (next_each_passes n q (λ i l. h i (omega arith))) ∙ h n (omega arith)

  pub next_each_passed : (n : ℕ) (q : ℕ → Answer (Unit {0}) B) → next_each n q ≡ accepted tt → (i : ℕ) → i < n → q i ≡ accepted tt
  unfolding next_each fold
  next_each_passed zero q e = below_none (λ i. q i ≡ accepted tt)
  next_each_passed (suc n) q e =
      let p = and_next_accepted (next_each n q) (q n) tt e in
      below_or_top (λ i. q i ≡ accepted tt) n (next_each_passed n q p.0) p.1

  -- the first row that refuses is the answer of all
  pub next_each_refused : (n : ℕ) (q : ℕ → Answer (Unit {0}) B) (i number : ℕ) (back : B) → i < n → ((k : ℕ) → k < i → q k ≡ accepted tt)
      → q i ≡ refused number back → next_each n q ≡ refused number back
  unfolding next_each fold
  next_each_refused zero q i number back l h e = absurd (not-suc-le-zero l)
  next_each_refused (suc n) q i number back l h e =
      elim (split n i) [
        | inl a ↦
            let at_n : i ≡ n = omega arith in
            and_next_passes (next_each n q) (q n) (next_each_passes n q (λ k b. h k (omega arith))) ∙ ap q (sym at_n) ∙ e
        | inr a ↦ and_next_refused (next_each n q) (q n) number back (next_each_refused n q i number back a h e)
      ]

  -- and where all end in a refusal, it is that of one of them
  pub next_each_some : (n : ℕ) (q : ℕ → Answer (Unit {0}) B) (number : ℕ) (back : B) → next_each n q ≡ refused number back → Some n (λ i. q i ≡ refused number back)
  unfolding next_each fold
  next_each_some zero q number back e = absurd (not_accepted (sym e))
  next_each_some (suc n) q number back e =
      elim (and_next_either (next_each n q) (q n) number back e) [
        | inl a ↦ let s = next_each_some n q number back a in (s.0, (let l : s.0 < n = s.1 in omega arith), s.2)
        | inr a ↦ (n, omega arith, a)
      ]
