-- Fields as they are written: what is read of a value's digits and the byte that ends them is that value, and where a value is read, its digits and
-- that byte stand at the start of the text. Assumes nothing.
use mathlib.Core.Path.{◌≡◌, refl, sym, ap, ap₂, ◌∙◌}
use mathlib.Core.Logic.{◌≢◌, inl, inr}
use mathlib.Core.List.{List, [], ◌∷◌, ◌++◌}
use mathlib.Core.Bool.{Bool, true, false, cond, not}
use Prim.Native.Nat.{ℕ, ◌+◌, ◌-◌, ◌*◌, ◌/◌, ◌%◌, ◌≤◌, ◌<◌}
use native.Mathlib.Numerals.{add-one}
use native.Mathlib.Omega.{arith}
use borrow.Author.Tests.{eq-eqb, ne_eqb, eqb-true, eqb-false, lt-ltb, ltb-true, not-false}
use lib.ListN.{length, get_or, take, drop, length-append}
use lib.Seq.{drop-append-add, get_or_at, split_at, take-suc}
use lib.Dec.{ltb, eqb}
use Rattle.laws.proofs.Test.{true_or_false, and_left, and_right, cond_true, cond_false, within_is, within_low, within_high}
use Rattle.laws.proofs.Counting.{split}
use Rattle.fields.specs.Found.{Found, found, wrong, then_read}
use Rattle.fields.specs.Decimal.{letter, is_digit, decimal}
use Rattle.fields.specs.Fields.{starts_with, has_byte, digit_at, ended, number_field, digit_field}
use Rattle.fields.proofs.Digits.{one_digit, two_digits}

-- Letters that a text starts with.
pub starts : (letters rest : List ℕ) → starts_with letters (letters ++ rest) ≡ true
unfolding starts_with
starts [] rest = refl
starts (a ∷ letters) rest = rw (eq-eqb a a refl) (starts letters rest)

pub started : (letters text : List ℕ) → starts_with letters text ≡ true → text ≡ letters ++ drop (length letters) text
unfolding starts_with
started [] text e = refl
started (a ∷ letters) [] e = cc
started (a ∷ letters) (b ∷ text) e =
    let same : a ≡ b = eqb-true a b (and_left (eqb a b) _ e) in
    let others = started letters text (and_right (eqb a b) _ e) in
    cc

not_found : {A : Type 0} {value : A} {rest : List ℕ} → wrong ≡ found value rest → ⊥
not_found e = let z : ◌≡◌ {A = ℕ} 0 1 = cc in omega arith

-- A value that was found passed the test before it.
module _ {A : Type 0} (value : A) (rest : List ℕ) where
  pub found_if : (b : Bool) (f : Found A) → cond b f wrong ≡ found value rest → (b ≡ true) × (f ≡ found value rest)
  found_if true f e = (refl, e)
  found_if false f e = absurd (not_found e)

  found_unless : (b : Bool) (f : Found A) → cond b wrong f ≡ found value rest → (b ≡ false) × (f ≡ found value rest)
  found_unless true f e = absurd (not_found e)
  found_unless false f e = (refl, e)

-- the value that was read before, and the text that was left for what follows
pub then_found : {A B : Type 0} (first : Found A) (next : A → List ℕ → Found B) (value : B) (rest : List ℕ) → then_read first next ≡ found value rest
    → (a : A) × (left : List ℕ) × (first ≡ found a left) × (next a left ≡ found value rest)
unfolding then_read
then_found (found a left) next value rest e = (a, left, refl, e)
then_found wrong next value rest e = absurd (not_found e)

-- The letter of a digit.
is_letter : (d : ℕ) → d ≤ 9 → is_digit (letter d) ≡ true
unfolding is_digit
is_letter d h = within_is (letter 0) (letter d) (letter 9) (omega arith) (omega arith)

digit_low : (b : ℕ) → is_digit b ≡ true → 48 ≤ b
unfolding is_digit
digit_low b e = within_low (letter 0) b (letter 9) e

digit_high : (b : ℕ) → is_digit b ≡ true → b ≤ 57
unfolding is_digit
digit_high b e = within_high (letter 0) b (letter 9) e

module _ (end : ℕ) where
  -- A field of so many bytes, and the byte that ends it.
  pub ended_reads : (letters rest : List ℕ) (value k : ℕ) → length letters ≡ k → ended end (letters ++ (end ∷ rest)) value k ≡ found value rest
  unfolding ended has_byte
  ended_reads letters rest value k e =
      let text = letters ++ (end ∷ rest) in
      let long = length-append letters (end ∷ rest) in
      let after : drop (k + 1) text ≡ rest = ap (λ (m : ℕ). drop (m + 1) text) (sym e) ∙ drop-append-add letters (end ∷ rest) 1 in
      rw (lt-ltb k (length text) (omega arith), get_or_at letters end rest 0 k e, eq-eqb end end refl, after)

  pub ended_written : (text : List ℕ) (value k v : ℕ) (rest : List ℕ) → ended end text value k ≡ found v rest
      → (v ≡ value) × (k < length text) × (text ≡ take k text ++ (end ∷ rest))
  unfolding ended has_byte
  ended_written text value k v rest e =
      let w = found_if v rest (has_byte end text k) (found value (drop (k + 1) text)) e in
      let read = w.1 in
      let inside : k < length text = ltb-true k (length text) (and_left _ _ w.0) in
      let byte : get_or text k 0 ≡ end = eqb-true (get_or text k 0) end (and_right (ltb k (length text)) _ w.0) in
      let same : v ≡ value = cc in
      let left : drop (k + 1) text ≡ rest = cc in
      (same, inside, split_at text k 0 inside ∙ ap (λ (l : List ℕ). take k text ++ l) (rw (← byte, ← left, add-one)))

  -- One letter and the end, and two letters and the end.
  one_reads : (x : ℕ) (rest : List ℕ) → ended end (letter x ∷ end ∷ rest) (letter x - letter 0) 1 ≡ found x rest
  one_reads x rest = ended_reads (letter x ∷ []) rest (letter x - letter 0) 1 refl ∙ ap (λ (y : ℕ). found y rest) (omega arith)

  one_written : (text : List ℕ) (x : ℕ) (rest : List ℕ) → is_digit (get_or text 0 0) ≡ true → ended end text (digit_at end text 0) 1 ≡ found x rest
      → text ≡ decimal x ++ (end ∷ rest)
  one_written text x rest digit e =
      let w = ended_written text (digit_at end text 0) 1 x rest e in
      let value : x ≡ get_or text 0 0 - 48 = w.0 in
      let inside : 1 < length text = w.1 in
      let low = digit_low (get_or text 0 0) digit in
      let high = digit_high (get_or text 0 0) digit in
      let first : get_or text 0 0 ≡ letter x = omega arith in
      let letters : take 1 text ≡ decimal x = take-suc text 0 0 (omega arith) ∙ ap (λ (b : ℕ). b ∷ []) first ∙ sym (one_digit x (omega arith)) in
      w.2 ∙ ap (λ (l : List ℕ). l ++ (end ∷ rest)) letters

  two_written : (text : List ℕ) (x : ℕ) (rest : List ℕ) → is_digit (get_or text 0 0) ≡ true → is_digit (get_or text 1 0) ≡ true → get_or text 0 0 ≢ letter 0
      → ended end text (10 * digit_at end text 0 + digit_at end text 1) 2 ≡ found x rest → text ≡ decimal x ++ (end ∷ rest)
  two_written text x rest tens units no_zero e =
      let w = ended_written text (10 * digit_at end text 0 + digit_at end text 1) 2 x rest e in
      let value : x ≡ 10 * (get_or text 0 0 - 48) + (get_or text 1 0 - 48) = w.0 in
      let inside : 2 < length text = w.1 in
      let low = digit_low (get_or text 0 0) tens in
      let high = digit_high (get_or text 0 0) tens in
      let low-2 = digit_low (get_or text 1 0) units in
      let high-2 = digit_high (get_or text 1 0) units in
      let first : get_or text 0 0 ≡ letter (x / 10) = omega arith in
      let second : get_or text 1 0 ≡ letter (x % 10) = omega arith in
      let letters : take 2 text ≡ decimal x =
      take-suc text 1 0 (omega arith)
      ∙ ap (λ (l : List ℕ). l ++ (get_or text 1 0 ∷ [])) (take-suc text 0 0 (omega arith))
      ∙ ap₂ (λ (a b : ℕ). a ∷ b ∷ []) first second
      ∙ sym (two_digits x (omega arith) (omega arith)) in
      w.2 ∙ ap (λ (l : List ℕ). l ++ (end ∷ rest)) letters

  -- One digit, with the byte that ends it.
  pub digit_reads : (x : ℕ) (rest : List ℕ) → x ≤ 9 → digit_field end (decimal x ++ (end ∷ rest)) ≡ found x rest
  unfolding digit_field
  digit_reads x rest h = rw (one_digit x (omega arith), is_letter x h) (one_reads x rest)

  pub digit_written : (text : List ℕ) (x : ℕ) (rest : List ℕ) → digit_field end text ≡ found x rest → text ≡ decimal x ++ (end ∷ rest)
  unfolding digit_field
  digit_written text x rest e =
      let w = found_if x rest (is_digit (get_or text 0 0)) (ended end text (digit_at end text 0) 1) e in
      one_written text x rest w.0 w.1

  -- One or two digits, with the byte that ends them, which is no digit.
  pub number_reads : is_digit end ≡ false → (x : ℕ) (rest : List ℕ) → x ≤ 99 → number_field end (decimal x ++ (end ∷ rest)) ≡ found x rest
  unfolding number_field
  number_reads other x rest h =
      elim (split 10 x) [
        | inl a ↦
            rw (
              two_digits x a h,
              is_letter (x / 10) (omega arith),
              is_letter (x % 10) (omega arith),
              ne_eqb (letter (x / 10)) (letter 0) (λ e. omega arith),
            )
            (ended_reads (letter (x / 10) ∷ letter (x % 10) ∷ []) rest (10 * (letter (x / 10) - letter 0) + (letter (x % 10) - letter 0)) 2 refl
            ∙ ap (λ (y : ℕ). found y rest) (omega arith))
        | inr a ↦ rw (one_digit x a, is_letter x (omega arith), other) (one_reads x rest)
      ]

  pub number_written : (text : List ℕ) (x : ℕ) (rest : List ℕ) → number_field end text ≡ found x rest → text ≡ decimal x ++ (end ∷ rest)
  unfolding number_field
  number_written text x rest e =
      let tens = found_unless x rest (not (is_digit (get_or text 0 0))) _ e in
      let first = not-false (is_digit (get_or text 0 0)) tens.0 in
      elim (true_or_false (is_digit (get_or text 1 0))) [
        | inl units ↦
            let two = found_unless x rest (eqb (get_or text 0 0) (letter 0)) _ (sym (cond_false (not (is_digit (get_or text 1 0))) _ _ (ap not units)) ∙ tens.1) in
            two_written text x rest first units (eqb-false (get_or text 0 0) (letter 0) two.0) two.1
        | inr units ↦ one_written text x rest first (sym (cond_true (not (is_digit (get_or text 1 0))) _ _ (ap not units)) ∙ tens.1)
      ]
