-- The length of a text: that of its lines, and that of a line's fields. Lines 1 and 3 have 4 and 20 bytes, and line 2 has at most 6. The line of a
-- process has n + 5 bytes and the digits of its number and of its crash round: n + 7 bytes where each of the two has one digit. A second digit is there at
-- most for the numbers from 10 on, which are n - 9 (or none), and for the crash rounds other than 0, which are at most t. So the text of an accepted
-- schedule has at most 30 + (n + 7) * n + (n - 9) + t bytes, and where n is at most 64, and so t at most 63, at most 30 + 4,544 + 55 + 63 = 4,692. Assumes
-- nothing.
use mathlib.Core.Path.{◌≡◌, refl}
use mathlib.Core.Logic.{inl, inr}
use mathlib.Core.List.{List, [], ◌∷◌}
use mathlib.Core.Bool.{Bool, true, false}
use Prim.Native.Nat.{ℕ, zero, suc, ◌+◌, ◌-◌, ◌*◌, ◌^◌, ◌≤◌, ◌<◌, zero-le}
use native.Mathlib.Nat.{mul-le-mul}
use native.Mathlib.Omega.{arith}
use borrow.Author.Tests.{leb-false, lt-leb, eqb-true, not-false}
use lib.ListN.{length, length-append}
use lib.Dec.{leb, eqb}
use Rattle.laws.specs.Below.{fold, bit, sum, count}
use Rattle.laws.proofs.Below.{bit_high}
use Rattle.laws.proofs.Counting.{split}
use Rattle.laws.proofs.Sums.{sum_same, sum_high, sum_within}
use Rattle.lines.specs.Lines.{lf}
use Rattle.fields.specs.Decimal.{decimal, digit_count, field}
use Rattle.fields.specs.Fields.{space}
use Rattle.fields.proofs.Digits.{digits_long, digits_few}
use Rattle.sets.specs.Largest.{largest}
use Rattle.schedule.specs.Schedule.{Schedule, vote_of, crash_of, reach_of, ever_crashes, crashes_in}
use Rattle.schedule.specs.Questions.{Accepted}
use Rattle.text.specs.Written.{each_line, sizes_line, process_line, process_lines, text_of, longest_written, process_length, text_length}
use Rattle.text.proofs.Letters.{letters_long}

-- a field: the digits of its number and the byte that ends it
field_long : (x end : ℕ) → length (field x end) ≡ digit_count x + 1
unfolding field
field_long x end = let digits = digits_long x in let all = length-append (decimal x) (end ∷ []) in omega arith

-- lines one after the other
each_long : (n : ℕ) (line : ℕ → List ℕ) → length (each_line n line) ≡ sum n (λ i. length (line i))
unfolding each_line fold sum
each_long zero line = refl
each_long (suc n) line =
    let before = each_long n line in
    let all = length-append (each_line n line) (line n) in
    omega arith

process_long : (n i vote crash reach : ℕ) → length (process_line n i vote crash reach) ≡ process_length n i vote crash
unfolding process_line process_length
process_long n i vote crash reach =
    let id = field_long (i + 1) space in
    let v = field_long vote space in
    let c = field_long crash space in
    let r = letters_long n reach in
    simp length-append (omega arith)

pub text_long : (s : Schedule) → length (text_of s) ≡ text_length s.n s.t s.votes s.crashes
unfolding process_lines text_of text_length sizes_line
text_long s =
    let n = field_long s.n space in
    let t = field_long s.t lf in
    let line : ℕ → List ℕ = λ i. process_line s.n i (vote_of s i) (crash_of s i) (reach_of s i) in
    let lines = each_long s.n line in
    let each = sum_same s.n (λ i. length (line i)) (λ i. process_length s.n i (vote_of s i) (crash_of s i))
    (λ i l. process_long s.n i (vote_of s i) (crash_of s i) (reach_of s i)) in
    simp length-append (omega arith)

-- the field of a number of at most k + 1 digits
pub field_short : (k x end : ℕ) → x < 10 ^ suc k → length (field x end) ≤ k + 2
field_short k x end h = let few = digits_few k x h in let all = field_long x end in omega arith

-- a number of at most two digits, which has the second only where a test says so
digits_second : (x : ℕ) (second : Bool) → x ≤ 99 → (second ≡ false → x < 10) → digit_count x ≤ 1 + bit second
digits_second x true h first = digits_few 1 x (omega arith)
digits_second x false h first = digits_few 0 x (first refl)

-- whether the process at place i has a number of two digits
abbrev second_digit : ℕ → Bool
second_digit i = leb 10 (i + 1)

-- the numbers 1 to 9 have one digit
second_digits : (n : ℕ) → count n second_digit ≤ n - 9
unfolding count
second_digits zero = zero-le
second_digits (suc n) =
    let before = second_digits n in
    elim (split 9 n) [
      | inl h ↦ let last = bit_high (second_digit n) in omega arith
      | inr h ↦ rw (lt-leb 10 (n + 1) (omega arith)) (omega arith)
    ]

process_short : (n i vote crash : ℕ) → i < 99 → vote ≤ 9 → crash ≤ 99
    → process_length n i vote crash ≤ n + 7 + bit (second_digit i) + bit (ever_crashes crash)
unfolding process_length
process_short n i vote crash hi hv hc =
    let id = digits_second (i + 1) (second_digit i) (omega arith) (leb-false 10 (i + 1)) in
    let v = digits_few 0 vote (omega arith) in
    let c = digits_second crash (ever_crashes crash) hc (λ e. let z = eqb-true crash 0 (not-false (eqb crash 0) e) in omega arith) in
    omega arith

pub each_short : (n most : ℕ) (line : ℕ → List ℕ) → ((i : ℕ) → i < n → length (line i) ≤ most) → length (each_line n line) ≤ most * n
each_short n most line h = let all = each_long n line in let high = sum_high n most (λ i. length (line i)) h in omega arith

module _ (s : Schedule) (limit : ℕ) (ok : Accepted s limit true) (high : limit ≤ 99) where
  line_short : (i : ℕ) → i < s.n → process_length s.n i (vote_of s i) (crash_of s i) ≤ s.n + 7 + bit (second_digit i) + bit (ever_crashes (crash_of s i))
  line_short i l =
      let n_high = ok.n_high in
      let t_high = ok.rules.t_high in
      let vote = (ok.rules.process i l).vote in
      let crash = (ok.rules.process i l).crash in
      process_short s.n i (vote_of s i) (crash_of s i) (omega arith) (omega arith) (omega arith)

  text_within : text_length s.n s.t s.votes s.crashes ≤ 30 + (s.n + 7) * s.n + (s.n - 9) + s.t
  unfolding crashes_in text_length
  text_within =
      let n_high = ok.n_high in
      let t_high = ok.rules.t_high in
      let few = ok.rules.few in
      let n = digits_few 1 s.n (omega arith) in
      let t = digits_few 1 s.t (omega arith) in
      let f : ℕ → ℕ = λ i. process_length s.n i (vote_of s i) (crash_of s i) in
      let lines = sum_within s.n (s.n + 7) f second_digit (λ i. ever_crashes (crash_of s i)) line_short in
      let numbers = second_digits s.n in
      omega arith

pub text_short : (s : Schedule) → Accepted s largest true → length (text_of s) ≤ longest_written
text_short s ok =
    let long = text_long s in
    let all = text_within s largest ok (omega arith) in
    let n_high = ok.n_high in
    let t_high = ok.rules.t_high in
    let wide : s.n + 7 ≤ 71 = omega arith in
    let lines = mul-le-mul wide n_high in
    omega arith
