-- The count of crashes that ends sooner: where it ends, what it comes to, and which number a schedule gets by it. Assumes nothing.
use mathlib.Core.Path.{◌≡◌, sym, ap, ◌∙◌}
use mathlib.Core.Logic.{◌⊎◌, inl, inr}
use mathlib.Core.Bool.{Bool, false}
use mathlib.Core.List.{List}
use Prim.Native.Nat.{ℕ, ◌+◌, ◌≤◌, ◌<◌}
use native.Mathlib.Omega.{arith}
use borrow.Author.Tests.{eq-eqb, ne_eqb, lt-leb}
use lib.Dec.{leb, eqb}
use lib.ListN.{length, get_or}
use Rattle.laws.specs.Below.{bit}
use Rattle.laws.proofs.Below.{bit_high, count_step}
use Rattle.laws.proofs.Counting.{split, count_longer, count_after}
use Rattle.laws.proofs.Least.{least_is}
use Rattle.schedule.specs.Schedule.{Schedule, ever_crashes, crashes_in, crash_count}
use Rattle.schedule.specs.Questions.{question, Accepted}
use Rattle.schedule.specs.Counting.{looked_at, crashes_counted}
use Rattle.schedule.specs.Facts.{EndsAt, CountFacts}
use Rattle.schedule.proofs.Accepted.{question_accepted, question_7}

module _ (t : ℕ) (crashes : List ℕ) where
  crashes_longer : (i k : ℕ) → i ≤ k → crashes_in i crashes ≤ crashes_in k crashes
  unfolding crashes_in
  crashes_longer i k l = count_longer i k _ l

  -- nobody of the first k makes t + 1 crashes
  not_yet : (k : ℕ) → crashes_in k crashes ≤ t → (i : ℕ) → i ≤ k → eqb (crashes_in i crashes) (t + 1) ≡ false
  not_yet k few i l = let a = crashes_longer i k l in ne_eqb (crashes_in i crashes) (t + 1) (λ e. omega arith)

  -- it ends with the process at place i
  ends_at : (i : ℕ) → i < length crashes → crashes_in i crashes ≤ t → crashes_in (i + 1) crashes ≡ t + 1 → i + 1 ≡ looked_at t crashes
  unfolding looked_at
  ends_at i l few e =
      least_is (length crashes) _ (i + 1) (omega arith) (λ k b. not_yet i few k (omega arith)) (λ b. eq-eqb (crashes_in (i + 1) crashes) (t + 1) e)

  -- or it does not end before all are looked at
  pub ends_never : crashes_in (length crashes) crashes ≤ t → length crashes ≡ looked_at t crashes
  unfolding looked_at
  ends_never few = least_is (length crashes) _ (length crashes) (omega arith) (λ k b. not_yet (length crashes) few k (omega arith)) (λ b. absurd (omega arith))

  -- so many are then counted
  pub counted_up_to : (k : ℕ) → k ≡ looked_at t crashes → crashes_in k crashes ≡ crashes_counted t crashes
  unfolding crashes_counted
  counted_up_to k e = ap (λ (k : ℕ). crashes_in k crashes) e

  -- A loop that has at most t crashes before place i, and counts x for the process there.
  module _ (i k x : ℕ) (counted : k ≡ crashes_in i crashes) (one : x ≡ bit (ever_crashes (get_or crashes i 0))) where
    pub counts_on : k + x ≡ crashes_in (i + 1) crashes
    unfolding crashes_in
    counts_on = count_step i (λ i. ever_crashes (get_or crashes i 0)) k x counted one

    -- it may go on, or has come to its end
    pub goes_on : i < length crashes → k ≤ t → (k + x ≤ t) ⊎ (i + 1 ≡ looked_at t crashes)
    goes_on l few =
        let next = counts_on in
        let high = bit_high (ever_crashes (get_or crashes i 0)) in
        elim (split (k + x) t) [
          | inl more ↦ inl more
          | inr end ↦ inr (ends_at i l (omega arith) (omega arith))
        ]

  ends : t < crashes_in (length crashes) crashes → (i : ℕ) × EndsAt t crashes i
  unfolding crashes_in
  ends many =
      let s = count_after (length crashes) (λ i. ever_crashes (get_or crashes i 0)) t many in
      let i = s.0 in
      let next : crashes_in (i + 1) crashes ≡ t + 1 = sym (counts_on i t 1 (sym s.2.1) (ap bit (sym s.2.0))) in
      let looked : i + 1 ≡ looked_at t crashes = ends_at i s.1 (let e : crashes_in i crashes ≡ t = s.2.1 in omega arith) next in (
        i,
        record {
          below = s.1;
          crashes_there = s.2.0;
          before = s.2.1;
          looked_at = sym looked;
          counted = sym (counted_up_to (i + 1) looked) ∙ next;
        },
      )

  asks_7 : leb (crashes_in (length crashes) crashes) t ≡ leb (crashes_counted t crashes) t
  asks_7 =
      elim (split (crashes_in (length crashes) crashes) t) [
        | inl few ↦ ap (λ (k : ℕ). leb k t) (counted_up_to (length crashes) (ends_never few))
        | inr many ↦
            let counted : crashes_counted t crashes ≡ t + 1 = (ends many).1.counted in
            lt-leb (crashes_in (length crashes) crashes) t many ∙ sym (lt-leb (crashes_counted t crashes) t (omega arith))
      ]

  pub count_facts : CountFacts t crashes
  count_facts = record {
    ends = ends;
    full_count = λ few. sym (counted_up_to (length crashes) (ends_never few));
    full_look = λ few. sym (ends_never few);
    asks_7 = asks_7;
  }

-- The count of a schedule's crash rounds, where its questions come to what they do.
module _ (s : Schedule) (limit : ℕ) (answers : Bool) where
  facts : CountFacts s.t s.crashes
  facts = count_facts s.t s.crashes

  -- f is that of the table
  f_of_table : length s.crashes ≡ s.n → crashes_in (length s.crashes) s.crashes ≡ crash_count s
  f_of_table long = ap (λ (n : ℕ). crashes_in n s.crashes) long

  pub number_7 : question s limit answers ≡ 7 → crashes_counted s.t s.crashes ≡ s.t + 1
  number_7 e =
      let p = question_7 s limit answers e in
      let f = f_of_table p.0 in
      let many : s.t < crash_count s = p.1 in
      (facts.ends (omega arith)).1.counted

  module _ (a : Accepted s limit answers) where
    few : crashes_in (length s.crashes) s.crashes ≤ s.t
    few =
        let f = f_of_table a.crashes_long in
        let at_most = a.rules.few in
        omega arith

    pub f_counted : crashes_counted s.t s.crashes ≡ crash_count s
    f_counted = facts.full_count few ∙ f_of_table a.crashes_long

    pub all_looked_at : looked_at s.t s.crashes ≡ s.n
    all_looked_at = facts.full_look few ∙ a.crashes_long

  pub by_count : (question s limit answers ≡ 0) ⊎ (question s limit answers ≡ 7) → crashes_counted s.t s.crashes ≡ s.t + 1 → question s limit answers ≡ 7
  by_count (inl e) counted =
      let a = question_accepted s limit answers e in
      let f = f_counted a in
      let at_most = a.rules.few in
      absurd (omega arith)
  by_count (inr e) counted = e
