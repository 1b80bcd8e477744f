-- The questions of a schedule come to 0 exactly where its n is from 4 to the limit, its tables and the answer tables are n long, and it keeps
-- the rules; those of one process come to 0 exactly where that process keeps its rules. They come to 7 only where more than t processes crash.
-- Assumes nothing.
use mathlib.Core.Path.{◌≡◌, refl, sym, ◌∙◌}
use mathlib.Core.Logic.{inl, inr, ◌≢◌}
use mathlib.Core.Bool.{Bool, true, false, not, ◌&&◌, ◌||◌, false≢true}
use Prim.Native.Nat.{ℕ, ◌+◌, ◌-◌, ◌^◌, ◌<◌}
use native.Mathlib.Omega.{arith}
use borrow.Author.Tests.{eqb-true, eq-eqb, leb-true, le-leb}
use lib.ListN.{length}
use lib.Dec.{leb, eqb}
use Rattle.laws.specs.Test.{within}
use Rattle.laws.specs.Answer.{ask, and_then, ask_each}
use Rattle.laws.proofs.Test.{cond_true, and_left, and_right, within_low, within_high, within_is}
use Rattle.laws.proofs.Counting.{split}
use Rattle.laws.proofs.Answer.{went_on, passed, and_then_went_on, ask_each_passed, ask_each_passes, ask_each_never}
use Rattle.sets.specs.Sets.{names, names_others}
use Rattle.sets.proofs.Bits.{of_others_below, of_others_not, of_others}
use Rattle.schedule.specs.Schedule.{Schedule, vote_of, crash_of, reach_of, crash_count}
use Rattle.schedule.specs.Questions.{tables_of, answers_of, tables_long, reach_right, entry_question, process_question, question, ProcessRules, Accepted}

-- `not a || b` says that b holds where a does.
implied : (a b : Bool) → not a || b ≡ true → a ≡ true → b ≡ true
implied true b e h = e
implied false b e h = absurd (false≢true h)

implies : (a b : Bool) → (a ≡ true → b ≡ true) → not a || b ≡ true
implies true b h = h refl
implies false b h = refl

-- all three tables have so many entries
pub all_of_size : (size votes crashes reaches : ℕ) → tables_of size votes crashes reaches ≡ true → (votes ≡ size) × (crashes ≡ size) × (reaches ≡ size)
unfolding tables_of
all_of_size size votes crashes reaches e =
    let others = and_right (eqb votes size) _ e in
    (eqb-true _ _ (and_left _ _ e), eqb-true _ _ (and_left _ _ others), eqb-true _ _ (and_right (eqb crashes size) _ others))

pub of_size : (size : ℕ) {votes crashes reaches : ℕ} → votes ≡ size → crashes ≡ size → reaches ≡ size → tables_of size votes crashes reaches ≡ true
unfolding tables_of
of_size size {votes} {crashes} {reaches} v c r = rw (eq-eqb votes size v, eq-eqb crashes size c, eq-eqb reaches size r)

-- both answer tables are n long
module _ (n decisions rounds : ℕ) where
  pub answers_long : decisions ≡ n → rounds ≡ n → answers_of n decisions rounds ≡ true
  unfolding answers_of
  answers_long d r = rw (eq-eqb decisions n d, eq-eqb rounds n r)

  pub both_long : answers_of n decisions rounds ≡ true → (decisions ≡ n) × (rounds ≡ n)
  unfolding answers_of
  both_long e = (eqb-true _ _ (and_left _ _ e), eqb-true _ _ (and_right (eqb decisions n) _ e))

module _ (s : Schedule) where
  module _ (i : ℕ) where
    reach_below : reach_right s.n i (crash_of s i) (reach_of s i) ≡ true → reach_of s i < 2 ^ s.n
    unfolding reach_right
    reach_below e = of_others_below s.n i (reach_of s i) (and_left _ _ e)

    reach_others : reach_right s.n i (crash_of s i) (reach_of s i) ≡ true → names (reach_of s i) i ≡ false
    unfolding reach_right
    reach_others e = of_others_not s.n i (reach_of s i) (and_left _ _ e)

    reach_none : reach_right s.n i (crash_of s i) (reach_of s i) ≡ true → crash_of s i ≡ 0 → reach_of s i ≡ 0
    unfolding reach_right
    reach_none e z =
        let crashing = and_right (names_others s.n i (reach_of s i)) _ e in
        eqb-true _ _ (implied (eqb (crash_of s i) 0) _ crashing (eq-eqb _ _ z))

    pub process_question_rules : process_question s i ≡ 0 → ProcessRules s i
    unfolding entry_question
    process_question_rules e =
        let p4 = passed _ 4 _ (omega arith) e in
        let p5 = passed _ 5 _ (omega arith) p4.1 in
        let p6 = passed _ 6 _ (omega arith) p5.1 in
        record {
          vote = leb-true _ _ p4.0;
          crash = leb-true _ _ p5.0;
          reach = reach_below p6.0;
          not_own = reach_others p6.0;
          never = reach_none p6.0;
        }

    rules_reach_right : ProcessRules s i → reach_right s.n i (crash_of s i) (reach_of s i) ≡ true
    unfolding reach_right
    rules_reach_right r =
        rw (
          of_others s.n i (reach_of s i) r.reach r.not_own,
          implies (eqb (crash_of s i) 0) (eqb (reach_of s i) 0) (λ z. eq-eqb _ _ (r.never (eqb-true _ _ z))),
        )

    pub process_rules_question : ProcessRules s i → process_question s i ≡ 0
    unfolding entry_question ask
    process_rules_question r = rw (le-leb (vote_of s i) 1 r.vote, le-leb (crash_of s i) (s.t + 1) r.crash, rules_reach_right r)

  pub table_lengths : tables_long s ≡ true → (length s.votes ≡ s.n) × (length s.crashes ≡ s.n) × (length s.reaches ≡ s.n)
  table_lengths = all_of_size s.n _ _ _

  -- the questions of a process come to no 7
  process_never_7 : (i : ℕ) → process_question s i ≢ 7
  unfolding entry_question
  process_never_7 i e =
      let p4 = went_on _ 4 _ 7 (λ z. omega arith) e in
      let p5 = went_on _ 5 _ 7 (λ z. omega arith) p4.1 in
      let p6 = went_on _ 6 _ 7 (λ z. omega arith) p5.1 in
      absurd (let z = p6.1 in omega arith)

  module _ (limit : ℕ) (answers : Bool) where
    -- Where the questions come to m, which is not the number of one before 7, every one of these is answered by yes.
    module _ (m : ℕ) (no_other : (k : ℕ) → 0 < k → k < 7 → k ≢ m) (process-passed : ask_each s.n (process_question s) ≡ m → ask_each s.n (process_question s) ≡ 0)
        (e : question s limit answers ≡ m) where
      up_to_7 : (within 4 s.n limit ≡ true) × (within 3 s.t (s.n - 1) ≡ true) × (tables_long s && answers ≡ true) × (ask_each s.n (process_question s) ≡ 0) × (ask (leb (crash_count s) s.t) 7 0 ≡ m)
      unfolding question
      up_to_7 =
          let p1 = went_on _ 1 _ m (no_other 1 (omega arith) (omega arith)) e in
          let p2 = went_on _ 2 _ m (no_other 2 (omega arith) (omega arith)) p1.1 in
          let p3 = went_on _ 3 _ m (no_other 3 (omega arith) (omega arith)) p2.1 in
          let each = and_then_went_on _ _ m process-passed p3.1 in
          (p1.0, p2.0, p3.0, each.0, each.1)

    pub question_accepted : question s limit answers ≡ 0 → Accepted s limit answers
    question_accepted e =
        let p = up_to_7 0 (λ k low high z. omega arith) (λ z. z) e in
        let p7 = passed _ 7 _ (omega arith) p.4 in
        let n_low = within_low _ _ _ p.0 in
        let t_high = within_high _ _ _ p.1 in
        let long = table_lengths (and_left _ answers p.2) in
        record {
          n_low = n_low;
          n_high = within_high _ _ _ p.0;
          votes_long = long.0;
          crashes_long = long.1;
          reaches_long = long.2;
          answers_long = and_right (tables_long s) _ p.2;
          rules = record {
            t_low = within_low _ _ _ p.1;
            t_high = omega arith;
            process = λ i l. process_question_rules i (ask_each_passed _ _ p.3 i l);
            few = leb-true _ _ p7.0;
          };
        }

    -- the table of crash rounds is n long, and more than t processes crash
    pub question_7 : question s limit answers ≡ 7 → (length s.crashes ≡ s.n) × (s.t < crash_count s)
    unfolding ask
    question_7 e =
        let never = ask_each_never s.n (process_question s) 7 (λ z. omega arith) process_never_7 in
        let p = up_to_7 7 (λ k low high z. omega arith) (λ z. absurd (never z)) e in
        let many : s.t < crash_count s =
        elim (split (crash_count s) s.t) [
          | inl few ↦ absurd (let z = sym (cond_true _ 0 7 (le-leb (crash_count s) s.t few)) ∙ p.4 in omega arith)
          | inr l ↦ l
        ] in
        ((table_lengths (and_left _ answers p.2)).1, many)

    pub accepted_question : Accepted s limit answers → question s limit answers ≡ 0
    unfolding question ask and_then
    accepted_question a =
        let n_low = a.n_low in
        let t_high = a.rules.t_high in
        rw (
          within_is 4 s.n limit n_low a.n_high,
          within_is 3 s.t (s.n - 1) a.rules.t_low (omega arith),
          of_size s.n a.votes_long a.crashes_long a.reaches_long,
          a.answers_long,
          ask_each_passes s.n (process_question s) (λ i l. process_rules_question i (a.rules.process i l)),
          le-leb (crash_count s) s.t a.rules.few,
        )

-- a schedule that a call with answer tables accepts is accepted by one that takes none
pub accepted_alone : (s : Schedule) (limit : ℕ) (answers : Bool) → question s limit answers ≡ 0 → question s limit true ≡ 0
accepted_alone s limit answers e =
    let a = question_accepted s limit answers e in
    accepted_question s limit true record {
      n_low = a.n_low;
      n_high = a.n_high;
      votes_long = a.votes_long;
      crashes_long = a.crashes_long;
      reaches_long = a.reaches_long;
      answers_long = refl;
      rules = a.rules;
    }
