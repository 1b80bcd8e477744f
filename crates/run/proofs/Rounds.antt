-- Who completes a round, who hears whom, what a sender adds, and who moves: the facts of specs/Facts.antt that the definitions of the run come
-- to, for any protocol. Assumes nothing.
use mathlib.Core.Path.{◌≡◌, ap, ◌∙◌}
use mathlib.Core.Logic.{◌⊎◌, inl, inr, ◌≢◌}
use mathlib.Core.List.{List}
use mathlib.Core.Bool.{true, false, not, ◌&&◌}
use Prim.Native.Nat.{ℕ, zero, suc, ◌+◌, ◌-◌, ◌≤◌, ◌<◌}
use native.Mathlib.Omega.{arith}
use lib.Dec.{eqb, ltb}
use lib.Count.{ones}
use lib.ListN.{length}
use borrow.Author.Tests.{eqb-true, eqb-false, eq-eqb, ne_eqb, ltb-true, lt-ltb, le-ltb}
use Rattle.laws.proofs.Test.{true_or_false, and_both, and_no_left, and_no_right, or_left, or_right, or_true, or_neither, cond_true, cond_false}
use Rattle.laws.proofs.Counting.{split}
use Rattle.laws.proofs.Lists.{length_tabulate, get_d_tabulate}
use Rattle.member.specs.declared.Member.{Member}
use Rattle.member.specs.Saying.{nothing}
use Rattle.sets.specs.Sets.{names}
use Rattle.schedule.specs.Schedule.{Schedule, vote_of, crash_of, reach_of}
use Rattle.run.specs.Protocol.{Protocol}
use Rattle.run.specs.Run.{completes_round, is_heard, delivered, completes, state_at, code_heard, row_of, state_after, next_state, played, opened, states_after, after}
use Rattle.run.specs.Report.{sent_by}
use Rattle.run.specs.Facts.{WhoHearsWhom, WhatIsSent, WhoMoves}

-- a process with crash round c completes the rounds before it, and all of them if that is 0
module _ (r c : ℕ) where
  pub not_completed : 1 ≤ c → c ≤ r → completes_round r c ≡ false
  unfolding completes_round
  not_completed lo hi = or_neither (eqb c 0) (ltb r c) (ne_eqb c 0 (λ z. omega arith)) (le-ltb r c (omega arith))

  pub completed : (c ≡ 0) ⊎ (r < c) → completes_round r c ≡ true
  unfolding completes_round
  completed (inl z) = or_left (eqb c 0) (ltb r c) (eq-eqb c 0 z)
  completed (inr l) = or_right (eqb c 0) (ltb r c) (lt-ltb r c (omega arith))

module _ (s : Schedule) (r i : ℕ) where
  pub completes_not : 1 ≤ crash_of s i → crash_of s i ≤ r → completes s r i ≡ false
  completes_not lo hi = not_completed r (crash_of s i) lo hi

  pub completes_if : (crash_of s i ≡ 0) ⊎ (r < crash_of s i) → completes s r i ≡ true
  completes_if e = completed r (crash_of s i) e

  pub if_completes : completes s r i ≡ true → (crash_of s i ≡ 0) ⊎ (r < crash_of s i)
  unfolding completes_round
  if_completes e = elim (or_true (eqb (crash_of s i) 0) _ e) [ inl z ↦ inl (eqb-true (crash_of s i) 0 z) | inr l ↦ inr (ltb-true r (crash_of s i) l) ]

  -- in a round it completes it, crashes in it, or crashed before
  pub data Part : Type 0 where
    completing : completes s r i ≡ true → Part
    crashing : crash_of s i ≡ r → Part
    gone : 1 ≤ crash_of s i → crash_of s i < r → Part

  pub part : Part
  part =
      elim (true_or_false (eqb (crash_of s i) 0)) [
        | inl z ↦ completing (completes_if (inl (eqb-true (crash_of s i) 0 z)))
        | inr z ↦
            let nz = eqb-false (crash_of s i) 0 z in
            elim (split (crash_of s i) r) [
              | inr l ↦ completing (completes_if (inr l))
              | inl l ↦ elim (split r (crash_of s i)) [ inl h ↦ crashing (omega arith) | inr h ↦ gone (omega arith) h ]
            ]
      ]

-- what a sender with this crash round, this reach and this code adds in round r
module _ (n r c reach code : ℕ) where
  pub sends_nothing : code ≡ nothing → sent_by n r c reach code ≡ 0
  unfolding sent_by
  sends_nothing h = cond_true _ _ _ (eq-eqb code nothing h)

  pub sends_to_all : code ≢ nothing → completes_round r c ≡ true → sent_by n r c reach code ≡ n - 1
  unfolding sent_by
  sends_to_all h e = cond_false _ 0 _ (ne_eqb code nothing h) ∙ cond_true (completes_round r c) (n - 1) _ e

  pub sends_to_reach : code ≢ nothing → completes_round r c ≡ false → c ≡ r → sent_by n r c reach code ≡ ones reach
  unfolding sent_by
  sends_to_reach h e now = cond_false _ 0 _ (ne_eqb code nothing h) ∙ cond_false (completes_round r c) _ _ e ∙ cond_true (eqb c r) (ones reach) _ (eq-eqb c r now)

  pub sends_no_more : code ≢ nothing → completes_round r c ≡ false → c ≢ r → sent_by n r c reach code ≡ 0
  unfolding sent_by
  sends_no_more h e before = cond_false _ 0 _ (ne_eqb code nothing h) ∙ cond_false (completes_round r c) _ _ e ∙ cond_false (eqb c r) _ 0 (ne_eqb c r before)

-- what a process with this crash round does in round r, from its state and its row
module _ (P : Protocol) (r c : ℕ) (state : Member) (row : List ℕ) where
  pub crashed_stays : completes_round r c ≡ false → state_after P r c state row ≡ state
  unfolding state_after
  crashed_stays e = cond_false (completes_round r c && not (P.stopped state)) (P.hears state row) state (and_no_left (completes_round r c) _ e)

  pub stopped_stays : P.stopped state ≡ true → state_after P r c state row ≡ state
  unfolding state_after
  stopped_stays e = cond_false (completes_round r c && not (P.stopped state)) (P.hears state row) state (and_no_right (completes_round r c) _ (ap not e))

  pub other_moves : completes_round r c ≡ true → P.stopped state ≡ false → state_after P r c state row ≡ P.hears state row
  unfolding state_after
  other_moves h e = cond_true (completes_round r c && not (P.stopped state)) (P.hears state row) state (and_both (completes_round r c) _ h (ap not e))

module _ (P : Protocol) (s : Schedule) where
  module _ (r : ℕ) (states : List Member) (j : ℕ) where
    abbrev said : ℕ
    said = P.says (state_at states j)

    module _ (i : ℕ) where
      unnamed_not : r ≢ 0 → crash_of s j ≡ r → names (reach_of s j) i ≡ false → is_heard r i (crash_of s j) (reach_of s j) ≡ false
      unfolding is_heard
      unnamed_not nz e n = or_neither _ _ (completes_not s r j (omega arith) (omega arith)) (and_no_right (eqb (crash_of s j) r) _ n)

      gone_not : 1 ≤ crash_of s j → crash_of s j < r → is_heard r i (crash_of s j) (reach_of s j) ≡ false
      unfolding is_heard
      gone_not lo hi = or_neither _ _ (completes_not s r j lo (omega arith)) (and_no_left _ _ (ne_eqb (crash_of s j) r (λ e. omega arith)))

      completing_heard : completes s r j ≡ true → is_heard r i (crash_of s j) (reach_of s j) ≡ true
      unfolding is_heard
      completing_heard c = or_left _ _ c

      named_heard : crash_of s j ≡ r → names (reach_of s j) i ≡ true → is_heard r i (crash_of s j) (reach_of s j) ≡ true
      unfolding is_heard
      named_heard e n = or_right (completes s r j) _ (and_both _ _ (eq-eqb (crash_of s j) r e) n)

      code_said_lem : is_heard r i (crash_of s j) (reach_of s j) ≡ true → code_heard P s r states i j ≡ said
      unfolding code_heard delivered
      code_said_lem h = cond_true (is_heard r i (crash_of s j) (reach_of s j)) said nothing h

      code_nothing : is_heard r i (crash_of s j) (reach_of s j) ≡ false → code_heard P s r states i j ≡ nothing
      unfolding code_heard delivered
      code_nothing h = cond_false (is_heard r i (crash_of s j) (reach_of s j)) said nothing h

      pub who_hears_whom : WhoHearsWhom P s r states i j
      who_hears_whom = record {
        completing = λ c. code_said_lem (completing_heard c.completed);
        named = λ e n. code_said_lem (named_heard e n);
        unnamed = λ nz e n. code_nothing (unnamed_not nz e n);
        silent = λ lo hi. code_nothing (gone_not lo hi);
      }

    pub what_is_sent : WhatIsSent P s r states j
    what_is_sent =
        let c = crash_of s j in
        let reach = reach_of s j in
        record {
          says_nothing = sends_nothing s.n r c reach said;
          completing = λ h e. sends_to_all s.n r c reach said h e.completed;
          crashing = λ h nz e. sends_to_reach s.n r c reach said h (completes_not s r j (omega arith) (omega arith)) e;
          silent = λ lo hi.
              elim (true_or_false (eqb said nothing)) [
                | inl z ↦ sends_nothing s.n r c reach said (eqb-true said nothing z)
                | inr z ↦ sends_no_more s.n r c reach said (eqb-false said nothing z) (completes_not s r j lo (omega arith)) (λ e. omega arith)
              ];
        }

  -- there is a state for each process
  pub states_long : (r : ℕ) → length (states_after P s r) ≡ s.n
  unfolding states_after opened played
  states_long zero = length_tabulate s.n _
  states_long (suc r) = length_tabulate s.n _

  module _ (r i : ℕ) (l : i < s.n) where
    opens_as : after P s 0 i ≡ P.opening s.n s.t (i + 1) (vote_of s i)
    unfolding after states_after opened
    opens_as = get_d_tabulate s.n _ i _ l

    pub step_is : after P s (suc r) i ≡ next_state P s (suc r) (states_after P s r) i
    unfolding after states_after played
    step_is = get_d_tabulate s.n _ i _ l

    crashed_keeps : completes s (suc r) i ≡ false → after P s (suc r) i ≡ after P s r i
    unfolding after next_state
    crashed_keeps c = step_is ∙ crashed_stays P (suc r) _ _ _ c

    stopped_keeps : P.stopped (after P s r i) ≡ true → after P s (suc r) i ≡ after P s r i
    unfolding after next_state
    stopped_keeps e = step_is ∙ stopped_stays P (suc r) _ _ _ e

    other_hears : completes s (suc r) i ≡ true → P.stopped (after P s r i) ≡ false
        → after P s (suc r) i ≡ P.hears (after P s r i) (row_of P s (suc r) (states_after P s r) i)
    unfolding after next_state
    other_hears c e = step_is ∙ other_moves P (suc r) _ _ _ c e

    pub who_moves : WhoMoves P s r i
    who_moves = record {
      opens = opens_as;
      hears = λ c e. other_hears c.completed e;
      crashed = λ lo hi. crashed_keeps (completes_not s (suc r) i lo hi);
      rests = stopped_keeps;
    }
