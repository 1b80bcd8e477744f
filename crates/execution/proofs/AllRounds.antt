-- The rounds of the code are the rounds of the run: each leaves the states that the members' own answers give and adds its messages. Where no call is
-- refused these are the run's, and after a round in which nothing is sent nothing happens any more. Assumes nothing.
use mathlib.Core.Path.{◌≡◌, sym, ap, ap₂, ◌∙◌}
use mathlib.Core.Logic.{inl, inr}
use mathlib.Core.List.{List}
use Prim.Native.Nat.{ℕ, suc, ◌+◌, ◌*◌, ◌≤◌, ◌<◌}
use native.Mathlib.Numerals.{add-one}
use native.Mathlib.Omega.{arith}
use lib.ListN.{length, get_or, replicate, length-replicate, get_or-replicate, get_or-eq_default}
use lib.Seq.{ext_get_or}
use Rattle.laws.specs.Below.{sum, tabulate}
use Rattle.laws.specs.Filled.{Overwritten}
use Rattle.laws.proofs.Below.{sum_start, sum_step}
use Rattle.laws.proofs.Counting.{split}
use Rattle.laws.proofs.Sums.{sum_same, sum_ends}
use Rattle.laws.proofs.Lists.{length_tabulate, get_d_tabulate, tabulate_same}
use Rattle.laws.proofs.Overwritten.{over_at, over_past, over_long, over_so, over_again}
use Rattle.member.specs.declared.Member.{Member}
use Rattle.sets.specs.Largest.{largest, fitting}
use Rattle.sets.specs.Tables.{padded}
use Rattle.sets.proofs.Theorem.{table_facts}
use Rattle.schedule.specs.Schedule.{Schedule, crash_of, reach_of}
use Rattle.run.specs.Protocol.{Protocol, nobody, by_calls}
use Rattle.run.specs.Run.{delivered, heard_from, state_at, code_said, code_heard, row_of, state_after, next_state, states_after, after}
use Rattle.run.specs.Report.{sent_by, messages_of, sent_after}
use Rattle.run.specs.Facts.{SilentFrom, OwnAnswers}
use Rattle.run.proofs.Rounds.{states_long, step_is, who_moves}
use Rattle.execution.specs.Rounds.{no_members, Opens, PlaysRound}
use Rattle.execution.specs.Ran.{members_after, Plays}
use Rattle.execution.proofs.OneRound.{code_at, said_start, said_again}

module _ (P : Protocol) (s : Schedule) where
  -- members that stand as after r rounds, with nobody after them
  abbrev pub Stand : ℕ → List Member → Type 0
  Stand r members = Overwritten s.n (after P s r) no_members members

  -- what holds between two rounds of the code, after r of them: the members stand as in the run, the codes are what they say, and the grid has a row for
  -- each process
  pub record Between (grid : List (List ℕ)) (codes : List ℕ) (members : List Member) (r : ℕ) : Type 0 where
    pub states : Stand r members
    pub said : codes ≡ padded (fitting s.n) (code_said P members)
    pub room : s.n ≤ length grid

  -- and what was counted in these rounds, of which there are `last` at most
  pub record Counted (last messages r : ℕ) : Type 0 where
    pub inside : r ≤ last
    pub counted : messages ≡ sum r (sent_after P s)
    pub few : messages ≤ largest * largest * r

  pub nothing_counted : (last : ℕ) → Counted last 0 0
  nothing_counted last = record { inside = omega arith; counted = sum_start (sent_after P s); few = omega arith }

  module _ (small : s.n ≤ largest) where
    fits : fitting s.n ≡ s.n
    fits = omega arith

    pub starts : {grid : List (List ℕ)} {before codes : List ℕ} {members : List Member} → s.n ≤ length grid → Opens P (fitting s.n) s.t s.votes members
        → before ≡ replicate largest 0 → Overwritten (fitting s.n) (code_said P members) before codes → Between grid codes members 0
    starts room f zeros said = record {
      states = over_so (rw fits at f) (λ i l. sym (who_moves P s 0 i l).opens);
      said = said_start (fitting s.n) zeros said;
      room = room;
    }

    -- A round that follows r rounds.
    module _ (r : ℕ) {grid : List (List ℕ)} {codes : List ℕ} {members : List Member} (h : Between grid codes members r) where
      state_at_lem : (i : ℕ) → i < s.n → state_at members i ≡ state_at (states_after P s r) i
      unfolding after
      state_at_lem i l = over_at h.states i nobody l

      says_same : (j : ℕ) → j < s.n → code_said P members j ≡ code_said P (states_after P s r) j
      says_same j l = ap P.says (state_at_lem j l)

      -- the codes are what the members say
      pub said_at : (j : ℕ) → j < fitting s.n → get_or codes j 0 ≡ code_said P members j
      said_at = code_at (fitting s.n) (code_said P members) h.said

      -- and there are as many as the largest cluster has
      pub codes_long : length codes ≡ largest
      codes_long = ap (λ (l : List ℕ). length l) h.said ∙ (table_facts (fitting s.n) (code_said P members)).long (omega arith)

      row_same : (i : ℕ) → tabulate s.n (heard_from s.crashes s.reaches (suc r) (code_said P members) i) ≡ row_of P s (suc r) (states_after P s r) i
      unfolding row_of code_heard
      row_same i = tabulate_same s.n _ _ (λ j l. ap (delivered (suc r) i (crash_of s j) (reach_of s j)) (says_same j l))

      next_same : (i : ℕ) → i < s.n
          → state_after P (suc r) (crash_of s i) (state_at members i) (tabulate s.n (heard_from s.crashes s.reaches (suc r) (code_said P members) i)) ≡ after P s (suc r) i
      unfolding next_state
      next_same i l = ap₂ (state_after P (suc r) (crash_of s i)) (state_at_lem i l) (row_same i) ∙ sym (step_is P s r i l)

      next_states : {next : List Member} → PlaysRound P s.n (suc r) members s.crashes s.reaches next → Stand (suc r) next
      next_states f = over_so (over_again h.states f) next_same

      -- the round is played, with its number as the code has it
      pub goes_on : {next : List Member} {grid_now : List (List ℕ)} {codes_now : List ℕ} → PlaysRound P (fitting s.n) (r + 1) members s.crashes s.reaches next
          → Overwritten (fitting s.n) (code_said P next) codes codes_now → length grid_now ≡ length grid → Between grid_now codes_now next (r + 1)
      goes_on f said kept =
          let room = h.room in
          record {
            states = rw (add-one r) (next_states (rw (add-one r, fits) at f));
            said = said_again (fitting s.n) (code_said P members) h.said said;
            room = omega arith;
          }

      -- and its messages are counted
      pub sent_in : {k : ℕ} → k ≡ messages_of s.crashes s.reaches (r + 1) (λ j. get_or codes j 0) (fitting s.n) → k ≡ sent_after P s r
      sent_in e =
          rw (add-one r, fits) at e
          ∙ sum_same s.n _ _ (λ j l. ap (sent_by s.n (suc r) (crash_of s j) (reach_of s j)) (said_at j (omega arith) ∙ says_same j l))

  pub counts_on : {last messages r k : ℕ} → Counted last messages r → r < last → k ≡ sent_after P s r → k ≤ largest * largest → Counted last (messages + k) (r + 1)
  counts_on {r = r} h l e high =
      let so_far = h.few in
      record { inside = omega arith; counted = sum_step r (sent_after P s) _ _ h.counted e; few = omega arith }

-- The end of the rounds is that of the run, where no call is refused in it.
module _ (P : Protocol) (s : Schedule) (small : s.n ≤ largest) (own : OwnAnswers P largest s) where
  -- the member at a place is the run's
  module _ {members : List Member} {r : ℕ} (inside : r ≤ s.t + 1) (h : Stand (by_calls largest P) s r members) where
    pub process_at : (i : ℕ) → i < s.n → state_at members i ≡ state_at (states_after P s r) i
    unfolding after
    process_at i l = over_at h i nobody l ∙ ap (λ (states : List Member). state_at states i) (own.states r inside)

    member_at : (i : ℕ) → i < largest → state_at members i ≡ state_at (states_after P s r) i
    member_at i l =
        elim (split s.n i) [
          | inl a ↦
              let long = states_long P s r in
              over_past h i nobody a ∙ get_or-replicate largest i nobody nobody l ∙ sym (get_or-eq_default (states_after P s r) nobody (omega arith))
          | inr a ↦ process_at i a
        ]

    members_long : length members ≡ largest
    members_long = let e = length-replicate largest nobody in over_long h (omega arith) ∙ e

    members_are : members ≡ members_after P s r
    members_are =
        let long = members_long in
        let e = length_tabulate largest (state_at (states_after P s r)) in
        ext_get_or nobody members (members_after P s r) (long ∙ sym e)
        (λ i l. member_at i (omega arith) ∙ sym (get_d_tabulate largest (state_at (states_after P s r)) i nobody (omega arith)))

  module _ {last : ℕ} (rounds : last ≤ s.t + 1) {members : List Member} {messages r : ℕ} (h : Stand (by_calls largest P) s r members)
      (so_far : Counted (by_calls largest P) s last messages r) where
    inside : r ≤ s.t + 1
    inside = let a = so_far.inside in omega arith

    -- the same messages, where no round is played past t + 1
    counted_are : messages ≡ sum r (sent_after P s)
    counted_are = so_far.counted ∙ sum_same r _ _ (λ k l. let a = so_far.inside in own.sends k (omega arith))

    pub ends_last : last ≤ r → Plays P s last members messages
    ends_last l =
        let a = so_far.inside in
        let e : r ≡ last = omega arith in
        rw (← e) (record { states = members_are inside h; counted = counted_are })

    pub ends_silent : ((k : ℕ) → sent_after P s k ≡ 0 → SilentFrom P s k) → r < last → sent_after (by_calls largest P) s r ≡ 0 → Plays P s last members messages
    ends_silent silence l none =
        let q = silence r (sym (own.sends r (omega arith)) ∙ none) in
        record {
          states = members_are inside h ∙ ap (λ (states : List Member). tabulate largest (state_at states)) (sym (q.states last (omega arith)));
          counted = counted_are ∙ sym (sum_ends last r (sent_after P s) (omega arith) q.sends);
        }
