-- In a run no call of a member is refused. A member opens in range, and an accepted hearing keeps it in range; its row is n long, holds codes that
-- members say, and in the own place what it says itself; nobody has decided before round 2, so no decided message comes before round 3; and by
-- agreement all decided messages of a row say the same. Assumes nothing.
use mathlib.Core.Path.{◌≡◌, refl, sym, ap, ◌∙◌}
use mathlib.Core.Logic.{◌⊎◌, inl, inr}
use mathlib.Core.List.{List}
use mathlib.Core.Bool.{true, false}
use Prim.Native.Nat.{ℕ, zero, suc, ◌+◌, ◌-◌, ◌≤◌, ◌<◌}
use native.Mathlib.Omega.{arith}
use lib.Dec.{leb}
use lib.ListN.{length, get_or}
use borrow.Author.Tests.{eq-eqb, lt-leb}
use Rattle.laws.specs.Answer.{ask}
use Rattle.laws.specs.Below.{tabulate}
use Rattle.laws.proofs.Test.{true_or_false, and_no_left, and_no_right}
use Rattle.laws.proofs.Counting.{split}
use Rattle.laws.proofs.Lists.{length_tabulate, get_d_tabulate}
use Rattle.member.specs.declared.Member.{Member}
use Rattle.member.specs.Opening.{open_question}
use Rattle.member.specs.State.{in_range, stopped}
use Rattle.member.specs.Saying.{says}
use Rattle.member.specs.Hearing.{tally_of, told_early, told_both}
use Rattle.member.specs.Questions.{say_question, row_question, hear_question}
use Rattle.member.proofs.Range.{limits_open}
use Rattle.member.proofs.Promises.{hearing_promises, opening_promises}
use Rattle.schedule.specs.Schedule.{Schedule, vote_of}
use Rattle.schedule.specs.Questions.{Rules}
use Rattle.run.specs.Protocol.{fcwfa}
use Rattle.run.specs.Run.{states_after, after}
use Rattle.run.specs.Facts.{NoneRefused}
use Rattle.run.proofs.World.{hears_nothing, hears_estimate, hears_decision, NobodyDecided}
use Rattle.run.proofs.States.{bits, heard_decision, stays, nobody_told}
use Rattle.run.proofs.Votes.{none_in_1}
use Rattle.run.proofs.Agreement.{agreement}
use Rattle.run.proofs.Rows.{counts_of, not_told, told_both_lem, no_others}
use Rattle.run.proofs.CrashRounds.{crash_round, alive, living}
use Rattle.run.proofs.Rounds.{who_hears_whom}
use Rattle.run.proofs.FcwfaMember.{Stands, behaves, round_is}
use Rattle.run.proofs.RunWorld.{code_of, row_is, state_is, opens_as, keeps_state, rests, hears_row, stands}
use Rattle.run.proofs.FcwfaRun.{run_world, laws, rules}

-- the questions about a row, each answered by yes
row_accepted : (limit : ℕ) (m : Member) (row : List ℕ) → in_range limit m ≡ true → stopped m ≡ false → length row ≡ m.n → (tally_of row).others ≡ 0
    → get_or row (m.id - 1) 0 ≡ says m → told_early m.round (tally_of row) ≡ false → told_both (tally_of row) ≡ false → hear_question limit m row ≡ 0
unfolding hear_question row_question ask
row_accepted limit m row r s l o own early both =
    rw (r, s, eq-eqb (length row) m.n l, eq-eqb (tally_of row).others 0 o, eq-eqb (get_or row (m.id - 1) 0) (says m) own, early, both) refl

module _ (s : Schedule) (ok : Rules s) where
  abbrev c : ℕ → ℕ → ℕ → ℕ
  c = code_of fcwfa s

  abbrev m : ℕ → ℕ → Member
  m r i = after fcwfa s r i

  -- every code that is heard is one of 0 to 4
  codes_low : (r i j : ℕ) → r ≤ s.t → i < s.n → j < s.n → c r i j ≤ 4
  codes_low r i j rt il jl =
      let b = bits (run_world s) (laws s ok) r (omega arith) j jl in
      elim ((laws s ok).heard r i j rt il jl) [ hears_nothing e _ ↦ omega arith | hears_estimate _ _ e ↦ omega arith | hears_decision _ _ _ e ↦ omega arith ]

  -- the value of a decided message is the one that all decide
  message_value : (r i v : ℕ) → r ≤ s.t → i < s.n → (j : ℕ) → j < s.n → c r i j ≡ 3 + v → (agreement (run_world s) (laws s ok) (rules s ok)).0 ≡ v
  message_value r i v rt il j jl e =
      let b = bits (run_world s) (laws s ok) r (omega arith) j jl in
      let h = heard_decision (run_world s) (laws s ok) r i j rt il jl b (omega arith) in
      let d = h.2 in
      let q = h.3 in
      let p = h.1 in
      let st = stays (run_world s) (laws s ok) r (suc s.t) j (omega arith) (omega arith) jl (omega arith) in
      let g = (agreement (run_world s) (laws s ok) (rules s ok)).1 j jl (omega arith) in
      omega arith

  never_both : (r i : ℕ) → r ≤ s.t → i < s.n → told_both (tally_of (tabulate s.n (c r i))) ≡ false
  never_both r i rt il =
      elim (true_or_false (told_both (tally_of (tabulate s.n (c r i))))) [
        | inr e ↦ e
        | inl e ↦
            let x = told_both_lem s.n (c r i) (tally_of (tabulate s.n (c r i))) (counts_of s.n (c r i)) e in
            let y = message_value r i 0 rt il x.0.0 x.0.1 x.0.2 in
            let z = message_value r i 1 rt il x.1.0 x.1.1 x.1.2 in
            absurd (omega arith)
      ]

  -- nobody has decided before round 2
  nobody_early : (r : ℕ) → r < 2 → NobodyDecided (run_world s) r
  nobody_early r h j jl =
      elim (split r 0) [
        | inl a ↦ let z : r ≡ 0 = omega arith in rw z ((laws s ok).opens_undecided j jl)
        | inr a ↦ let z : r ≡ 1 = omega arith in rw z (none_in_1 (run_world s) (laws s ok) (rules s ok) j jl)
      ]

  never_early : (r i round : ℕ) → r ≤ s.t → i < s.n → round ≡ suc r → told_early round (tally_of (tabulate s.n (c r i))) ≡ false
  unfolding told_early
  never_early r i round rt il e =
      elim (split 2 r) [
        | inl a ↦ and_no_left (leb round 2) _ (lt-leb round 2 (omega arith))
        | inr a ↦
            let low = nobody_told (run_world s) (laws s ok) r i rt il (nobody_early r a) in
            and_no_right (leb round 2) _ (not_told s.n (c r i) (tally_of (tabulate s.n (c r i))) (counts_of s.n (c r i)) low)
      ]

  module _ (limit : ℕ) (high : s.n ≤ limit) where
    -- a member of the run, crashed or not
    record Member-at (r i : ℕ) : Type 0 where
      in_range : in_range limit (m r i) ≡ true
      n_is : (m r i).n ≡ s.n
      id_is : (m r i).id ≡ i + 1

    heard_well : (r i : ℕ) → r ≤ s.t → i < s.n → Member-at r i → suc r < crash_round s i → stopped (m r i) ≡ false
        → hear_question limit (m r i) (tabulate s.n (c r i)) ≡ 0
    heard_well r i rt l a al runs =
        let at = stands fcwfa 1 Stands behaves s r (omega arith) i l (omega arith) in
        let place : (m r i).id - 1 ≡ i = let q = a.id_is in omega arith in
        let self = (who_hears_whom fcwfa s (suc r) (states_after fcwfa s r) i i).completing (record { process = l; completed = living s (suc r) i al }) in
        let own : c r i i ≡ says (m r i) = self ∙ ap says (state_is fcwfa s r i) in
        row_accepted limit (m r i) (tabulate s.n (c r i)) a.in_range runs
        (length_tabulate s.n (c r i) ∙ sym a.n_is)
        (no_others s.n (c r i) (tally_of (tabulate s.n (c r i))) (counts_of s.n (c r i)) (λ j jl. codes_low r i j rt l jl))
        (rw place (get_d_tabulate s.n (c r i) i 0 l ∙ own))
        (never_early r i (m r i).round rt l (round_is s.n s.t r (m r i) rt at runs))
        (never_both r i rt l)

    opens_well : (i : ℕ) → i < s.n → open_question limit s.n s.t (i + 1) (vote_of s i) ≡ 0
    opens_well i l =
        let tl = ok.t_low in
        let th = ok.t_high in
        limits_open limit s.n s.t (i + 1) (vote_of s i)
        (record { n_low = omega arith; n_high = high; t_low = tl; t_high = th; id_low = omega arith; id_high = omega arith; value_high = (ok.process i l).vote })

    same_member : (r i : ℕ) → m (suc r) i ≡ m r i → Member-at r i → Member-at (suc r) i
    same_member r i e a = record { in_range = rw e a.in_range; n_is = rw e a.n_is; id_is = rw e a.id_is }

    member_at : (r : ℕ) → r ≤ suc s.t → (i : ℕ) → i < s.n → Member-at r i
    member_at zero rt i l =
        let e = opens_as fcwfa s i l in
        record {
          in_range = rw e ((opening_promises limit s.n s.t (i + 1) (vote_of s i)).in_range (opens_well i l));
          n_is = rw e refl;
          id_is = rw e refl;
        }
    member_at (suc r) rt i l = go (member_at r (omega arith) i l) (split (crash_round s i) (suc r)) (true_or_false (stopped (m r i)))
      where
        go : Member-at r i → (crash_round s i ≤ suc r) ⊎ (suc r < crash_round s i) → (stopped (m r i) ≡ true) ⊎ (stopped (m r i) ≡ false) → Member-at (suc r) i
        go a (inl f) _ = same_member r i (keeps_state fcwfa s r i (omega arith) l f) a
        go a (inr f) (inl e) = same_member r i (rests fcwfa s r i l e) a
        go a (inr f) (inr e) =
            let h = hears_row fcwfa s r i l f e in
            let p = hearing_promises limit (m r i) (tabulate s.n (c r i)) in
            record {
              in_range = rw h (p.in_range (heard_well r i (omega arith) l a f e));
              n_is = rw h (p.n_kept ∙ a.n_is);
              id_is = rw h (p.id_kept ∙ a.id_is);
            }

    pub none_refused : NoneRefused fcwfa limit s
    unfolding say_question ask
    none_refused = record {
      opens = opens_well;
      says = λ r i rt l. rw (member_at r (omega arith) i l).in_range refl;
      hears = λ r i rt h runs.
          rw (row_is fcwfa s r i)
          (heard_well r i rt h.process (member_at r (omega arith) i h.process) (alive s (suc r) i (omega arith) h.completed) runs);
    }
