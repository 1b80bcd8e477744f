-- The reported f counts the crashes, and the reported tables hold what each process decides and in which round, and 2 and 0 for none. A round there
-- that is not 0 is at most r exactly if the decision stands after round r, since a decision stays and is made in the round that it names. Assumes nothing.
use mathlib.Core.Path.{◌≡◌, sym, ap, ◌∙◌}
use mathlib.Core.Logic.{inl, inr, ◌≢◌}
use Prim.Native.Nat.{ℕ, suc, ◌+◌, ◌≤◌, ◌<◌}
use native.Mathlib.Nat.{eq-zero-or-pos}
use native.Mathlib.Omega.{arith}
use lib.Dec.{eqb}
use lib.ListN.{length, get_or, get_or-eq_default}
use borrow.Author.Tests.{eq-eqb, ne_eqb}
use Rattle.laws.proofs.Test.{cond_true, cond_false}
use Rattle.laws.proofs.Counting.{split}
use Rattle.laws.proofs.Lists.{length_tabulate, get_d_tabulate}
use Rattle.member.specs.declared.Member.{Member}
use Rattle.schedule.specs.Schedule.{Schedule}
use Rattle.schedule.specs.Questions.{Rules}
use Rattle.schedule.proofs.Crashes.{all_crashes}
use Rattle.run.specs.Protocol.{Protocol, fcwfa, nobody}
use Rattle.run.specs.Run.{state_at, final}
use Rattle.run.specs.Report.{round_of, decision_of, report}
use Rattle.run.specs.Demand.{CompletesUndecided}
use Rattle.run.specs.Given.{GivenNoneBy}
use Rattle.run.specs.Facts.{Reported}
use Rattle.run.proofs.Rounds.{states_long}
use Rattle.run.proofs.States.{bits, range, stays, between}
use Rattle.run.proofs.FcwfaRun.{run_world, laws}
use Rattle.run.proofs.Demand.{end_is}

-- the table of rounds, read at any place, even past its end
module _ (P : Protocol) (s : Schedule) where
  final_long : length (final P s) ≡ s.n
  unfolding final
  final_long = states_long P s (s.t + 1)

  pub rounds_read : (i : ℕ) → get_or (report P s).rounds i 0 ≡ round_of (final P s) i
  rounds_read i =
      elim (split s.n i) [
        | inl a ↦
            let e = length_tabulate s.n (round_of (final P s)) in
            let f = final_long in
            get_or-eq_default (report P s).rounds 0 (omega arith) ∙ sym (ap (λ (m : Member). m.decided) (get_or-eq_default (final P s) nobody (omega arith)))
        | inr a ↦ get_d_tabulate s.n (round_of (final P s)) i 0 a
      ]

module _ (s : Schedule) (ok : Rules s) where
  abbrev ended : ℕ → ℕ
  ended = round_of (final fcwfa s)

  abbrev value : ℕ → ℕ
  value i = (state_at (final fcwfa s) i).estimate

  round_at : (i : ℕ) → i < s.n → get_or (report fcwfa s).rounds i 0 ≡ ended i
  round_at i l = rounds_read fcwfa s i

  decided_at : (i : ℕ) → i < s.n → ended i ≢ 0 → get_or (report fcwfa s).decisions i 2 ≡ value i
  unfolding decision_of
  decided_at i l d = get_d_tabulate s.n (decision_of (final fcwfa s)) i 2 l ∙ cond_false (eqb (ended i) 0) _ (value i) (ne_eqb (ended i) 0 d)

  undecided_at : (i : ℕ) → i < s.n → ended i ≡ 0 → get_or (report fcwfa s).decisions i 2 ≡ 2
  unfolding decision_of
  undecided_at i l z = get_d_tabulate s.n (decision_of (final fcwfa s)) i 2 l ∙ cond_true (eqb (ended i) 0) 2 _ (eq-eqb (ended i) 0 z)

  value_low : (i : ℕ) → i < s.n → value i ≤ 1
  value_low i l =
      let b = bits (run_world s) (laws s ok) (suc s.t) (omega arith) i l in
      let e = ap (λ m. m.estimate) (end_is s ok i) in
      omega arith

  given_none : (r i : ℕ) → r ≤ s.t + 1 → CompletesUndecided fcwfa s r i → GivenNoneBy s (report fcwfa s) r i
  given_none r i high h =
      let l = h.completes_it.process in
      let e = round_at i l in
      let f = ap (λ m. m.decided) (end_is s ok i) in
      record {
        completes_it = h.completes_it;
        none_by =
            elim (eq-zero-or-pos (ended i)) [
              | inl z ↦ inl (omega arith)
              | inr p ↦
                  let later = between (run_world s) (laws s ok) r (suc s.t) i (omega arith) (omega arith) l h.undecided (omega arith) in
                  inr (omega arith)
            ];
      }

  none_given : (r i : ℕ) → r ≤ s.t + 1 → GivenNoneBy s (report fcwfa s) r i → CompletesUndecided fcwfa s r i
  none_given r i high g =
      let l = g.completes_it.process in
      let e = round_at i l in
      let f = ap (λ m. m.decided) (end_is s ok i) in
      record {
        completes_it = g.completes_it;
        undecided =
            elim (range (run_world s) (laws s ok) r (omega arith) i l) [
              | inl z ↦ z
              | inr made ↦
                  let low = made.low in
                  let by = made.high in
                  let st = stays (run_world s) (laws s ok) r (suc s.t) i (omega arith) (omega arith) l low in
                  absurd (elim g.none_by [ inl none ↦ omega arith | inr later ↦ omega arith ])
            ];
      }

  pub reported : Reported s
  reported = record {
    crashes = sym (all_crashes s ok);
    decisions_long = length_tabulate s.n (decision_of (final fcwfa s));
    rounds_long = length_tabulate s.n ended;
    decided = λ i v r d.
        let l = d.process in
        let e : ended i ≡ r = d.round in
        let nz : r ≢ 0 = d.not_none in
        let x = d.value in
        let low = value_low i l in
        (decided_at i l (λ z. omega arith) ∙ x, round_at i l ∙ e, omega arith);
    decides = λ i l d.
        let e = round_at i l in
        let q : ended i ≢ 0 = λ z. d (e ∙ z) in
        record { process = l; round = sym e; not_none = d; value = sym (decided_at i l q) };
    undecided = λ i l z. undecided_at i l (sym (round_at i l) ∙ z);
    given_none = given_none;
    none_given = none_given;
  }
