-- Demand 3 holds of the run of every schedule that keeps the rules, for every n and t. Round B follows from the crashes so far; each other part is what
-- the files on votes, agreement and messages show of the run as plain numbers. Assumes nothing.
use mathlib.Core.Path.{◌≡◌, ap, ◌∙◌}
use mathlib.Core.Logic.{inl, inr, ◌≢◌}
use Prim.Native.Nat.{ℕ, suc, ◌-◌, ◌*◌, ◌≤◌, ◌<◌, min}
use native.Mathlib.Nat.{eq-zero-or-pos, le_trans, le_of_eq, mul_comm, mul-le-mul}
use native.Mathlib.Numerals.{add-one}
use native.Mathlib.Omega.{arith}
use Rattle.laws.specs.Below.{sum}
use Rattle.schedule.specs.Schedule.{Schedule}
use Rattle.schedule.specs.Questions.{Rules}
use Rattle.run.specs.Protocol.{fcwfa}
use Rattle.run.specs.Run.{state_at, after, final}
use Rattle.run.specs.Report.{messages, report}
use Rattle.run.specs.Demand.{Completes, Decides, CompletesUndecided, round_b, most_messages, Demand3}
use Rattle.run.specs.CrashesSoFar.{NobodyUndecided}
use Rattle.run.proofs.World.{crashes}
use Rattle.run.proofs.States.{stays}
use Rattle.run.proofs.Votes.{abort, abort_2, commit_2}
use Rattle.run.proofs.Agreement.{agreement}
use Rattle.run.proofs.Messages.{bounded}
use Rattle.run.proofs.CrashRounds.{alive, living, crashes_all}
use Rattle.run.proofs.CrashesSoFar.{by_crashes_so_far, by_last_round}
use Rattle.run.proofs.RoundB.{round_b_follows}
use Rattle.run.proofs.FcwfaMember.{Stands, behaves}
use Rattle.run.proofs.RunWorld.{vote_is, sent_of, sent_high, sent_by_lem}
use Rattle.run.proofs.FcwfaRun.{run_world, laws, rules}

module _ (s : Schedule) (ok : Rules s) where
  -- the end of the run is the state after round t + 1
  pub end_is : (i : ℕ) → state_at (final fcwfa s) i ≡ after fcwfa s (suc s.t) i
  unfolding final after
  end_is i = ap (λ r. after fcwfa s r i) (add-one s.t)

  pub at_end : (i v r : ℕ) → Decides fcwfa s i v r → (0 < (after fcwfa s (suc s.t) i).decided) × ((after fcwfa s (suc s.t) i).estimate ≡ v)
  at_end i v r d =
      let a = ap (λ m. m.decided) (end_is i) in
      let b = ap (λ m. m.estimate) (end_is i) in
      let x = d.round in
      let y : r ≢ 0 = d.not_none in
      let z = d.value in
      (omega arith, omega arith)

  -- what was decided in round r stands at the end
  pub lasts : (i v r : ℕ) → i < s.n → 0 < r → r ≤ suc s.t → (after fcwfa s r i).decided ≡ r → (after fcwfa s r i).estimate ≡ v → Decides fcwfa s i v r
  lasts i v r l p rt d e =
      let st = stays (run_world s) (laws s ok) r (suc s.t) i rt (omega arith) l (omega arith) in
      let a = ap (λ m. m.decided) (end_is i) in
      let b = ap (λ m. m.estimate) (end_is i) in
      record { process = l; round = omega arith; not_none = λ z. omega arith; value = omega arith }

  abbrev f : ℕ
  f = (report fcwfa s).f

  abbrev B : ℕ
  B = round_b f s.t

  nobody_by_b : NobodyUndecided (CompletesUndecided fcwfa s) B
  nobody_by_b = round_b_follows s (CompletesUndecided fcwfa s) (by_crashes_so_far s ok) (by_last_round s ok) ok.few

  -- so whoever completes round B has decided by then
  by_round_b : (i : ℕ) → Completes s B i → 0 < (after fcwfa s B i).decided
  by_round_b i c =
      elim (eq-zero-or-pos (after fcwfa s B i).decided) [
        | inl z ↦ absurd (nobody_by_b i (record { completes_it = c; undecided = z }))
        | inr p ↦ p
      ]

  messages_are : (report fcwfa s).messages ≡ sum (suc s.t) (λ r. sum s.n (sent_of fcwfa 1 Stands behaves s r))
  unfolding messages
  messages_are = sum_as _ (suc s.t) (omega arith)
    where
      sum_as : (k n : ℕ) → k ≡ n → sum k (λ r. sum s.n (sent_of fcwfa 1 Stands behaves s r)) ≡ sum n (λ r. sum s.n (sent_of fcwfa 1 Stands behaves s r))
      sum_as k n e = ap (λ j. sum j (λ r. sum s.n (sent_of fcwfa 1 Stands behaves s r))) e

  messages_high : (report fcwfa s).messages ≤ s.n * (s.n - 1) * min (suc B) (suc s.t)
  messages_high =
      rw (mul_comm s.n (s.n - 1))
      (le_trans (le_of_eq messages_are)
      (bounded (run_world s) (laws s ok) (s.n - 1) (sent_of fcwfa 1 Stands behaves s)
      (λ r j _. sent_high fcwfa 1 Stands behaves s ok r j) (sent_by_lem fcwfa 1 Stands behaves s) B
      (λ i l a. by_round_b i (record { process = l; completed = living s B i a }))))

  within_bound : (report fcwfa s).messages ≤ most_messages s.n s.t f
  unfolding most_messages
  within_bound = le_trans messages_high (mul-le-mul (mul-le-mul (omega arith) (omega arith)) (omega arith))

  pub demand_3 : Demand3 s
  demand_3 = record {
    agreement = λ i k v x q r a b.
        let g = agreement (run_world s) (laws s ok) (rules s ok) in
        let y = at_end i v q a in
        let z = at_end k x r b in
        let p = g.1 i a.process y.0 in
        let o = g.1 k b.process z.0 in
        omega arith;
    abort_validity = λ z i v r a.
        let y = at_end i v r a in
        let vote = vote_is fcwfa 1 Stands behaves s z.voter z.process ∙ z.vote in
        let g = abort (run_world s) (laws s ok) (rules s ok) z.voter z.process vote i a.process y.0 in
        omega arith;
    round_b = nobody_by_b;
    message_bound = within_bound;
    weak_fast_abort = λ z i h.
        let tl = ok.t_low in
        let vote = vote_is fcwfa 1 Stands behaves s z.voter z.process ∙ z.vote in
        let g = abort_2 (run_world s) (laws s ok) (rules s ok) z.voter z.process vote i h.process (alive s 2 i (omega arith) h.completed) in
        lasts i 0 2 h.process (omega arith) (omega arith) g.0 g.1;
    fast_commit = λ all none i l.
        let tl = ok.t_low in
        let every = crashes_all s ok in
        let no_crash : crashes (run_world s) (suc s.t) ≡ 0 = omega arith in
        let g = commit_2 (run_world s) (laws s ok) (rules s ok) (λ j jl. vote_is fcwfa 1 Stands behaves s j jl ∙ all j jl) no_crash i l in
        lasts i 1 2 l (omega arith) (omega arith) g.0 g.1;
  }
