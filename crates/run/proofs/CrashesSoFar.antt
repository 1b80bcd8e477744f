-- By the crashes so far, of the run of every schedule that keeps the rules: what early decision says of a run as plain numbers, said of its rounds. And
-- nobody completes the last round undecided. Assumes nothing.
use mathlib.Core.Path.{◌≡◌, refl, ap}
use Prim.Native.Nat.{ℕ, zero, suc, ◌+◌, ◌≤◌, ◌<◌}
use native.Mathlib.Numerals.{add-one}
use native.Mathlib.Omega.{arith}
use Rattle.schedule.specs.Schedule.{Schedule, crashed_by}
use Rattle.schedule.specs.Questions.{Rules}
use Rattle.run.specs.Protocol.{fcwfa}
use Rattle.run.specs.Run.{after}
use Rattle.run.specs.Demand.{CompletesUndecided}
use Rattle.run.specs.CrashesSoFar.{CrashesSoFar, LastRound}
use Rattle.run.proofs.World.{Plays}
use Rattle.run.proofs.States.{undecided, last_round}
use Rattle.run.proofs.EarlyDecision.{EndsUndecided, crashes_so_far}
use Rattle.run.proofs.CrashRounds.{alive, crashes_are}
use Rattle.run.proofs.FcwfaRun.{run_world, laws, rules}

module _ (s : Schedule) (ok : Rules s) where
  -- what the crashes are where process i completes round r + 1 undecided
  ends_undecided : (r i : ℕ) → 0 < r → r ≤ s.t → CompletesUndecided fcwfa s (suc r) i → EndsUndecided (run_world s) r
  ends_undecided r i p rt h =
      let l = h.completes_it.process in
      let a = alive s (suc r) i (omega arith) h.completes_it.completed in
      let before = undecided (run_world s) (laws s ok) r (suc r) i (omega arith) (omega arith) l h.undecided in
      let o : Plays (run_world s) r i = record { time = rt; process = l; alive = a; undecided = before } in
      crashes_so_far (run_world s) (laws s ok) (rules s ok) r i o p h.undecided

  so_far : (r i : ℕ) → 2 ≤ r → r ≤ s.t → CompletesUndecided fcwfa s r i → (r < s.t → r ≤ crashed_by s r + 1) × (r ≡ s.t → s.t ≤ crashed_by s r)
  so_far zero i p rt h = absurd (omega arith)
  so_far (suc r) i p rt h =
      let e = crashes_are s (suc r) (omega arith) in
      let k = ends_undecided r i (omega arith) (omega arith) h in
      ((λ b. let y = k.early b in omega arith), (λ b. let y = k.round_t b in omega arith))

  pub by_crashes_so_far : CrashesSoFar s (CompletesUndecided fcwfa s)
  by_crashes_so_far =
      let tl = ok.t_low in
      record {
        early = λ r i p rt h. let y = (so_far r i p (omega arith) h).0 (omega arith) in omega arith;
        round_t = λ i h. let y = (so_far s.t i (omega arith) (omega arith) h).1 refl in omega arith;
      }

  pub by_last_round : LastRound s (CompletesUndecided fcwfa s)
  by_last_round i h =
      let a = alive s (s.t + 1) i (omega arith) h.completes_it.completed in
      let p = last_round (run_world s) (laws s ok) i h.completes_it.process (omega arith) in
      let e = ap (λ r. (after fcwfa s r i).decided) (add-one s.t) in
      let u = h.undecided in
      omega arith
