-- What is promised of what is given: the tables hold what each process decides, and give no decision by a round just to those that complete it
-- undecided. So the crashes so far hold of them, and round B and the settling round follow for them as they do for the run. Assumes nothing.
use mathlib.Core.Path.{refl, sym, ap, ◌∙◌}
use mathlib.Core.Logic.{inl, inr, ◌≢◌}
use Prim.Native.Nat.{ℕ, suc, ◌+◌, ◌≤◌}
use native.Mathlib.Nat.{eq-zero-or-pos}
use native.Mathlib.Omega.{arith}
use Rattle.laws.proofs.Counting.{split}
use Rattle.schedule.specs.Schedule.{Schedule}
use Rattle.schedule.specs.Questions.{Rules}
use Rattle.run.specs.Protocol.{fcwfa}
use Rattle.run.specs.Report.{Report, given_round, report}
use Rattle.run.specs.Demand.{Completes, Decides}
use Rattle.run.specs.CrashesSoFar.{NobodyUndecided, CrashesSoFar, LastRound, settling_of}
use Rattle.run.specs.Given.{Gives, GivesBy, GivenNoneBy, given_b, GivenDemand3, GivenPromises}
use Rattle.run.proofs.States.{range}
use Rattle.run.proofs.CrashRounds.{living}
use Rattle.run.proofs.FcwfaRun.{run_world, laws}
use Rattle.run.proofs.CrashesSoFar.{by_crashes_so_far, by_last_round}
use Rattle.run.proofs.RoundB.{round_b_follows, settling_follows}
use Rattle.run.proofs.Demand.{end_is, demand_3}
use Rattle.run.proofs.Reported.{rounds_read, reported}
use Rattle.run.proofs.Deciders.{deciders}

-- of any tables: whoever completes a round that nobody completes without a decision by then is given one
given_by : (s : Schedule) (given : Report) (b : ℕ) → NobodyUndecided (GivenNoneBy s given) b → (i : ℕ) → Completes s b i → GivesBy s given b i
given_by s given b nobody i c =
    elim (eq-zero-or-pos (given_round given i)) [
      | inl none ↦ absurd (nobody i (record { completes_it = c; none_by = inl none }))
      | inr some ↦
          elim (split (given_round given i) b) [
            | inr later ↦ absurd (nobody i (record { completes_it = c; none_by = inr later }))
            | inl by ↦
                record {
                  value = _;
                  in_round = _;
                  gives = record { process = c.process; decision = refl; round = refl; not_none = λ z. omega arith };
                  by = by;
                }
          ]
    ]

module _ (s : Schedule) (ok : Rules s) where
  gives : (i v r : ℕ) → Decides fcwfa s i v r → Gives s (report fcwfa s) i v r
  gives i v r d = let x = (reported s ok).decided i v r d in record { process = d.process; decision = x.0; round = x.1; not_none = d.not_none }

  decides : (i v r : ℕ) → Gives s (report fcwfa s) i v r → Decides fcwfa s i v r
  decides i v r g =
      let d = (reported s ok).decides i g.process (λ z. g.not_none (sym g.round ∙ z)) in
      record { process = g.process; round = d.round ∙ g.round; not_none = g.not_none; value = d.value ∙ g.decision }

  given_so_far : CrashesSoFar s (GivenNoneBy s (report fcwfa s))
  given_so_far =
      let k = by_crashes_so_far s ok in
      let none_given = (reported s ok).none_given in
      record {
        early = λ r i low high g. k.early r i low high (none_given r i (omega arith) g);
        round_t = λ i g. k.round_t i (none_given s.t i (omega arith) g);
      }

  given_last : LastRound s (GivenNoneBy s (report fcwfa s))
  given_last i g = by_last_round s ok i ((reported s ok).none_given (s.t + 1) i (omega arith) g)

  nobody_by_b : NobodyUndecided (GivenNoneBy s (report fcwfa s)) (given_b s (report fcwfa s))
  nobody_by_b = round_b_follows s (GivenNoneBy s (report fcwfa s)) given_so_far given_last ok.few

  given_demand_3 : GivenDemand3 s (report fcwfa s)
  given_demand_3 =
      let d = demand_3 s ok in
      record {
        agreement = λ i k v x q r g h. d.agreement i k v x q r (decides i v q g) (decides k x r h);
        abort_validity = λ z i v r g. d.abort_validity z i v r (decides i v r g);
        round_b = given_by s (report fcwfa s) (given_b s (report fcwfa s)) nobody_by_b;
        message_bound = d.message_bound;
        weak_fast_abort = λ z i c. gives i 0 2 (d.weak_fast_abort z i c);
        fast_commit = λ all none i l. gives i 1 2 (d.fast_commit all (omega arith) i l);
      }

  settled : NobodyUndecided (GivenNoneBy s (report fcwfa s)) (settling_of s)
  settled = settling_follows s (GivenNoneBy s (report fcwfa s)) given_so_far given_last

  -- whoever decides completes its round, and so every round before it: a process that decided after the settling round would complete that undecided
  last_settled : (report fcwfa s).last ≤ settling_of s
  last_settled =
      let i = (deciders s ok).last in
      let d = (deciders s ok).last_is in
      let l = d.process in
      let named = d.named in
      let p : given_round (report fcwfa s) i ≢ 0 = d.decides in
      let read = rounds_read fcwfa s i in
      let e = ap (λ m. m.decided) (end_is s ok i) in
      elim (split (report fcwfa s).last (settling_of s)) [
        | inl h ↦ h
        | inr late ↦
            elim (range (run_world s) (laws s ok) (suc s.t) (omega arith) i l) [
              | inl z ↦ absurd (omega arith)
              | inr made ↦
                  let alive = made.alive in
                  let c : Completes s (settling_of s) i = record { process = l; completed = living s (settling_of s) i (omega arith) } in
                  absurd (settled i (record { completes_it = c; none_by = inr (omega arith) }))
            ]
      ]

  pub given_promises : GivenPromises s (report fcwfa s)
  given_promises = record {
    demand_3 = given_demand_3;
    crashes_so_far = given_so_far;
    last_round = given_last;
    settled = settled;
    last_settled = let h = last_settled in omega arith;
    deciders = deciders s ok;
  }
