-- The run of FCWFA keeps the laws of World.antt, those of its decision rules too. Assumes nothing.
use mathlib.Core.Path.{◌≡◌, refl, sym, ◌∙◌}
use mathlib.Core.Bool.{false, true≢false}
use Prim.Native.Nat.{ℕ, ◌≤◌, ◌<◌}
use native.Mathlib.Omega.{arith}
use Rattle.laws.specs.Below.{tabulate}
use Rattle.member.specs.Hearing.{tally_of, told}
use Rattle.schedule.specs.Schedule.{Schedule}
use Rattle.schedule.specs.Questions.{Rules}
use Rattle.run.specs.Protocol.{fcwfa}
use Rattle.run.specs.Run.{after}
use Rattle.run.proofs.World.{World, RoundLaws, DecisionRules, NotTold, hears_nothing, hears_estimate, hears_decision}
use Rattle.run.proofs.States.{bits}
use Rattle.run.proofs.Rows.{counts_of, is_told}
use Rattle.run.proofs.FcwfaMember.{Stands, behaves, first_of, ends_of}
use Rattle.run.proofs.RunWorld.{world, code_of, hearing, round_laws}

abbrev pub run_world : Schedule → World
run_world s = world fcwfa s 1

module _ (s : Schedule) (ok : Rules s) where
  pub laws : RoundLaws (run_world s)
  laws = round_laws fcwfa 1 Stands behaves s ok

  pub rules : DecisionRules (run_world s)
  rules = record {
    start_1 = refl;
    first = λ i o.
        let h = hearing fcwfa 1 Stands behaves s 0 i o in
        rw h.next (first_of s.n s.t 0 (after fcwfa s 0 i) (code_of fcwfa s 0 i) h.at o.undecided refl);
    ends = λ r i o p low.
        let h = hearing fcwfa 1 Stands behaves s r i o in
        rw h.next (ends_of s.n s.t r (after fcwfa s r i) (code_of fcwfa s r i) h.at o.undecided o.time ok.t_high p low);
  }

  -- a row without a decided message holds nothing but estimates and nothing
  pub untold_low : (r i : ℕ) → r ≤ s.t → i < s.n → told (tally_of (tabulate s.n (code_of fcwfa s r i))) ≡ false → NotTold (run_world s) r i
  untold_low r i rt il none j jl =
      let c = code_of fcwfa s r i in
      let b = bits (run_world s) laws r (omega arith) j jl in
      elim (laws.heard r i j rt il jl) [
        | hears_nothing e _ ↦ omega arith
        | hears_estimate _ _ e ↦ omega arith
        | hears_decision _ _ _ e ↦ absurd (true≢false (sym (is_told s.n c _ (counts_of s.n c) j jl (omega arith) (omega arith)) ∙ none))
      ]
