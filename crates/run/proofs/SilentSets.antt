-- The silent sets of a run. A row that sets the set brings no decided message, so each code in it is an estimate or nothing; and nothing comes from those
-- that crashed before, from those that crash in the round where their reach does not name the hearer, and from nobody else. Assumes nothing.
use mathlib.Core.Path.{◌≡◌, sym, ap, ◌∙◌}
use mathlib.Core.Logic.{◌⊎◌, inl, inr}
use mathlib.Core.Bool.{true, false, not}
use Prim.Native.Nat.{ℕ, suc, ◌≤◌, ◌<◌}
use native.Mathlib.Nat.{eq-zero-or-pos}
use native.Mathlib.Omega.{arith}
use Rattle.laws.specs.Below.{tabulate}
use Rattle.laws.proofs.Test.{true_or_false}
use Rattle.laws.proofs.Lists.{length_tabulate, get_d_tabulate}
use Rattle.member.specs.declared.Member.{Member}
use Rattle.member.specs.Hearing.{tally_of, is_estimate, sets_silent}
use Rattle.member.proofs.Codes.{is_estimate_lem}
use Rattle.member.proofs.Silent.{silent_names, silent_is, Sets, sets}
use Rattle.sets.specs.Sets.{names}
use Rattle.schedule.specs.Schedule.{Schedule, crash_of, reach_of}
use Rattle.schedule.specs.Questions.{Rules}
use Rattle.run.specs.Protocol.{fcwfa}
use Rattle.run.specs.Run.{states_after, after}
use Rattle.run.specs.Facts.{WhoHearsWhom}
use Rattle.run.specs.SilentSets.{SetsInRound, NamesCrashed, SilentSets}
use Rattle.run.proofs.World.{Plays, NotTold}
use Rattle.run.proofs.States.{said_before, missing}
use Rattle.run.proofs.Behaviour.{waiting, fresh, over}
use Rattle.run.proofs.FcwfaMember.{Stands, behaves}
use Rattle.run.proofs.Rounds.{completes_if, who_hears_whom}
use Rattle.run.proofs.CrashRounds.{alive, round_crash}
use Rattle.run.proofs.RunWorld.{code_of, row_is, state_is, phase_at, hearing}
use Rattle.run.proofs.FcwfaRun.{run_world, laws, untold_low}

module _ (s : Schedule) (ok : Rules s) (r i : ℕ) (rt : r ≤ s.t) (h : SetsInRound s r i) where
  -- what i hears from j
  abbrev heard : ℕ → ℕ
  heard = code_of fcwfa s r i

  -- the row, by these codes, sets the set
  row_sets : sets_silent (after fcwfa s r i) (tally_of (tabulate s.n heard)) ≡ true
  row_sets = ap (λ row. sets_silent (after fcwfa s r i) (tally_of row)) (sym (row_is fcwfa s r i)) ∙ h.sets_it

  sets_row : Sets (after fcwfa s r i) (tally_of (tabulate s.n heard))
  sets_row = sets _ _ row_sets

  plays : Plays (run_world s) r i
  plays = record {
    time = rt;
    process = h.completes_it.process;
    alive = alive s (suc r) i (omega arith) h.completes_it.completed;
    undecided = sets_row.undecided_before;
  }

  -- no decided message is among the codes
  low : NotTold (run_world s) r i
  low = untold_low s ok r i rt plays.process sets_row.untold

  -- the set names those that sent no estimate
  named : (j : ℕ) → j < s.n → names (after fcwfa s (suc r) i).silent j ≡ not (is_estimate (heard j))
  named j jl =
      let row = tabulate s.n heard in
      let e = ap (λ (m : Member). m.silent) (hearing fcwfa 1 Stands behaves s r i plays).next in
      let long = length_tabulate s.n heard in
      ap (λ set. names set j) (e ∙ silent_is (after fcwfa s r i) row row_sets)
      ∙ silent_names row j (omega arith)
      ∙ ap (λ c. not (is_estimate c)) (get_d_tabulate s.n heard j 0 jl)

  facts : (j : ℕ) → WhoHearsWhom fcwfa s (suc r) (states_after fcwfa s r) i j
  facts j = who_hears_whom fcwfa s (suc r) (states_after fcwfa s r) j i

  silent_here : (j : ℕ) → j < s.n → heard j ≡ 0 → names (after fcwfa s (suc r) i).silent j ≡ true
  silent_here j jl z = named j jl ∙ ap (λ c. not (is_estimate c)) z

  spoke_here : (j : ℕ) → j < s.n → 0 < heard j → names (after fcwfa s (suc r) i).silent j ≡ false
  spoke_here j jl p = named j jl ∙ ap not (is_estimate_lem (heard j) p (low j jl))

  -- who completes the round is heard
  completing_named : (j : ℕ) → j < s.n → (crash_of s j ≡ 0) ⊎ (suc r < crash_of s j) → names (after fcwfa s (suc r) i).silent j ≡ false
  completing_named j jl c =
      elim (eq-zero-or-pos (heard j)) [
        | inl z ↦
            let a = alive s (suc r) j (omega arith) (completes_if s (suc r) j c) in
            absurd (let b = missing (run_world s) (laws s ok) r i j plays jl z in omega arith)
        | inr p ↦ spoke_here j jl p
      ]

  -- who crashes in it is heard where its reach names i: it has not said its decision before, for then i would have decided
  crashing_named : (j : ℕ) → j < s.n → crash_of s j ≡ suc r → names (after fcwfa s (suc r) i).silent j ≡ not (names (reach_of s j) i)
  crashing_named j jl e =
      elim (true_or_false (names (reach_of s j) i)) [
        | inr n ↦ silent_here j jl ((facts j).unnamed (λ z. omega arith) e n) ∙ ap not (sym n)
        | inl n ↦
            let a = round_crash s j (λ z. omega arith) in
            let said : heard j ≡ fcwfa.says (after fcwfa s r j) = (facts j).named e n ∙ ap fcwfa.says (state_is fcwfa s r j) in
            elim (phase_at fcwfa 1 Stands behaves s r rt j jl (omega arith)) [
              | waiting _ _ q ↦ let x = said ∙ q in spoke_here j jl (omega arith) ∙ ap not (sym n)
              | fresh _ _ _ q ↦ let x = said ∙ q in let l = low j jl in absurd (omega arith)
              | over p z _ _ ↦ absurd (said_before (run_world s) (laws s ok) r i j plays jl (omega arith) p z)
            ]
      ]

  names_crashed : NamesCrashed s (suc r) i (after fcwfa s (suc r) i).silent
  names_crashed = record {
    each = λ j jl lo hi. silent_here j jl ((facts j).silent lo hi);
    none = completing_named;
    crashing = crashing_named;
  }

pub silent_sets : (s : Schedule) → Rules s → SilentSets s
silent_sets s ok r i rt h = names_crashed s ok r i rt h
