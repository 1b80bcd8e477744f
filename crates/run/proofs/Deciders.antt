-- Some process decides: at most t of the n > t processes crash, and whoever does not has decided after round t + 1. So the loop that looks for the
-- first decider finds one that goes before every other, which never crashes if any of its round does not, and the last round is that of a decider.
-- Assumes nothing.
use mathlib.Core.Path.{◌≡◌, refl, sym, ap, ◌∙◌, fun_ext}
use mathlib.Core.Logic.{◌⊎◌, inl, inr, ◌≢◌}
use mathlib.Core.Bool.{true, false, not, ◌||◌, true≢false}
use Prim.Native.Nat.{ℕ, zero, suc, ◌-◌, ◌<◌}
use native.Mathlib.Nat.{not-suc-le-zero}
use native.Mathlib.Numerals.{add-one}
use native.Mathlib.Omega.{arith}
use lib.Dec.{eqb}
use borrow.Author.Tests.{eqb-true, eqb-false, eq-eqb, ne_eqb}
use Rattle.laws.specs.Below.{fold}
use Rattle.laws.proofs.Test.{true_or_false, and_both, and_no_left, and_no_right, or_true, or_false, cond_true, cond_false}
use Rattle.laws.proofs.Below.{bit_high}
use Rattle.laws.proofs.Counting.{Some, below_or_top}
use Rattle.laws.proofs.Folds.{largest_high, largest_is}
use Rattle.schedule.specs.Schedule.{Schedule, crash_of, ever_crashes}
use Rattle.schedule.specs.Questions.{Rules}
use Rattle.schedule.proofs.Crashes.{some_survives}
use Rattle.run.specs.Protocol.{fcwfa}
use Rattle.run.specs.Run.{final}
use Rattle.run.specs.Report.{Report, given_round, round_of, before, first_with, first_of, last_of, report}
use Rattle.run.specs.Deciders.{FirstIs, SurvivorsAhead, LastIs, Deciders}
use Rattle.run.proofs.States.{last_round}
use Rattle.run.proofs.CrashRounds.{round_never}
use Rattle.run.proofs.FcwfaRun.{run_world, laws}
use Rattle.run.proofs.Demand.{end_is}
use Rattle.run.proofs.Reported.{rounds_read}
use Rattle.run.proofs.Before.{never_crashes, crashes_once, Before, sooner, survivor, lower, before_is, is_before, before_trans, before_or}

module _ (C R : ℕ → ℕ) where
  -- what the loop has found among the processes below k
  data Found (k found : ℕ) : Type 0 where
    none : found ≡ 0 → ((j : ℕ) → j < k → R j ≡ 0) → Found k found
    one : (i : ℕ) → found ≡ suc i → i < k → R i ≢ 0 → ((j : ℕ) → j < k → j ≢ i → R j ≢ 0 → Before C R i j) → Found k found

  keeps_found : (k found : ℕ) → R k ≡ 0 → Found k found → Found (suc k) found
  keeps_found k found z (none e all) = none e (below_or_top (λ j. R j ≡ 0) k all z)
  keeps_found k found z (one i e l d first) =
      one i e (omega arith) d (below_or_top (λ j. j ≢ i → R j ≢ 0 → Before C R i j) k first (λ _ n. absurd (n z)))

  takes_over : (k found : ℕ) → R k ≢ 0 → (eqb found 0 ≡ true) ⊎ (before C R k (found - 1) ≡ true) → Found k found → Found (suc k) (suc k)
  takes_over k found d b (none e all) =
      one k refl (omega arith) d (below_or_top (λ j. j ≢ k → R j ≢ 0 → Before C R k j) k (λ j jl _ n. absurd (n (all j jl))) (λ n _. absurd (n refl)))
  takes_over k found d (inl z) (one i e l di first) = absurd (let q = eqb-true found 0 z in omega arith)
  takes_over k found d (inr b) (one i e l di first) =
      one k refl (omega arith) d (below_or_top (λ j. j ≢ k → R j ≢ 0 → Before C R k j) k each (λ n _. absurd (n refl)))
    where
      each : (j : ℕ) → j < k → j ≢ k → R j ≢ 0 → Before C R k j
      each j jl _ dj =
          let q : found - 1 ≡ i = omega arith in
          let b' : Before C R k i = is_before C R k i (rw q at b) in
          elim (true_or_false (eqb j i)) [
            | inl x ↦ rw (eqb-true j i x) b'
            | inr x ↦ before_trans C R k i j b' (first j jl (eqb-false j i x) dj)
          ]

  stays_first : (k found : ℕ) → eqb found 0 ≡ false → before C R k (found - 1) ≡ false → Found k found → Found (suc k) found
  stays_first k found z b (none e all) = absurd (eqb-false found 0 z e)
  stays_first k found z b (one i e l d first) =
      let q : found - 1 ≡ i = omega arith in
      let not-before : before C R k i ≡ false = rw q at b in
      one i e (omega arith) d
      (below_or_top (λ j. j ≢ i → R j ≢ 0 → Before C R i j) k first (λ _ _.
      elim (before_or C R i k l) [ inl h ↦ h | inr h ↦ absurd (true≢false (sym (before_is C R k i h) ∙ not-before)) ]))

  module _ (k found : ℕ) where
    pub passes_over : R k ≡ 0 → first_with C R k found ≡ found
    unfolding first_with
    passes_over z = cond_false _ _ _ (and_no_left _ _ (ap not (eq-eqb (R k) 0 z)))

    pub puts_first : R k ≢ 0 → (eqb found 0 || before C R k (found - 1)) ≡ true → first_with C R k found ≡ suc k
    unfolding first_with
    puts_first d b = cond_true _ _ _ (and_both _ _ (ap not (ne_eqb (R k) 0 d)) b) ∙ add-one k

    pub leaves_first : (eqb found 0 || before C R k (found - 1)) ≡ false → first_with C R k found ≡ found
    unfolding first_with
    leaves_first b = cond_false _ _ _ (and_no_right (not (eqb (R k) 0)) _ b)

    found_step : Found k found → Found (suc k) (first_with C R k found)
    found_step h =
        elim (true_or_false (eqb (R k) 0)) [
          | inl z ↦ rw (passes_over (eqb-true (R k) 0 z)) (keeps_found k found (eqb-true (R k) 0 z) h)
          | inr d ↦
              let nz = eqb-false (R k) 0 d in
              elim (true_or_false (eqb found 0 || before C R k (found - 1))) [
                | inl b ↦ rw (puts_first nz b) (takes_over k found nz (or_true (eqb found 0) (before C R k (found - 1)) b) h)
                | inr b ↦
                    let n = or_false (eqb found 0) (before C R k (found - 1)) b in
                    rw (leaves_first b) (stays_first k found n.0 n.1 h)
              ]
        ]

  found_all : (k : ℕ) → Found k (fold k (first_with C R) 0)
  unfolding fold
  found_all zero = none refl (λ j l. absurd (not-suc-le-zero l))
  found_all (suc k) = found_step k (fold k (first_with C R) 0) (found_all k)

-- the order alone: nothing of a run is used
module _ (s : Schedule) (given : Report) where
  pub survivors_ahead : (i : ℕ) → FirstIs s given i → SurvivorsAhead s given i
  survivors_ahead i first =
      record {
        smallest = λ k l d.
            elim (others k l d) [
              | inl e ↦ rw e (omega arith)
              | inr (sooner h) ↦ omega arith
              | inr (survivor h _) ↦ omega arith
              | inr (lower h _ _) ↦ omega arith
            ];
        survives = λ k l e c.
            let never = never_crashes (crash_of s k) c in
            elim (true_or_false (eqb (crash_of s i) 0)) [
              | inl z ↦ eqb-true (crash_of s i) 0 z
              | inr z ↦
                  let once = crashes_once (crash_of s i) (eqb-false (crash_of s i) 0 z) in
                  elim (others k l (λ u. let d = decides in omega arith)) [
                    | inl q ↦ ap (crash_of s) (sym q) ∙ c
                    | inr (sooner h) ↦ absurd (omega arith)
                    | inr (survivor h x) ↦ absurd (omega arith)
                    | inr (lower h x y) ↦ absurd (omega arith)
                  ]
            ];
        lowest_survivor = λ k l e c.
            let never = never_crashes (crash_of s k) c in
            elim (others k l (λ u. let d = decides in omega arith)) [
              | inl q ↦ omega arith
              | inr (sooner h) ↦ absurd (omega arith)
              | inr (survivor h x) ↦ absurd (omega arith)
              | inr (lower h x y) ↦ omega arith
            ];
        lowest_of_all = λ k l e n.
            let once = crashes_once (crash_of s i) (λ z. omega arith) in
            let high = bit_high (ever_crashes (crash_of s k)) in
            elim (others k l (λ u. let d = decides in omega arith)) [
              | inl q ↦ omega arith
              | inr (sooner h) ↦ absurd (omega arith)
              | inr (survivor h x) ↦ absurd (omega arith)
              | inr (lower h x y) ↦ omega arith
            ];
      }
    where
      decides : given_round given i ≢ 0
      decides = first.decides

      others : (k : ℕ) → k < s.n → given_round given k ≢ 0 → (k ≡ i) ⊎ Before (crash_of s) (given_round given) i k
      others k l d =
          elim (true_or_false (eqb k i)) [
            | inl e ↦ inl (eqb-true k i e)
            | inr e ↦ inr (is_before (crash_of s) (given_round given) i k (first.goes_before k l (eqb-false k i e) d))
          ]

module _ (s : Schedule) (ok : Rules s) where
  -- the decided rounds of the report are those of the run
  abbrev ends : ℕ → ℕ
  ends = given_round (report fcwfa s)

  ends_are : round_of (final fcwfa s) ≡ ends
  ends_are = fun_ext (λ i. sym (rounds_read fcwfa s i))

  -- a process that never crashes decides
  pub some_decides : Some s.n λ i. ends i ≢ 0
  some_decides =
      let x = some_survives s ok in
      let never = round_never s x.0 x.2 in
      let p = last_round (run_world s) (laws s ok) x.0 x.1 (omega arith) in
      let e = ap (λ m. m.decided) (end_is s ok x.0) in
      let read = rounds_read fcwfa s x.0 in
      (x.0, x.1, λ z. omega arith)

  first_of_run : (i : ℕ) × FirstIs s (report fcwfa s) i
  unfolding first_of
  first_of_run =
      elim (found_all (crash_of s) ends s.n) [
        | none e all ↦ absurd (some_decides.2 (all some_decides.0 some_decides.1))
        | one i e l d first ↦ (
          i,
          record {
            named = ap (λ (R : ℕ → ℕ). first_of (crash_of s) R s.n) ends_are ∙ e ∙ sym (add-one i);
            process = l;
            decides = d;
            goes_before = λ k kl ne dk. before_is (crash_of s) ends i k (first k kl ne dk);
          },
        )
      ]

  last_of_run : (i : ℕ) × LastIs s (report fcwfa s) i
  unfolding last_of
  last_of_run =
      let high = largest_high ends s.n in
      let same = ap (λ (R : ℕ → ℕ). last_of R s.n) ends_are in
      let some = some_decides in
      let h = high some.0 some.1 in
      let d : ends some.0 ≢ 0 = some.2 in
      elim (largest_is ends s.n) [
        | inl z ↦ absurd (omega arith)
        | inr x ↦
            (x.0, record { named = same ∙ x.2; process = x.1; decides = λ z. let y = x.2 in omega arith; latest = λ k l. let g = high k l in omega arith })
      ]

  pub deciders : Deciders s (report fcwfa s)
  deciders = record {
    first = first_of_run.0;
    first_is = first_of_run.1;
    survivors_ahead = survivors_ahead s (report fcwfa s) first_of_run.0 first_of_run.1;
    last = last_of_run.0;
    last_is = last_of_run.1;
  }
