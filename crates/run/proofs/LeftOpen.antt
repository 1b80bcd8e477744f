-- The crash rounds alone tell of no round before the settling round that all have decided in it: here is another schedule with the same crash rounds,
-- in whose run nobody has decided by the end of such a round. All vote 1; whoever crashes in round 1 reaches just one process, which never crashes, and
-- whoever crashes later reaches nobody. So that one process has the estimate 1 after round 1, and the rest is shown in KeptOpen.antt. Assumes nothing.
use mathlib.Core.Path.{◌≡◌, refl, ap, ◌∙◌}
use mathlib.Core.Logic.{inl, inr, ◌≢◌}
use mathlib.Core.Bool.{Bool, false, ◌&&◌}
use Prim.Native.Nat.{ℕ, suc, ◌≤◌, ◌<◌}
use native.Mathlib.Nat.{eq-zero-or-pos}
use native.Mathlib.Omega.{arith}
use lib.Dec.{eqb}
use borrow.Author.Tests.{eqb-true, eq-eqb, ne_eqb}
use Rattle.laws.specs.Below.{bit, tabulate}
use Rattle.laws.proofs.Test.{true_or_false, and_both, and_no_left, and_no_right}
use Rattle.laws.proofs.Counting.{split}
use Rattle.laws.proofs.Sums.{sum_zero}
use Rattle.laws.proofs.Lists.{length_tabulate, get_d_tabulate}
use Rattle.sets.specs.Sets.{names, set_of}
use Rattle.sets.proofs.Bits.{passing_below, passing_named}
use Rattle.schedule.specs.Schedule.{Schedule, vote_of, crash_of, reach_of, crashed_by}
use Rattle.schedule.specs.Questions.{Rules, Accepted}
use Rattle.schedule.proofs.Crashes.{some_survives}
use Rattle.run.specs.Protocol.{fcwfa}
use Rattle.run.specs.Run.{states_after, after}
use Rattle.run.specs.CrashesSoFar.{settling_of, LeftOpen}
use Rattle.run.proofs.EarlyDecision.{EndsUndecided}
use Rattle.run.proofs.Votes.{first_estimate_lem}
use Rattle.run.proofs.Rounds.{completing, crashing, gone, part, completes_if, who_hears_whom}
use Rattle.run.proofs.CrashRounds.{crash_round, round_never, alive, crashed, crashes_are}
use Rattle.run.proofs.Behaviour.{waiting, fresh, over}
use Rattle.run.proofs.FcwfaMember.{Stands, behaves}
use Rattle.run.proofs.RunWorld.{code_of, state_is, phase_at, vote_is}
use Rattle.run.proofs.FcwfaRun.{run_world, laws, rules}
use Rattle.run.proofs.Settling.{settling_high, settling_early, settling_late}
use Rattle.run.proofs.KeptOpen.{KeptOpen, nobody_yet}

module _ (s : Schedule) (x : ℕ) where
  -- whether j reaches k: only if j crashes in round 1, and k is x
  abbrev reached : ℕ → ℕ → Bool
  reached j k = eqb (crash_of s j) 1 && eqb k x

  unreached : (j k : ℕ) → crash_of s j ≢ 1 → reached j k ≡ false
  unreached j k ne = and_no_left _ _ (ne_eqb (crash_of s j) 1 ne)

  -- all that j reaches
  reach : ℕ → ℕ
  reach j = set_of s.n (λ k. bit (reached j k))

  -- the other schedule, where x is to be a process that never crashes
  abbrev reaching_one : Schedule
  reaching_one = record { n = s.n; t = s.t; votes = tabulate s.n (λ _. 1); crashes = s.crashes; reaches = tabulate s.n reach }

module _ (s : Schedule) (ok : Rules s) (x : ℕ) (xl : x < s.n) (never : crash_of s x ≡ 0) where
  abbrev other : Schedule
  other = reaching_one s x

  -- what its two new tables hold
  votes_one : (j : ℕ) → j < s.n → vote_of other j ≡ 1
  votes_one j l = get_d_tabulate s.n (λ _. 1) j 0 l

  reach_is_lem : (j : ℕ) → j < s.n → reach_of other j ≡ reach s x j
  reach_is_lem j l = get_d_tabulate s.n (reach s x) j 0 l

  reach_names : (j k : ℕ) → j < s.n → k < s.n → names (reach_of other j) k ≡ reached s x j k
  unfolding reach
  reach_names j k jl kl = ap (λ (r : ℕ). names r k) (reach_is_lem j jl) ∙ passing_named (reached s x j) s.n k kl

  -- a reach never names its own process, since it names x alone and x never crashes
  not_itself : (j : ℕ) → j < s.n → names (reach_of other j) j ≡ false
  not_itself j l =
      reach_names j j l l ∙ elim (true_or_false (eqb j x)) [
        | inl e ↦ unreached s x j j (λ c. let z = ap (crash_of s) (eqb-true j x e) in omega arith)
        | inr e ↦ and_no_right (eqb (crash_of s j) 1) _ e
      ]

  -- so the rules are kept that s keeps, and the other schedule is accepted wherever s is
  keeps_rules : Rules other
  unfolding reach
  keeps_rules = record {
    t_low = ok.t_low;
    t_high = ok.t_high;
    process = λ j l.
        record {
          vote = let e = votes_one j l in omega arith;
          crash = (ok.process j l).crash;
          reach = rw (reach_is_lem j l) (passing_below (reached s x j) s.n);
          not_own = not_itself j l;
          never = λ z. reach_is_lem j l ∙ sum_zero s.n _ (λ k _. rw (unreached s x j k (λ c. omega arith)) (omega arith));
        };
    few = ok.few;
  }

  accepted_too : (limit : ℕ) (answers : Bool) → Accepted s limit answers → Accepted other limit answers
  accepted_too limit answers a = record {
    n_low = a.n_low;
    n_high = a.n_high;
    votes_long = length_tabulate s.n (λ _. 1);
    crashes_long = a.crashes_long;
    reaches_long = length_tabulate s.n (reach s x);
    answers_long = a.answers_long;
    rules = keeps_rules;
  }

  -- in round 1 everybody says its vote, which is 1,
  says_one : (j : ℕ) → j < s.n → fcwfa.says (after fcwfa other 0 j) ≡ 2
  says_one j l =
      let vote = vote_is fcwfa 1 Stands behaves other j l ∙ votes_one j l in
      let a = alive other 0 j (omega arith) (completes_if other 0 j (eq-zero-or-pos (crash_of s j))) in
      elim (phase_at fcwfa 1 Stands behaves other 0 (omega arith) j l a) [
        | waiting _ _ q ↦ omega arith
        | fresh p _ _ _ ↦ absurd (omega arith)
        | over _ p _ _ ↦ absurd (omega arith)
      ]

  -- and x hears it: whoever crashes in round 1 reaches x, and all others complete the round
  hears_ones : (j : ℕ) → j < s.n → code_of fcwfa other 0 x j ≡ 2
  hears_ones j l =
      let facts = who_hears_whom fcwfa other 1 (states_after fcwfa other 0) j x in
      let said = ap fcwfa.says (state_is fcwfa other 0 j) ∙ says_one j l in
      elim (part other 1 j) [
        | completing c ↦ facts.completing (record { process = l; completed = c }) ∙ said
        | crashing e ↦ facts.named e (reach_names j x l xl ∙ and_both _ _ (eq-eqb (crash_of s j) 1 e) (eq-eqb x x refl)) ∙ said
        | gone lo hi ↦ absurd (omega arith)
      ]

  -- so x has the estimate 1 after it
  estimate_one : (after fcwfa other 1 x).estimate ≡ 1
  estimate_one =
      let c = round_never other x never in
      elim (first_estimate_lem (run_world other) (laws other keeps_rules) (rules other keeps_rules) x xl (omega arith)) [
        | inl p ↦ absurd (p.1.2 (hears_ones p.1.0 p.1.1))
        | inr p ↦ p.0
      ]

  -- from round 2 on nobody hears from one that crashes in the round, since its reach is empty, or that crashed before
  none_heard : (r i j : ℕ) → 0 < r → r ≤ s.t → i < s.n → j < s.n → crash_round other j ≤ suc r → code_of fcwfa other r i j ≡ 0
  none_heard r i j p rt il jl a =
      let c = crashed other (suc r) j (omega arith) a in
      let facts = who_hears_whom fcwfa other (suc r) (states_after fcwfa other r) j i in
      elim (split (suc r) (crash_of s j)) [
        | inl now ↦ facts.unnamed (λ z. omega arith) (omega arith) (reach_names j i jl il ∙ unreached s x j i (λ z. omega arith))
        | inr before ↦ facts.silent c.0 before
      ]

  -- a round before the settling round has the crashes that it needs to end undecided
  many_crashed : (r : ℕ) → 0 < r → suc r < settling_of s → EndsUndecided (run_world other) r
  many_crashed r p b =
      let high = settling_high s.t (crashed_by s) in
      let counted = crashes_are s (suc r) (omega arith) in
      record {
        not_last = omega arith;
        early = λ q. let h = settling_early s.t (crashed_by s) (suc r) (omega arith) (omega arith) b in omega arith;
        round_t = λ q. let h = settling_late s.t (crashed_by s) (omega arith) in let same = ap (crashed_by s) q in omega arith;
      }

  -- all that keeps its run undecided until then
  kept_open : KeptOpen (run_world other) (settling_of s)
  kept_open = record {
    survivor = x;
    process = xl;
    survives = let c = round_never other x never in omega arith;
    one = estimate_one;
    lost = none_heard;
    many = many_crashed;
  }

  -- x completes every round, and before the settling round it has not decided
  left_open : (r : ℕ) → r < settling_of s → LeftOpen s r
  left_open r b = record {
    other = other;
    same_n = refl;
    same_t = refl;
    same_crashes = refl;
    accepted = accepted_too;
    process = x;
    undecided = record {
      completes_it = record { process = xl; completed = completes_if other r x (inl never) };
      undecided = nobody_yet (run_world other) (laws other keeps_rules) (rules other keeps_rules) (settling_of s) kept_open r b x xl;
    };
  }

-- some process never crashes, since at most t < n do
pub no_sooner : (s : Schedule) → Rules s → (r : ℕ) → r < settling_of s → LeftOpen s r
no_sooner s ok = let x = some_survives s ok in left_open s ok x.0 x.1 x.2
