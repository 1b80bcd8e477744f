-- `put_decisions` meets its contract: after i processes their lines are written, and the others are left. Assumes nothing.
use mathlib.Core.Path.{◌≡◌, sym, ap, ◌∙◌}
use mathlib.Core.List.{List, [], ◌++◌}
use Prim.Native.Nat.{ℕ, ◌+◌, ◌<◌}
use native.Mathlib.Omega.{arith}
use lib.ListN.{length, get_or}
use Rattle.laws.proofs.Lists.{read_same, next_left}
use Rattle.text.specs.Output.{decision_line, decision_lines}
use Rattle.text.proofs.Lines.{no_lines, one_more_line}
use Rattle.buffer.proofs.Puts.{puts_none, puts_same, puts_more}
use Rattle.report.proofs.Decisions.{decisions_all}
use Rattle.report.proofs.put_decisions.Goals as goal

-- the lines of no processes, and of one more
none : (decisions rounds : List ℕ) → [] ≡ decision_lines 0 decisions rounds
unfolding decision_lines
none decisions rounds = no_lines (λ j. decision_line j (get_or decisions j 2) (get_or rounds j 0))

one_more : (decisions rounds : List ℕ) (i decision round : ℕ) → i < length decisions → decision ≡ get_or decisions i 0 → round ≡ get_or rounds i 0
    → decision_lines i decisions rounds ++ decision_line i decision round ≡ decision_lines (i + 1) decisions rounds
unfolding decision_lines
one_more decisions rounds i decision round l d r =
    rw (d, r)
    (ap (λ (d : ℕ). decision_lines i decisions rounds ++ decision_line i d (get_or rounds i 0)) (read_same decisions 0 2 i l)
    ∙ one_more_line (λ j. decision_line j (get_or decisions j 2) (get_or rounds j 0)) i)

pub loop-i-init : goal.loop-i-init
loop-i-init c =
    let start : c.into_iter-i-iterator.result.count ≡ 0 = cc in
    let left : c.into_iter-i-iterator.result.iter.a.rest.now ≡ c.args.lent.now.decisions.now = cc in
    let left_rounds : c.into_iter-i-iterator.result.iter.b.rest.now ≡ c.args.lent.now.decided.now = cc in
    rw start record { within = omega arith; left = left; left_rounds = left_rounds; written = puts_same (none _ _) (puts_none _) }

pub invariant_of-put_decision : goal.invariant_of-put_decision
invariant_of-put_decision c =
    let step = c.in-Some.ensures.steps in
    let l = c.loop-i in
    let here = next_left _ l.i-iterator.count 0 _ _ (sym l.invariant.left ∙ step.0.0) in
    let low = decisions_all _ c.args.lent.now.values l.i-iterator.count here.0 in
    record { one = omega (arith, low, here.1) }

pub loop-i-preserved : goal.loop-i-preserved
loop-i-preserved c =
    let step = c.in-Some.ensures.steps in
    let l = c.loop-i in
    let here = next_left c.args.lent.now.decisions.now l.i-iterator.count 0 _ _ (sym l.invariant.left ∙ step.0.0) in
    let round = next_left c.args.lent.now.decided.now l.i-iterator.count 0 _ _ (sym l.invariant.left_rounds ∙ step.0.1) in
    rw step.2 record {
      within = omega (arith, here.0);
      left = here.2;
      left_rounds = round.2;
      written = puts_same (rw step.1 (one_more _ _ _ _ _ here.0 here.1 round.1)) (puts_more _ _ l.invariant.written c.put_decision.ensures.written);
    }
