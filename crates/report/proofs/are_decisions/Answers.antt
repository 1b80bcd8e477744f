-- `are_decisions` meets its contract: `all` says yes where each is a decision, and no where one is not. Assumes nothing.
use Prim.Native.Nat.{◌≤◌, ◌<◌}
use Rattle.std.proofs.Common.{rules, tests}
use Rattle.std.proofs.lemmas.Iterator.{YieldsList-from_slice, cases_from_all}
use Rattle.report.proofs.Decisions.{all_or_not}
use Rattle.report.proofs.are_decisions.Goals as goal

pub returns : goal.returns
returns c =
    record {
      tested = all_or_not c.args.decisions.now c.all.result
          (cases_from_all _ _ _ (λ x. x ≤ 2) (λ x. 2 < x) c.all.ensures.ran (YieldsList-from_slice c.args.decisions.now cc) (λ x q k. search (rules, tests)) (λ x q k. search (rules, tests)));
    }
