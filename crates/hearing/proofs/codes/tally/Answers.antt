-- `tally` meets its contract: where nothing stands above the estimates the other counts are 0. Assumes nothing.
use mathlib.Core.Path.{sym, ◌∙◌}
use native.Mathlib.Omega.{arith}
use borrow.Author.Tests.{ne_eqb, le-ltb}
use Rattle.hearing.proofs.Counted.{nothing_above}
use Rattle.hearing.proofs.codes.tally.Goals as goal

pub returns-then-above-eq0 : goal.returns-then-above-eq0
returns-then-above-eq0 c =
    record {
      counted = let row = c.args.row.now in
          let low = c.pair_in-estimates.ensures in
          let none = sym c.if-above-eq0.true ∙ low.above in
          λ j. record {
            zeros = low.lower j;
            ones = low.upper j;
            aborts = nothing_above row _ none (λ x l. ne_eqb x 3 (λ e. omega arith)) j;
            commits = nothing_above row _ none (λ x l. ne_eqb x 4 (λ e. omega arith)) j;
            others = nothing_above row _ none (λ x l. le-ltb 4 x (omega arith)) j;
          };
    }
