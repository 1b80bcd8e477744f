-- `are_of_size` meets its contract: its tests are those of `tables_of`, in order. Assumes nothing.
use native.Mathlib.Omega.{arith}
use borrow.Author.Tests.{eq-eqb, ne_eqb}
use Rattle.schedule.specs.Questions.{tables_of}
use Rattle.acceptance.proofs.tables.are_of_size.Goals as goal

pub returns-then-votes-size : goal.returns-then-votes-size
unfolding tables_of
returns-then-votes-size c =
    record { tested = let a = c.args in rw (ne_eqb a.votes a.size (λ e. omega arith)) }

pub returns-then-crashes-size : goal.returns-then-crashes-size
unfolding tables_of
returns-then-crashes-size c =
    record {
      tested = let a = c.args in
          rw (eq-eqb a.votes a.size (omega arith), ne_eqb a.crashes a.size (λ e. omega arith));
    }

pub returns : goal.returns
unfolding tables_of
returns c =
    record {
      tested = let a = c.args in
          rw (eq-eqb a.votes a.size (omega arith), eq-eqb a.crashes a.size (omega arith));
    }
