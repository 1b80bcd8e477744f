-- `first_with` meets its contract: a process that decided takes over if none was found before or it goes before the one that was, and any other
-- changes nothing. Assumes nothing.
use mathlib.Core.Path.{sym, ◌∙◌}
use Prim.Native.Nat.{ℕ, ◌-◌}
use native.Mathlib.Omega.{arith}
use lib.Dec.{eqb}
use lib.ListN.{get_or}
use borrow.Author.Tests.{eq-eqb, ne_eqb}
use Rattle.laws.proofs.Test.{or_left, or_right, or_neither}
use Rattle.run.specs.Report.{before}
use Rattle.run.proofs.Deciders.{passes_over, puts_first, leaves_first}
use Rattle.deciders.proofs.first_with.Goals as goal

pub returns-then-round-eq0 : goal.returns-then-round-eq0
returns-then-round-eq0 c =
    record {
      found = let a = c.args in
          let C : ℕ → ℕ = λ j. get_or a.crashes.now j 0 in
          let R : ℕ → ℕ = λ j. get_or a.rounds.now j 0 in
          omega (arith, passes_over C R a.i a.first (omega arith));
    }

pub returns-then-first-eq0 : goal.returns-then-first-eq0
returns-then-first-eq0 c =
    record {
      found = let a = c.args in
          let C : ℕ → ℕ = λ j. get_or a.crashes.now j 0 in
          let R : ℕ → ℕ = λ j. get_or a.rounds.now j 0 in
          let none = eq-eqb a.first 0 (omega arith) in
          omega (arith, puts_first C R a.i a.first c.if-round-eq0.false (or_left (eqb a.first 0) (before C R a.i (a.first - 1)) none));
    }

pub returns-then-goes_before : goal.returns-then-goes_before
returns-then-goes_before c =
    record {
      found = let a = c.args in
          let C : ℕ → ℕ = λ j. get_or a.crashes.now j 0 in
          let R : ℕ → ℕ = λ j. get_or a.rounds.now j 0 in
          let goes = sym c.goes_before.ensures.tested ∙ c.if-goes_before.true in
          omega (arith, puts_first C R a.i a.first c.if-round-eq0.false (or_right (eqb a.first 0) (before C R a.i (a.first - 1)) goes));
    }

pub returns : goal.returns
returns c =
    record {
      found = let a = c.args in
          let C : ℕ → ℕ = λ j. get_or a.crashes.now j 0 in
          let R : ℕ → ℕ = λ j. get_or a.rounds.now j 0 in
          let some = ne_eqb a.first 0 c.if-first-eq0.false in
          let after = sym c.goes_before.ensures.tested ∙ c.if-goes_before.false in
          omega (arith, leaves_first C R a.i a.first (or_neither (eqb a.first 0) (before C R a.i (a.first - 1)) some after));
    }
