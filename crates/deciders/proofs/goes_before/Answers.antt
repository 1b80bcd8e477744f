-- `goes_before` meets its contract: the order of two triples is by the rounds, and where those are equal by whether a process crashes, and only then by
-- the number. Assumes nothing.
use mathlib.Core.Path.{◌≡◌, refl, ◌∙◌}
use mathlib.Core.Bool.{Bool, true, false, cond, ◌&&◌, ◌||◌}
use lib.Dec.{ltb, eqb}
use Rattle.std.specs.Prelude.{Some}
use Rattle.std.proofs.Common.{Ordering, Less, Equal, Greater}
use Rattle.std.specs.Ordering.{is_lt, is_some_and, partial_ordering_then}
use Rattle.run.specs.Report.{ahead, before}
use Rattle.deciders.proofs.goes_before.Goals as goal

-- how two numbers compare, by the tests whether the first is lower and whether they are equal
abbrev compared : Bool → Bool → Ordering
compared lower equal = cond lower Less (cond equal Equal Greater)

-- three comparisons, each asked where all before it find equal values
three : (l0 e0 l1 e1 l2 e2 : Bool)
    → is_some_and is_lt (partial_ordering_then (partial_ordering_then (Some (compared l0 e0)) (Some (compared l1 e1))) (Some (compared l2 e2))) ≡ l0 || (e0 && (l1 || (e1 && l2)))
three true e0 l1 e1 l2 e2 = refl
three false false l1 e1 l2 e2 = refl
three false true true e1 l2 e2 = refl
three false true false false l2 e2 = refl
three false true false true true e2 = refl
three false true false true false true = refl
three false true false true false false = refl

pub returns : goal.returns
unfolding before ahead
returns c =
    record {
      tested = let a = c.args in
          let x = c.entry_at-own_round.result in
          let y = c.entry_at-other_round.result in
          let own = c.ever_crashes-own_fate.result in
          let other = c.ever_crashes-other_fate.result in
          c.lt.ensures
          ∙ three (ltb x y) (eqb x y) (ltb own other) (eqb own other) (ltb a.i a.k) (eqb a.i a.k)
          ∙ (λ l. ahead (c.entry_at-own_round.ensures.entry l) (c.entry_at-other_round.ensures.entry l) (ahead (c.ever_crashes-own_fate.ensures.told l) (c.ever_crashes-other_fate.ensures.told l) (ltb a.i a.k)));
    }
