-- `pair_in` meets its contract: after i places each count is that of the first i codes. Assumes nothing.
use Prim.Native.Nat.{◌+◌}
use mathlib.Core.Path.{◌≡◌}
use lib.Dec.{eqb, ltb}
use Rattle.hearing.proofs.Counted.{Counted}
use Rattle.hearing.proofs.codes.pair_in.Given as goal

abbrev pub invariant-loop-heard : goal.invariant-loop-heard
invariant-loop-heard l = (l.next ≡ l.code + 1) × Counted l.row (λ c. eqb c l.code) (λ c. eqb c l.next) (λ c. ltb l.next c) l.heard-index l.lower l.upper l.above
