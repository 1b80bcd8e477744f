-- What holds of a row that is heard: it has no more estimates than there are processes, and is no longer than a set has bits. Assumes nothing.
use Prim.Native.Nat.{◌≤◌}
use native.Mathlib.Omega.{arith}
use lib.ListN.{length}
use Rattle.sets.specs.Largest.{largest}
use Rattle.member.specs.Hearing.{estimates}
use Rattle.member.proofs.Range.{in_range_ranged}
use Rattle.hearing.specs.declared.heard.HeardRow.{HeardRow}
use Rattle.hearing.proofs.Counted.{estimates_high}

module _ (h : HeardRow) where
  pub few : estimates h.counts ≤ h.member.n
  few =
      let long = h.long in
      let e = estimates_high h.row.now h.counts h.counted in
      omega arith

  pub short : length h.row.now ≤ largest
  short =
      let long = h.long in
      let high = (in_range_ranged _ _ h.in_range).bounds.n_high in
      omega arith
