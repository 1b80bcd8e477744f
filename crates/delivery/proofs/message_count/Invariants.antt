-- `message_count` meets its contract: n - 1 for each sender that completes the round and speaks, and each turn adds what a crashing sender sends
-- (Sent.antt). Assumes nothing.
use Prim.Native.Nat.{◌+◌}
use mathlib.Core.Path.{◌≡◌}
use Rattle.laws.specs.Below.{sum}
use Rattle.delivery.proofs.Sent.{crashing_adds, FewAdded}
use Rattle.delivery.proofs.message_count.Given as goal

abbrev pub invariant-loop-j : goal.invariant-loop-j
invariant-loop-j l =
    let r = l.this_round in
    (l.messages ≡ l.initial.messages + sum l.j (crashing_adds r.crashes.now r.reaches.now r.codes.now r.round))
    × FewAdded r.crashes.now r.reaches.now r.codes.now r.round l.j
