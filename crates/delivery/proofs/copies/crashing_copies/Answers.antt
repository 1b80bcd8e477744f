-- `crashing_copies` meets its contract: a sender that crashes in another round, or never, adds nothing where n is 0, and one that crashes in the round
-- the ones of its reach, if it says something (Sent.antt). Assumes nothing.
use mathlib.Core.Logic.{inl, inr}
use mathlib.Core.Path.{◌∙◌, ap}
use native.Mathlib.Omega.{arith}
use lib.Count.{ones}
use Rattle.delivery.proofs.Sent.{nothing_added, silence_added, reach_added}
use Rattle.delivery.proofs.copies.crashing_copies.Goals as goal

pub returns-then-crash-eq0-clause-sent : goal.returns-then-crash-eq0-clause-sent
returns-then-crash-eq0-clause-sent c =
    nothing_added _ _ _ _ (inl (omega arith))

pub returns-then-crash-this_round-clause-sent : goal.returns-then-crash-this_round-clause-sent
returns-then-crash-this_round-clause-sent c =
    nothing_added _ _ _ _ (inr (λ same. omega arith))

pub returns-then-code-eq0-clause-sent : goal.returns-then-code-eq0-clause-sent
returns-then-code-eq0-clause-sent c =
    silence_added _ _ _ _ (omega arith)

pub returns-else-code-eq0-clause-sent : goal.returns-else-code-eq0-clause-sent
returns-else-code-eq0-clause-sent c =
    c.ones.ensures.counted ∙ ap ones c.entry_at-reach.ensures.entry ∙ reach_added _ _ _ _ (λ z. omega arith) (λ z. omega arith) (omega arith)
