-- `lowest_sender` meets its contract: it is the place found, before which no decided message stands, and the row's length where none is found.
-- Assumes nothing.
use Rattle.std.proofs.Common.{rules, arith, ◌∙◌, ◌≡◌, ◌<◌, ℕ, List, length, get_or, Option, None, Some, true, false, unwrap_or}
use Rattle.std.specs.Prelude.{MatchOption}
use Rattle.member.specs.Reasons.{is_decision, lowest_sender}
use Rattle.member.proofs.Reasons.{sender_is}
use Rattle.hearing.proofs.reasons.lowest_sender.Goals as goal

abbrev NoneBefore : List ℕ → ℕ → Type 0
NoneBefore row i = (j : ℕ) → j < i → is_decision (get_or row j 0) ≡ false

sender_found : (row : List ℕ) (found : Option ℕ)
    → MatchOption found (NoneBefore row (length row)) (λ i. (i < length row) × (is_decision (get_or row i 0) ≡ true) × NoneBefore row i)
    → unwrap_or found (length row) ≡ lowest_sender row
sender_found row None none = sender_is row (length row) (omega arith) none (λ l. absurd (omega arith))
sender_found row (Some i) at = sender_is row i (omega (arith, at.0)) at.2 (λ _. at.1)

pub returns : goal.returns
returns c =
    record {
      found = let row = c.args.row.now in
          let found : MatchOption c.position.result (NoneBefore row (length row)) (λ i. (i < length row) × (is_decision (get_or row i 0) ≡ true) × NoneBefore row i) =
          search rules in
          c.unwrap_or.ensures ∙ sender_found row c.position.result found;
    }
