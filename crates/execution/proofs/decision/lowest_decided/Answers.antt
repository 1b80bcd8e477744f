-- `lowest_decided` meets its contract: it is the place found, before which nobody is decided, and n where none is found. Assumes nothing.
use Rattle.std.proofs.Common.{rules, arith, sym, ◌∙◌, ap, ◌≡◌, ◌≢◌, ◌<◌, ◌≤◌, ℕ, List, Option, None, Some, unwrap_or, get_or, take, length}
use Rattle.std.specs.Prelude.{MatchOption}
use lib.Seq.{get_or-take, length-take-le}
use Rattle.member.specs.declared.Member.{Member}
use Rattle.run.specs.Protocol.{nobody}
use Rattle.run.specs.Outcome.{lowest_decided}
use Rattle.run.proofs.Outcome.{lowest_is}
use Rattle.execution.proofs.decision.lowest_decided.Goals as goal

abbrev round_at : List Member → ℕ → ℕ
round_at members i = (get_or members i nobody).decided

-- what a search through the first n members finds is the lowest-numbered one that is decided
module _ (n : ℕ) (members : List Member) (room : n ≤ length members) where
  abbrev first : List Member
  first = take n members

  abbrev NoneBefore : ℕ → Type 0
  NoneBefore i = (j : ℕ) → j < i → round_at first j ≡ 0

  long : length first ≡ n
  long = length-take-le n members room

  same : (j : ℕ) → j < n → round_at first j ≡ round_at members j
  same j l = ap (λ (m : Member). m.decided) (get_or-take n members j nobody l)

  lowest_found : (found : Option ℕ) → MatchOption found (NoneBefore (length first)) (λ i. (i < length first) × (round_at first i ≢ 0) × NoneBefore i)
      → unwrap_or found n ≡ lowest_decided n members
  lowest_found None none =
      let all = long in
      lowest_is n members n (omega arith) (λ j l. sym (same j l) ∙ none j (omega arith)) (λ l. absurd (omega arith))
  lowest_found (Some i) at =
      let all = long in
      let below : i < n = omega (arith, at.0) in
      lowest_is n members i (omega arith) (λ j l. sym (same j (omega arith)) ∙ at.2 j l) (λ l z. at.1 (same i below ∙ z))

pub returns : goal.returns
returns c =
    record {
      found = let n = c.args.n in
          let members = c.args.members.now in
          let found : MatchOption c.position.result (NoneBefore n members (omega arith) (length (take n members))) (λ i. (i < length (take n members)) × (round_at (take n members) i ≢ 0) × NoneBefore n members (omega arith) i) =
          search rules in
          c.unwrap_or.ensures ∙ lowest_found n members (omega arith) c.position.result found;
    }
