-- `last_round` meets its contract: the largest round, 0 where there is none, is what the steps of the definition leave. Assumes nothing.
use Rattle.std.proofs.Common.{rules, arith, refl, ◌∙◌, ◌≡◌, ◌≤◌, ℕ, List, length, get_or, max, Option, None, Some, Contains, unwrap_or, inl, inr}
use Rattle.std.proofs.lemmas.Grind.{get_or_default_zero}
use Rattle.std.specs.Prelude.{MatchOption, EachIndex}
use Rattle.laws.specs.Below.{fold}
use Rattle.laws.proofs.Folds.{largest_high, largest_is}
use Rattle.run.specs.Report.{last_of}
use Rattle.deciders.proofs.last_round.Goals as goal

abbrev largest_in : List ℕ → ℕ
largest_in xs = fold (length xs) (λ i found. max found (get_or xs i 0)) 0

-- a number that stands in the list and that none in it is above
largest_found : (xs : List ℕ) (m : ℕ) → EachIndex xs (λ k. get_or xs k 0 ≤ m) → Contains xs m → m ≡ largest_in xs
largest_found xs m low has =
    let d = get_or_default_zero xs has.0 m has.1 in
    let over = largest_high (λ i. get_or xs i 0) (length xs) has.0 has.1 in
    elim (largest_is (λ i. get_or xs i 0) (length xs)) [
      | inl z ↦ omega (arith, has.2)
      | inr j ↦ omega (arith, has.2, low j.0 j.1)
    ]

largest_is_last : (xs : List ℕ) (o : Option ℕ) → MatchOption o (length xs ≡ 0) (λ m. EachIndex xs (λ k. get_or xs k 0 ≤ m))
    → MatchOption o (length xs ≡ 0) (λ m. Contains xs m) → unwrap_or o 0 ≡ largest_in xs
unfolding fold
largest_is_last xs None none _ = rw none refl
largest_is_last xs (Some m) low has = largest_found xs m low has

pub returns : goal.returns
unfolding last_of
returns c =
    record {
      found = let rs = c.args.rounds.now in
          let low : MatchOption c.max.result (length rs ≡ 0) (λ m. EachIndex rs (λ k. get_or rs k 0 ≤ m)) = search rules in
          let has : MatchOption c.max.result (length rs ≡ 0) (λ m. Contains rs m) = search rules in
          c.unwrap_or.ensures ∙ largest_is_last rs c.max.result low has;
    }
