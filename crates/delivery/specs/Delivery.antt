-- The rows of a round, in which the process at place j says `code j`.
use Rattle.std.specs.Prelude.{ℕ, ◌≡◌, ◌≢◌, ◌⊎◌, List, [], cond, get_or, set}
use Rattle.laws.specs.Filled.{Overwritten}
use Rattle.sets.specs.Sets.{names}
use Rattle.sets.specs.Tables.{padded}
use Rattle.member.specs.Saying.{nothing}
use Rattle.run.specs.Run.{heard_from}

-- What the round of n processes leaves in a grid, n up to the largest: the rows stand in it, with zeros after the codes of each, and the other rows of
-- the grid are as they were.
abbrev pub Delivers : ℕ → ℕ → (ℕ → ℕ) → List ℕ → List ℕ → List (List ℕ) → List (List ℕ) → Type 0
Delivers n r code crashes reaches grid grid_now = Overwritten n (λ i. padded n (heard_from crashes reaches r code i)) grid grid_now

-- A sender with this crash round, reach and code was looked at in round r: if it crashes in the round, its place j in the first n rows holds what each
-- process hears of it, and else no row has changed. Only this crate's own functions cite it.
pub record Entered (n r j code c reach : ℕ) (before after : List (List ℕ)) : Type 0 where
  pub crashing : c ≢ 0 → c ≡ r → Overwritten n (λ (i : ℕ). set (get_or before i []) j (cond (names reach i) code nothing)) before after
  pub other : (c ≡ 0) ⊎ (c ≢ r) → after ≡ before
