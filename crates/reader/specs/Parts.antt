-- What the parts of a reading answer, and what they leave in the tables. Only this crate's own functions cite it.
use Rattle.std.specs.Prelude.{ℕ, ◌≡◌, List, ◌++◌, take, drop}
use Rattle.laws.specs.Filled.{Filled}
use Rattle.sets.specs.Largest.{largest}
use Rattle.text.specs.Reading.{entry_in}
use Rattle.reader.specs.declared.tables.Entries.{Entries}

-- a lent table whose first n entries are those that f gives
abbrev pub Table : ℕ → List ℕ → (ℕ → ℕ) → Type 0
Table n table f = Filled 0 largest n table f

-- three tables hold what stands on the n lines
abbrev pub EntriesRead : List ℕ → ℕ → Entries → Type 0
EntriesRead text n entries =
    Table n entries.votes (λ i. (entry_in text i).vote) × Table n entries.crashes (λ i. (entry_in text i).crash) × Table n entries.reaches (λ i. (entry_in text i).reach)

-- Three lent tables after their first n entries were filled with those that were read, and the other entries left.
pub record Fills (n : ℕ) (entries : Entries) (votes crashes reaches votes_now crashes_now reaches_now : List ℕ) : Type 0 where
  pub votes_filled : votes_now ≡ take n entries.votes ++ drop n votes
  pub crashes_filled : crashes_now ≡ take n entries.crashes ++ drop n crashes
  pub reaches_filled : reaches_now ≡ take n entries.reaches ++ drop n reaches
