-- What holds of sets of processes, for every n: so of sets of every width. Proved in proofs/Theorem.antt: `set_facts : (n : ℕ) → SetFacts n`. Assumes
-- nothing.
use Rattle.std.specs.Prelude.{ℕ, ◌-◌, ◌*◌, ◌%◌, ◌^◌, ◌≤◌, ◌<◌, ◌≡◌, true, false, length, get_or}
use Rattle.std.specs.Int.Count.{ones}
use Rattle.laws.specs.Below.{bit, count}
use Rattle.sets.specs.Largest.{largest}
use Rattle.sets.specs.Tables.{padded}
use Rattle.sets.specs.Sets.{names, up_to, set_of}

pub record SetFacts (n : ℕ) : Type 0 where
  -- the ones of a set are as many as the processes that it names
  pub ones_named : (set : ℕ) → set < 2 ^ n → ones set ≡ count n (names set)
  -- at most n - 1, if it does not name one of them
  pub ones_of_others : (set i : ℕ) → set < 2 ^ n → i < n → names set i ≡ false → ones set ≤ n - 1
  -- a set of processes 1 to n names nobody past them
  pub nobody_past : (set i : ℕ) → set < 2 ^ n → n ≤ i → names set i ≡ false
  -- a row of digits stands for the set with these bits, which is one of processes 1 to n; and a set is the one of its own bits
  pub bits : (digit : ℕ → ℕ) → ((j : ℕ) → j < n → digit j ≤ 1) → (j : ℕ) → j < n → bit (names (set_of n digit) j) ≡ digit j
  pub below : (digit : ℕ → ℕ) → ((j : ℕ) → j < n → digit j ≤ 1) → set_of n digit < 2 ^ n
  pub of_its_bits : (set : ℕ) → set < 2 ^ n → set_of n (λ j. bit (names set j)) ≡ set

-- "The facts about sets of processes shall be shown for any n up to the width and serve both widths.": a set of n processes as a word of so many bits.
-- Proved for every width in proofs/Theorem.antt: `width_facts : (width : ℕ) → WidthFacts width`.
pub record WidthFacts (width : ℕ) : Type 0 where
  -- n up to the width: the facts above, and a set of processes 1 to n is a word
  pub sets : (n : ℕ) → n ≤ width → SetFacts n
  pub word : (n set : ℕ) → n ≤ width → up_to n set ≡ true → set < 2 ^ width
  -- all processes 1 to n, also where n is the width: the set is a word, and it names each of them
  pub everybody : (n : ℕ) → n ≤ width → 2 ^ n - 1 < 2 ^ width
  pub named : (n i : ℕ) → n ≤ width → i < n → names (2 ^ n - 1) i ≡ true
  -- a word names only processes 1 to n for each n from the width on, and at most as many as it has bits
  pub up_to : (n set : ℕ) → set < 2 ^ width → width ≤ n → up_to n set ≡ true
  pub few : (set : ℕ) → set < 2 ^ width → ones set ≤ width
  -- a bit is moved to each of its places without loss
  pub moved : (d j : ℕ) → d ≤ 1 → j < width → (d * 2 ^ j) % 2 ^ width ≡ d * 2 ^ j

-- The two widths: that of a set, and 32 bits, where n is up to 32. Proved there: `widths : Widths`.
pub record Widths : Type 0 where
  pub set : WidthFacts largest
  pub half : WidthFacts 32

-- What a table holds that is padded with zeros: the values that it was given, and zeros from place n on. Proved in proofs/Theorem.antt:
-- `table_facts : (n : ℕ) (f : ℕ → ℕ) → TableFacts n f`.
pub record TableFacts (n : ℕ) (f : ℕ → ℕ) : Type 0 where
  pub long : n ≤ largest → length (padded n f) ≡ largest
  pub given : (k : ℕ) → k < n → get_or (padded n f) k 0 ≡ f k
  pub zeros : (k : ℕ) → n ≤ k → get_or (padded n f) k 0 ≡ 0
