-- Calls of the reader with their answers and the tables after them, written from document 01 by hand, and the statement that covers them. Proved in
-- proofs/Vectors.antt: `reader_vectors : ReaderVectors`, by computing what the definitions give.
use Rattle.std.specs.Prelude.{ℕ, ◌≡◌, List, [], ◌∷◌, ◌++◌, map, replicate}
use Prim.Native.String.{String}
use Rattle.laws.specs.Quoted.{quoted}
use Rattle.laws.specs.Answer.{Answer, accepted, refused}
use Rattle.sets.specs.Largest.{largest}
use Rattle.schedule.specs.Four.{four, all_one}
use Rattle.text.specs.declared.Sizes.{Sizes}
use Rattle.text.specs.Reading.{longest}
use Rattle.reader.specs.Answers.{read_answer, votes_after, crashes_after, reaches_after}

-- three tables
pub record Tables : Type 0 where
  pub votes : List ℕ
  pub crashes : List ℕ
  pub reaches : List ℕ

-- a text and the tables lent with it; the answer, and the tables after the call
pub record ReadCall : Type 0 where
  pub text : String
  pub lent : Tables
  pub answer : Answer Sizes ℕ
  pub after : Tables

-- tables that hold 7 throughout, of these lengths
abbrev pub sevens : ℕ → ℕ → ℕ → Tables
sevens votes crashes reaches = record { votes = replicate votes 7; crashes = replicate crashes 7; reaches = replicate reaches 7 }

-- "Nothing lent is changed": a refusal with its number and the line's
abbrev pub refuses : String → Tables → ℕ → ℕ → ReadCall
refuses text lent number line = record { text = text; lent = lent; answer = refused number line; after = lent }

-- four entries that were read, with 7 after them in a table of 64
abbrev pub read_four : List ℕ → List ℕ
read_four entries = entries ++ replicate 60 7

abbrev pub calls : List ReadCall
calls =
    -- "three tables of 32? 3, line 0", and "the reader's tables have 64 entries", before the questions of the text, which is empty
    refuses "" (sevens 63 64 64) 3 0 ∷
    refuses "" (sevens 64 65 64) 3 0 ∷
    refuses "" (sevens 64 64 63) 3 0 ∷
    refuses "" (sevens 32 32 32) 3 0 ∷
    refuses "" (sevens 64 64 64) 9 1 ∷
    -- case D: "fills three lent tables", now of 64 entries, "and leaves entries above n unchanged"
    record {
      text = "n t\n4 3\nid vote crash reach\n1 1 1 0100\n2 1 0 0000\n3 1 0 0000\n4 1 0 0000\n";
      lent = sevens 64 64 64;
      answer = accepted (record { n = 4; t = 3 });
      after = record { votes = read_four all_one; crashes = read_four (four 1 0 0 0); reaches = read_four (four 2 0 0 0) };
    } ∷
    -- four crashes, which are known after the last line only
    refuses "n t\n4 3\nid vote crash reach\n1 1 1 0000\n2 1 1 0000\n3 1 1 0000\n4 1 1 0000\n" (sevens 64 64 64) 7 7 ∷
    []

-- what the definitions give for a call
module _ (c : ReadCall) where
  abbrev pub answers : Answer Sizes ℕ
  answers = read_answer largest longest (quoted c.text) c.lent.votes c.lent.crashes c.lent.reaches

  abbrev pub leaves : Tables
  leaves = record {
    votes = votes_after largest longest (quoted c.text) c.lent.votes c.lent.crashes c.lent.reaches;
    crashes = crashes_after largest longest (quoted c.text) c.lent.votes c.lent.crashes c.lent.reaches;
    reaches = reaches_after largest longest (quoted c.text) c.lent.votes c.lent.crashes c.lent.reaches;
  }

-- each of these calls has its answer, and leaves its tables
pub record ReaderVectors : Type 0 where
  pub answered : map answers calls ≡ map (λ c. c.answer) calls
  pub left : map leaves calls ≡ map (λ c. c.after) calls
