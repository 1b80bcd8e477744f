-- The lines of a text and where they start, written from document 01 by hand, and the statement that covers them. Proved in proofs/Vectors.antt:
-- `line_vectors : LineVectors`, by computing what the definitions give.
use Rattle.std.specs.Prelude.{ℕ, ◌≡◌, List, [], ◌∷◌, map}
use Prim.Native.String.{String}
use Rattle.laws.specs.Quoted.{quoted}
use Rattle.lines.specs.Lines.{after_lines, start_of, line_of}

-- a line of a text by its number, and the place where the text after that many lines starts
pub record NumberedLine : Type 0 where
  pub text : String
  pub number : ℕ
  pub line : String
  pub after : ℕ

abbrev pub has : String → ℕ → String → ℕ → NumberedLine
has text number line after = record { text = text; number = number; line = line; after = after }

abbrev pub vectors : List NumberedLine
vectors =
    -- "for k = 0 .. the part is empty"
    has "n t\n4 3\n5" 0 "" 0 ∷
    -- "Line k of a text, without its LF"
    has "n t\n4 3\n5" 1 "n t" 4 ∷
    has "n t\n4 3\n5" 2 "4 3" 8 ∷
    -- "Bytes after the last LF, if there are any, count as a last line here."
    has "n t\n4 3\n5" 3 "5" 9 ∷
    -- "or a line that isn't there"
    has "n t\n4 3\n5" 4 "" 9 ∷
    has "n t\n" 2 "" 4 ∷
    has "" 1 "" 0 ∷
    -- an empty line
    has "\n\nx\n" 2 "" 2 ∷
    has "\n\nx\n" 3 "x" 4 ∷
    []

pub record LineVectors : Type 0 where
  pub lines : map (λ v. line_of v.number (quoted v.text)) vectors ≡ map (λ v. quoted v.line) vectors
  pub starts : map (λ v. start_of (quoted v.text) (after_lines v.number (quoted v.text))) vectors ≡ map (λ v. v.after) vectors
