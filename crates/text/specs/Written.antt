-- The text of a schedule, as a function: what the writer makes of it. Reading is its inverse (specs/Facts.antt).
use Rattle.std.specs.Prelude.{ℕ, ◌+◌, List, [], ◌∷◌, ◌++◌, length, get_or}
use Rattle.laws.specs.Below.{bit, sum, tabulate, fold}
use Rattle.lines.specs.Lines.{lf}
use Rattle.fields.specs.Decimal.{letter, digit_count, field}
use Rattle.fields.specs.Fields.{space}
use Rattle.sets.specs.Sets.{names}
use Rattle.schedule.specs.Schedule.{Schedule}
use Rattle.text.specs.Forms.{sizes_heading, processes_heading}

-- the lines of n processes, one after the other
unfoldable pub each_line : ℕ → (ℕ → List ℕ) → List ℕ
each_line n line = fold n (λ i before. before ++ line i) []

unfoldable pub sizes_line : ℕ → ℕ → List ℕ
sizes_line n t = field n space ++ field t lf

-- "a reach of n letters 0 or 1, place j for process j"
unfoldable pub letters_of : ℕ → ℕ → List ℕ
letters_of n reach = tabulate n (λ j. letter (bit (names reach j)))

-- the line of the process at place i, whose number is i + 1
unfoldable pub process_line : ℕ → ℕ → ℕ → ℕ → ℕ → List ℕ
process_line n i vote crash reach = field (i + 1) space ++ (field vote space ++ (field crash space ++ (letters_of n reach ++ (lf ∷ []))))

-- the lines of n processes, from their votes, crash rounds and reaches
unfoldable pub process_lines : ℕ → List ℕ → List ℕ → List ℕ → List ℕ
process_lines n votes crashes reaches = each_line n (λ i. process_line n i (get_or votes i 0) (get_or crashes i 0) (get_or reaches i 0))

unfoldable pub text_of : Schedule → List ℕ
text_of s =
    sizes_heading
    ++ (sizes_line s.n s.t
    ++ (processes_heading
    ++ process_lines s.n s.votes s.crashes s.reaches))

-- The length of that text, known before a byte of it is written. It is the same whatever the reaches are. That it is the length is `TextLengths`
-- (specs/Facts.antt).

-- a process's line: the digits of its number, its vote and its crash round, n letters, three spaces and an LF
unfoldable pub process_length : ℕ → ℕ → ℕ → ℕ → ℕ
process_length n i vote crash = digit_count (i + 1) + digit_count vote + digit_count crash + (n + 4)

-- the two headings; the digits of n and t, a space and an LF; and the lines of the processes
unfoldable pub text_length : ℕ → ℕ → List ℕ → List ℕ → ℕ
text_length n t votes crashes =
    length sizes_heading
    + (digit_count n + digit_count t + 2)
    + length processes_heading
    + sum n (λ i. process_length n i (get_or votes i 0) (get_or crashes i 0))

-- the longest text of an accepted schedule has so many bytes (`AllReadBack` in specs/Facts.antt, and `LengthVectors`)
abbrev pub longest_written : ℕ
longest_written = 4692
