-- The lines of a text. "Each line ends with LF (byte 10)".
use Rattle.std.specs.Prelude.{ℕ, zero, suc, ◌+◌, ◌-◌, List, [], ◌∷◌, cond, length, take, drop, eqb}

abbrev pub lf : ℕ
lf = 10

-- how many bytes stand before the first LF; all of them, if there is none
unfoldable pub line_length : List ℕ → ℕ
line_length [] = 0
line_length (b ∷ bs) = cond (eqb b lf) 0 (suc (line_length bs))

-- the text that is left after its first line and that line's LF
unfoldable pub after_line : List ℕ → List ℕ
after_line text = drop (line_length text + 1) text

-- "the part of the text that starts where the line before ended": the text that is left after its first k lines
unfoldable pub after_lines : ℕ → List ℕ → List ℕ
after_lines zero text = text
after_lines (suc k) text = after_line (after_lines k text)

-- where a part that reaches to the end of the text starts
abbrev pub start_of : List ℕ → List ℕ → ℕ
start_of text rest = length text - length rest

-- "Line k of a text, without its LF, ..; for k = 0 or a line that isn't there the part is empty. Bytes after the last LF, if there are any, count as
-- a last line here."
unfoldable pub line_of : ℕ → List ℕ → List ℕ
line_of zero text = []
line_of (suc k) text = let rest = after_lines k text in take (line_length rest) rest
