-- The lines of specs/Vectors.antt are computed from the definitions, all at once. Assumes nothing.
use mathlib.Core.Path.{refl}
use Rattle.lines.specs.Lines.{line_length, after_line, after_lines, line_of}
use Rattle.lines.specs.Vectors.{LineVectors}

pub line_vectors : LineVectors
unfolding line_length after_line after_lines line_of
line_vectors = record { lines = refl; starts = refl }
