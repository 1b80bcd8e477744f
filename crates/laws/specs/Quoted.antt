-- Quoted text as bytes.
use Rattle.std.specs.Prelude.{ℕ, List, [], ◌∷◌}
use Prim.Native.Char.{code}
use Prim.Native.String.{String}
use Prim.Native.String as string

-- the bytes of a text of ASCII letters; `\n` is LF
abbrev pub quoted : String → List ℕ
quoted string.[] = []
quoted (string.◌∷◌ letter rest) = code letter ∷ quoted rest
