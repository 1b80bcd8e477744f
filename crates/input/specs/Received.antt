-- What reading into a buffer came to: how many bytes stand at its start, and what is left of the input.
use Rattle.std.specs.Prelude.{ℕ, ◌<◌, List, Option, Result, Ok, Err, ⊤}
use Rattle.std.specs.Io.KnownBytes.{IsAtEnd}
use Rattle.input.specs.declared.ReadFailed.{ReadFailed}

-- how many bytes stand at the buffer's start
abbrev pub count_of : Result ℕ ReadFailed → ℕ
count_of (Ok count) = count
count_of (Err failed) = failed.count

-- Unless a read failed, a buffer of `size` bytes is full, or nothing is left of the input.
abbrev pub EndsFor : Result ℕ ReadFailed → ℕ → Option (List ℕ) → Type 0
EndsFor (Ok count) size left = count < size → IsAtEnd left
EndsFor (Err failed) size left = ⊤
