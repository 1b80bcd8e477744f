-- Bytes that are written into a lent buffer from a place on.
use Rattle.std.specs.Prelude.{ℕ, ◌+◌, ◌-◌, min, ◌≡◌, List, ◌++◌, Bool, cond, ◌&&◌, length, get_or, drop, ltb, leb}
use Rattle.laws.specs.Below.{tabulate}

-- whether place k gets one of the bytes of a part that is written from place `at` on
unfoldable pub covers : ℕ → List ℕ → ℕ → Bool
covers at part k = leb at k && ltb (k - at) (length part)

-- What a buffer holds after a part was written from place `at` on: its bytes as far as there is room for them, and at every other place what stood there.
unfoldable pub written : List ℕ → ℕ → List ℕ → List ℕ
written buffer at part = tabulate (length buffer) (λ k. cond (covers at part k) (get_or part (k - at) 0) (get_or buffer k 0))

-- the place after the bytes that there was room for
unfoldable pub next_place : List ℕ → ℕ → List ℕ → ℕ
next_place buffer at part = at + min (length part) (length buffer - at)

-- A call that was lent a buffer wrote a part from place `at` on, and answered the place after it.
pub record Writes (before : List ℕ) (at : ℕ) (after : List ℕ) (next : ℕ) (part : List ℕ) : Type 0 where
  pub bytes : after ≡ written before at part
  pub place : next ≡ next_place before at part

-- What holds of it: a part for which there is room stands at the start of the buffer, with what stood behind it. Proved in proofs/Written.antt:
-- `written_front : (buffer part : List ℕ) → length part ≤ length buffer → WrittenFront buffer part`.
pub record WrittenFront (buffer part : List ℕ) : Type 0 where
  pub bytes : written buffer 0 part ≡ part ++ drop (length part) buffer
  pub place : next_place buffer 0 part ≡ length part
