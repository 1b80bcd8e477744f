-- What the definitions of Received.antt come to, of a buffer of eight bytes. Proved in proofs/Vectors.antt.
use Rattle.std.specs.Prelude.{◌≡◌, [], ◌∷◌, Some, Ok, Err}
use Rattle.input.specs.Received.{count_of, EndsFor}

pub record ReceivedVectors : Type 0 where
  -- three bytes were read, whyever reading ended
  pub counts : count_of (Ok 3) ∷ count_of (Err (record { count = 3 })) ∷ [] ≡ 3 ∷ 3 ∷ []
  -- with three in it reading may not end while a byte is left, but where none is, or a read failed
  pub a_byte_left : EndsFor (Ok 3) 8 (Some (7 ∷ [])) → ⊥
  pub none_left : EndsFor (Ok 3) 8 (Some [])
  pub read_failed : EndsFor (Err (record { count = 3 })) 8 (Some (7 ∷ []))
  -- a full one ends it, whatever is left
  pub full : EndsFor (Ok 8) 8 (Some (7 ∷ []))
