-- The vectors hold: each is computed, and a list with a byte in it is not empty. Assumes nothing.
use Rattle.std.proofs.Common.{refl, arith}
use Rattle.input.specs.Vectors.{ReceivedVectors}

pub received_vectors : ReceivedVectors
received_vectors = record {
  counts = refl;
  a_byte_left = λ ends. let empty = ends (omega arith) in cc;
  none_left = λ _. refl;
  read_failed = tt;
  full = λ less. absurd (omega arith);
}
