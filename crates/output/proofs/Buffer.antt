-- The output: what was written into a buffer of zeros, where all of it fits, with zeros behind it. Assumes nothing.
use mathlib.Core.Path.{◌≡◌, ap, ap₂, ◌∙◌}
use mathlib.Core.List.{List, ◌++◌}
use Prim.Native.Nat.{ℕ, ◌-◌, ◌≤◌}
use native.Mathlib.Omega.{arith}
use lib.ListN.{length, drop, length-replicate}
use Rattle.std.proofs.lemmas.List.{drop-replicate}
use Rattle.buffer.specs.Buffer.{Writes}
use Rattle.buffer.proofs.Written.{written_front}
use Rattle.output.specs.declared.Output.{Output}
use Rattle.output.specs.Answers.{zeros, output_size, output_is}

zeros_long : (k : ℕ) → length (zeros k) ≡ k
zeros_long k = length-replicate k _

-- The bytes that are answered are those that were written into: what was written, and then the zeros behind it.
pub written_output : {blank buffer bytes written : List ℕ} {next : ℕ} → blank ≡ zeros output_size → Writes blank 0 buffer next written → length written ≤ output_size
    → bytes ≡ buffer → ◌≡◌ {A = Output} (record { bytes = bytes; length = next }) (output_is written)
written_output {blank} {buffer} {bytes} {written} blanks w fits lent =
    let long : length blank ≡ output_size = ap length blanks ∙ zeros_long output_size in
    let front = written_front blank written (omega arith) in
    let behind : drop (length written) blank ≡ zeros (output_size - length written) = ap (drop (length written)) blanks ∙ drop-replicate _ _ _ in
    ap₂ (λ (bytes : List ℕ) (length : ℕ). record { bytes = bytes; length = length }) (lent ∙ w.bytes ∙ front.bytes ∙ ap (λ (l : List ℕ). written ++ l) behind) (w.place ∙ front.place)
