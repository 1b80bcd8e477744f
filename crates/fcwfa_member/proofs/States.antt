-- A state and its bytes: fourteen bytes are the list of what stands at their places, and the last eight are the digits of a set. Assumes nothing.
use mathlib.Core.Path.{◌≡◌, refl, ap, ◌∙◌}
use mathlib.Core.List.{List, [], ◌∷◌, ◌++◌}
use Prim.Native.Nat.{ℕ, ◌+◌, ◌<◌, ◌^◌}
use native.Mathlib.Omega.{arith}
use lib.ListN.{length, get_or}
use Rattle.laws.specs.Below.{sum, tabulate}
use Rattle.laws.proofs.Lists.{tabulate_entries, tabulate_same}
use Rattle.laws.proofs.Numerals.{of_its_digits, digit_found}
use Rattle.sets.specs.Largest.{largest}
use Rattle.member.specs.declared.Member.{Member}
use Rattle.member.specs.Hearing.{with_silent}
use Rattle.fcwfa_member.specs.Bytes.{set_byte, set_in, state_bytes, state_in, StateBytes}

read_back : (m : Member) → m.silent < 2 ^ largest → state_in (state_bytes m) ≡ m
unfolding tabulate sum
read_back m h = ap (with_silent m) (of_its_digits 8 8 m.silent h)

-- the eight bytes from place 6 on are the bytes of the set that stands in them
set_bytes : (bytes : List ℕ) → ((k : ℕ) → k < 14 → get_or bytes k 0 < 2 ^ 8)
    → tabulate 8 (set_byte (set_in (λ k. get_or bytes (6 + k) 0))) ≡ tabulate 8 (λ k. get_or bytes (6 + k) 0)
set_bytes bytes low = tabulate_same 8 _ _ (λ k l. digit_found 8 (λ k. get_or bytes (6 + k) 0) 8 (λ j h. low (6 + j) (omega arith)) k l)

written_back : (bytes : List ℕ) → length bytes ≡ 14 → ((k : ℕ) → k < 14 → get_or bytes k 0 < 2 ^ 8) → state_bytes (state_in bytes) ≡ bytes
unfolding tabulate
written_back bytes e low =
    ap (λ last. (get_or bytes 0 0 ∷ get_or bytes 1 0 ∷ get_or bytes 2 0 ∷ get_or bytes 3 0 ∷ get_or bytes 4 0 ∷ get_or bytes 5 0 ∷ []) ++ last) (set_bytes bytes low)
    ∙ tabulate_entries 0 bytes 14 e

pub state_bytes_lem : StateBytes
unfolding tabulate
state_bytes_lem = record { reads_back = read_back; written = written_back; in_order = refl }
