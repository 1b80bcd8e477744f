-- A member's state as fourteen bytes at fixed places: "n, t, own number, the round to play next, the estimate .., and the decided round", one byte each,
-- and then the silent set as eight bytes, the lowest first, from place 6 on.
use Rattle.std.specs.Prelude.{ℕ, ◌+◌, ◌*◌, ◌/◌, ◌%◌, ◌^◌, ◌<◌, ◌≡◌, List, [], ◌∷◌, ◌++◌, length, get_or}
use Rattle.laws.specs.Below.{sum, tabulate}
use Rattle.sets.specs.Largest.{largest}
use Rattle.member.specs.declared.Member.{Member}

-- the byte of a set at place k of its eight: the lowest is at place 0
abbrev pub set_byte : ℕ → ℕ → ℕ
set_byte set k = set / 2 ^ (8 * k) % 2 ^ 8

-- the set that stands in eight bytes, of which `byte k` is the one at place k
abbrev pub set_in : (ℕ → ℕ) → ℕ
set_in byte = sum 8 (λ k. byte k * 2 ^ (8 * k))

-- the bytes of a state
abbrev pub state_bytes : Member → List ℕ
state_bytes m = (m.n ∷ m.t ∷ m.id ∷ m.round ∷ m.estimate ∷ m.decided ∷ []) ++ tabulate 8 (set_byte m.silent)

-- the state that stands in these bytes
abbrev pub state_in : List ℕ → Member
state_in bytes = record {
  n = get_or bytes 0 0;
  t = get_or bytes 1 0;
  id = get_or bytes 2 0;
  round = get_or bytes 3 0;
  estimate = get_or bytes 4 0;
  decided = get_or bytes 5 0;
  silent = set_in (λ k. get_or bytes (6 + k) 0);
}

-- What holds of a state and its bytes. Proved in proofs/States.antt: `state_bytes_lem : StateBytes`.
pub record StateBytes : Type 0 where
  -- every state with a set of up to 64 processes is read back from its bytes, and any fourteen bytes are those of the state that stands in them
  pub reads_back : (m : Member) → m.silent < 2 ^ largest → state_in (state_bytes m) ≡ m
  pub written : (bytes : List ℕ) → length bytes ≡ 14 → ((k : ℕ) → k < 14 → get_or bytes k 0 < 2 ^ 8) → state_bytes (state_in bytes) ≡ bytes
  -- in document 01's order, with the lowest byte of the set first: n = 44, t = 25, own number 26, round 4, estimate 1, decided in round 3; silent were
  -- processes 1 and 2, 11, and 44
  pub in_order : state_bytes (record { n = 44; t = 25; id = 26; round = 4; estimate = 1; decided = 3; silent = 3 + 2 ^ 10 + 2 ^ 43 })
      ≡ 44 ∷ 25 ∷ 26 ∷ 4 ∷ 1 ∷ 3 ∷ 3 ∷ 4 ∷ 0 ∷ 0 ∷ 0 ∷ 8 ∷ 0 ∷ 0 ∷ []
