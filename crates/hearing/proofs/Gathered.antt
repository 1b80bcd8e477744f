-- Eight codes of at most 2 in the halves of four bytes, and the set of those that are 0. 2 less a code is 2, 1 or 0, so its upper bit is set exactly where
-- the code is 0; a mask keeps these bits, and a product by four powers of 2 brings them side by side, with nothing else at those places. Assumes nothing.
use mathlib.Core.Path.{◌≡◌, refl, ap, ◌∙◌}
use Prim.Native.Nat.{ℕ, zero, suc, ◌+◌, ◌-◌, ◌*◌, ◌/◌, ◌%◌, ◌^◌, ◌≤◌, ◌<◌}
use native.Mathlib.Omega.{arith}
use lib.Bits.{bit_and, and_block}
use lib.Dec.{eqb}
use lib.Pow as Pow
use Rattle.laws.specs.Below.{bit, sum}
use Rattle.laws.proofs.Below.{bit_high}
use Rattle.sets.specs.Sets.{set_of}

-- 2 less a code has its upper bit set exactly where the code is 0
upper : (c : ℕ) → c ≤ 2 → bit_and (2 - c) 2 ≡ bit (eqb c 0) * 2
upper zero _ = refl
upper (suc zero) _ = refl
upper (suc (suc zero)) _ = refl
upper (suc (suc (suc c))) h = absurd (omega arith)

-- and so for two codes in the halves of a byte
uppers : (c d : ℕ) → c ≤ 2 → d ≤ 2 → bit_and (0x22 - (c + d * 16)) 0x22 ≡ (bit (eqb c 0) + bit (eqb d 0) * 16) * 2
uppers c d low high =
    let halves : 0x22 - (c + d * 16) ≡ (2 - d) * 16 + (2 - c) = omega arith in
    let a = upper c low in
    let b = upper d high in
    ap (λ (x : ℕ). bit_and x 0x22) halves ∙ and_block 4 (2 - d) 2 (2 - c) 2 (omega arith) (omega arith) ∙ omega arith

-- the mask goes byte by byte: no byte has a part in another
masked : (p q r s : ℕ) → p < 256 → q < 256 → r < 256
    → bit_and (((s * 256 + r) * 256 + q) * 256 + p) 0x22222222 ≡ ((bit_and s 0x22 * 256 + bit_and r 0x22) * 256 + bit_and q 0x22) * 256 + bit_and p 0x22
masked p q r s a b c =
    and_block 8 ((s * 256 + r) * 256 + q) 0x222222 p 0x22 a (omega arith)
    ∙ ap (λ (x : ℕ). x * 256 + bit_and p 0x22)
    (and_block 8 (s * 256 + r) 0x2222 q 0x22 b (omega arith) ∙ ap (λ (x : ℕ). x * 256 + bit_and q 0x22) (and_block 8 s 0x22 r 0x22 c (omega arith)))

-- the product by 1 + 2 ^ 7 + 2 ^ 14 + 2 ^ 21 has the four pairs side by side from bit 22 on, and what is below and above them does not reach them
side_by_side : (p q r s : ℕ) → p ≤ 17 → q ≤ 17 → r ≤ 17 → s ≤ 17
    → (((s * 2 * 256 + r * 2) * 256 + q * 2) * 256 + p * 2) * 0x204081 / 0x400000 % 256 ≡ p + q * 2 + r * 4 + s * 8
side_by_side p q r s a b c d =
    let above = q + r * 258 + s * 66052 in
    let set = p + q * 2 + r * 4 + s * 8 in
    let below = p * 33026 + q * 66048 + r * 131072 in
    let parts : (((s * 2 * 256 + r * 2) * 256 + q * 2) * 256 + p * 2) * 0x204081 ≡ (above * 256 + set) * 0x400000 + below = omega arith in
    ap (λ (x : ℕ). x / 0x400000 % 256) parts ∙ ap (λ (x : ℕ). x % 256) (Pow.high (above * 256 + set) 22 (omega arith)) ∙ Pow.low above 8 (omega arith)

-- four codes, each a byte of one number
abbrev pub joined : (ℕ → ℕ) → ℕ
joined c = sum 4 (λ k. c k * 256 ^ k)

-- Eight codes c 0 to c 7, of which the four later ones stand in the upper halves of the four bytes.

module _ (c : ℕ → ℕ) (low : (k : ℕ) → k < 8 → c k ≤ 2) where
  -- the two bits that the k-th byte is to give
  abbrev pair : ℕ → ℕ
  pair k = bit (eqb (c k) 0) + bit (eqb (c (4 + k)) 0) * 16

  -- what is left of the k-th byte
  abbrev left : ℕ → ℕ
  left k = 0x22 - (c k + c (4 + k) * 16)

  -- nothing is borrowed from the next byte
  left_is : (k : ℕ) → k < 4 → left k + (c k + c (4 + k) * 16) ≡ 0x22
  left_is k l = omega (arith, low k (omega arith), low (4 + k) (omega arith))

  -- the mask leaves the two bits, each the upper one of two
  zeros_are : (k : ℕ) → k < 4 → bit_and (left k) 0x22 ≡ pair k * 2
  zeros_are k l = uppers (c k) (c (4 + k)) (low k (omega arith)) (low (4 + k) (omega arith))

  -- two bits, four places apart
  pair_high : (k : ℕ) → pair k ≤ 17
  pair_high k = omega (arith, bit_high (eqb (c k) 0), bit_high (eqb (c (4 + k)) 0))

  -- the bytes of the codes and what is left of each
  together : ((left 3 * 256 + left 2) * 256 + left 1) * 256 + left 0 + (joined c + joined (λ k. c (4 + k)) * 16) ≡ 0x22222222
  unfolding sum
  together = omega (arith, left_is 0 (omega arith), left_is 1 (omega arith), left_is 2 (omega arith), left_is 3 (omega arith))

  -- the codes can be taken from the mask
  pub codes_high : joined c + joined (λ k. c (4 + k)) * 16 ≤ 0x22222222
  codes_high = omega (arith, together)

  -- the bits come out in the order of the codes
  pub gathered : bit_and (0x22222222 - (joined c + joined (λ k. c (4 + k)) * 16)) 0x22222222 * 0x204081 / 0x400000 % 256 ≡ set_of 8 (λ k. bit (eqb (c k) 0))
  unfolding sum
  gathered =
      let p = zeros_are 0 (omega arith) in
      let q = zeros_are 1 (omega arith) in
      let r = zeros_are 2 (omega arith) in
      let s = zeros_are 3 (omega arith) in
      ap (λ (x : ℕ). bit_and x 0x22222222 * 0x204081 / 0x400000 % 256)
      {x = 0x22222222 - (joined c + joined (λ k. c (4 + k)) * 16)}
      {y = ((left 3 * 256 + left 2) * 256 + left 1) * 256 + left 0}
      (omega (arith, together))
      ∙ ap (λ (x : ℕ). x * 0x204081 / 0x400000 % 256) (masked (left 0) (left 1) (left 2) (left 3) (omega arith) (omega arith) (omega arith) ∙ omega arith)
      ∙ side_by_side (pair 0) (pair 1) (pair 2) (pair 3) (pair_high 0) (pair_high 1) (pair_high 2) (pair_high 3)
      ∙ omega arith
