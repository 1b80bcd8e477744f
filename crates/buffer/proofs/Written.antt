-- What a buffer holds after bytes were written into it: a byte that is stored is one part, two parts one after the other are one, and a part for which there
-- is room stands at the front, with what stood behind it. Each is seen place by place. Assumes nothing.
use mathlib.Core.Path.{◌≡◌, sym, ap, ◌∙◌, subst}
use mathlib.Core.Logic.{inl, inr}
use mathlib.Core.List.{List, [], ◌∷◌, ◌++◌}
use mathlib.Core.Bool.{true, false}
use Prim.Native.Nat.{ℕ, ◌+◌, ◌-◌, ◌≤◌, ◌<◌}
use native.Mathlib.Numerals.{add-one}
use native.Mathlib.Omega.{arith}
use borrow.Author.Tests.{le-leb, lt-leb, lt-ltb, le-ltb}
use lib.ListN.{length, get_or, take, drop, set, length-set, length-append, length-drop, get_or-append}
use lib.Seq.{get_or-set_same, get_or-set_other, get_or-append-add, get_or-drop, ext_get_or, take-suc}
use Rattle.laws.proofs.Counting.{split}
use Rattle.laws.proofs.Lists.{length_tabulate, get_d_tabulate}
use Rattle.buffer.specs.Buffer.{covers, written, next_place, Writes, WrittenFront}

module _ (at : ℕ) (part : List ℕ) (k : ℕ) where
  before_part : k < at → covers at part k ≡ false
  unfolding covers
  before_part l = rw (lt-leb at k l)

  in_part : at ≤ k → k - at < length part → covers at part k ≡ true
  unfolding covers
  in_part l h = rw (le-leb at k l, lt-ltb (k - at) (length part) h)

  past_part : at ≤ k → length part ≤ k - at → covers at part k ≡ false
  unfolding covers
  past_part l h = rw (le-leb at k l, le-ltb (k - at) (length part) h)

-- What stands at a place of a buffer that a part was written into.
module _ (buffer : List ℕ) (at : ℕ) (part : List ℕ) where
  pub written_long : length (written buffer at part) ≡ length buffer
  unfolding written
  written_long = length_tabulate (length buffer) _

  module _ (k : ℕ) (l : k < length buffer) where
    stays : covers at part k ≡ false → get_or (written buffer at part) k 0 ≡ get_or buffer k 0
    unfolding written
    stays e = get_d_tabulate (length buffer) _ k 0 l ∙ rw e

    gets : covers at part k ≡ true → get_or (written buffer at part) k 0 ≡ get_or part (k - at) 0
    unfolding written
    gets e = get_d_tabulate (length buffer) _ k 0 l ∙ rw e

-- a byte of the second of two parts, one after the other
second_part : (p q : List ℕ) (j : ℕ) → length p ≤ j → get_or (p ++ q) j 0 ≡ get_or q (j - length p) 0
second_part p q j l =
    let e : j ≡ length p + (j - length p) = omega arith in
    ap (λ (i : ℕ). get_or (p ++ q) i 0) e ∙ get_or-append-add p q (j - length p) 0

-- Two parts, one after the other, are one.
module _ (buffer : List ℕ) (at : ℕ) (p q : List ℕ) where
  joined_at : (k : ℕ) → k < length buffer → get_or (written (written buffer at p) (next_place buffer at p) q) k 0 ≡ get_or (written buffer at (p ++ q)) k 0
  unfolding next_place
  joined_at k l =
      let long = written_long buffer at p in
      let both = length-append p q in
      let inside : k < length (written buffer at p) = omega arith in
      elim (split at k) [
        | inl low ↦
            elim (split (length p) (k - at)) [
              | inl past ↦
                  let kept = stays buffer at p k l (past_part at p k low past) in
                  elim (split (length p + length q) (k - at)) [
                    | inl end ↦
                        stays (written buffer at p) _ q k inside (past_part _ q k (omega arith) (omega arith))
                        ∙ kept
                        ∙ sym (stays buffer at (p ++ q) k l (past_part at (p ++ q) k low (omega arith)))
                    | inr end ↦
                        let m = next_place buffer at p in
                        let same : k - m ≡ k - at - length p = omega arith in
                        gets (written buffer at p) m q k inside (in_part m q k (omega arith) (omega arith))
                        ∙ ap (λ (j : ℕ). get_or q j 0) same
                        ∙ sym (second_part p q (k - at) past)
                        ∙ sym (gets buffer at (p ++ q) k l (in_part at (p ++ q) k low (omega arith)))
                  ]
              | inr end ↦
                  stays (written buffer at p) _ q k inside (before_part _ q k (omega arith))
                  ∙ gets buffer at p k l (in_part at p k low end)
                  ∙ sym (get_or-append p q 0 (k - at) end)
                  ∙ sym (gets buffer at (p ++ q) k l (in_part at (p ++ q) k low (omega arith)))
            ]
        | inr low ↦
            stays (written buffer at p) _ q k inside (before_part _ q k (omega arith))
            ∙ stays buffer at p k l (before_part at p k low)
            ∙ sym (stays buffer at (p ++ q) k l (before_part at (p ++ q) k low))
      ]

  joined : written (written buffer at p) (next_place buffer at p) q ≡ written buffer at (p ++ q)
  joined =
      let a = written_long (written buffer at p) (next_place buffer at p) q in
      let b = written_long buffer at p in
      let c = written_long buffer at (p ++ q) in
      ext_get_or 0 _ _ (a ∙ b ∙ sym c) (λ k l. joined_at k (omega arith))

  joined_place : next_place (written buffer at p) (next_place buffer at p) q ≡ next_place buffer at (p ++ q)
  unfolding next_place
  joined_place = let long = written_long buffer at p in let both = length-append p q in omega arith

-- Calls one after the other write their parts one after the other.
nothing_written : (buffer : List ℕ) (at : ℕ) → buffer ≡ written buffer at []
nothing_written buffer at =
    let long = written_long buffer at [] in
    ext_get_or 0 _ _ (sym long) (λ k l. sym (elim (split at k) [
      | inl low ↦ stays buffer at [] k l (past_part at [] k low (omega arith))
      | inr low ↦ stays buffer at [] k l (before_part at [] k low)
    ]))

pub writes_none : (buffer : List ℕ) (at : ℕ) → Writes buffer at buffer at []
unfolding next_place
writes_none buffer at = record { bytes = nothing_written buffer at; place = omega arith }

pub writes_same : {a b : List ℕ} {i j : ℕ} {p q : List ℕ} → p ≡ q → Writes a i b j p → Writes a i b j q
writes_same {a} {b} {i} {j} e w = subst (λ (x : List ℕ). Writes a i b j x) e w

pub writes_more : {a b c : List ℕ} {i j k : ℕ} (p q : List ℕ) → Writes a i b j p → Writes b j c k q → Writes a i c k (p ++ q)
writes_more {a} {b} {c} {i} {j} {k} p q v w =
    let next : Writes (written a i p) (next_place a i p) c k q = subst (λ (x : ℕ). Writes (written a i p) x c k q) v.place (subst (λ (x : List ℕ). Writes x j c k q) v.bytes w) in
    record { bytes = next.bytes ∙ joined a i p q; place = next.place ∙ joined_place a i p q }

-- the place after them is in the buffer, or its end
pub writes_inside : {a b : List ℕ} {i j : ℕ} {p : List ℕ} → Writes a i b j p → i ≤ length a → (j ≤ length a) × (length b ≡ length a)
unfolding next_place
writes_inside {a} {i = i} {p = p} w l = let place = w.place in (omega arith, ap length w.bytes ∙ written_long a i p)

-- a loop that writes the bytes of a part in turn
pub writes_next : {a b c : List ℕ} {i j k : ℕ} (part : List ℕ) (m : ℕ) → m < length part → Writes a i b j (take m part) → Writes b j c k (get_or part m 0 ∷ [])
    → Writes a i c k (take (m + 1) part)
writes_next part m l v w = writes_same (sym (ap (λ (k : ℕ). take k part) (add-one m) ∙ take-suc part m 0 l)) (writes_more (take m part) (get_or part m 0 ∷ []) v w)

-- One byte: it is stored where there is a place left, and else left out.
module _ (buffer : List ℕ) (at byte : ℕ) where
  pub byte_stored : at < length buffer → Writes buffer at (set buffer at byte) (at + 1) (byte ∷ [])
  unfolding next_place
  byte_stored l =
      let long = written_long buffer at (byte ∷ []) in
      let same = length-set buffer at byte in
      record {
        bytes = ext_get_or 0 _ _ (same ∙ sym long) (λ k b. elim (split at k) [
          | inl low ↦
              elim (split (at + 1) k) [
                | inl past ↦ get_or-set_other buffer at k byte 0 (λ (e : k ≡ at). omega arith) ∙ sym (stays buffer at (byte ∷ []) k (omega arith) (past_part at (byte ∷ []) k low (omega arith)))
                | inr here ↦
                    let e : k ≡ at = omega arith in
                    let none : k - at ≡ 0 = omega arith in
                    ap (λ (j : ℕ). get_or (set buffer at byte) j 0) e
                    ∙ get_or-set_same buffer at byte 0 l
                    ∙ sym (gets buffer at (byte ∷ []) k (omega arith) (in_part at (byte ∷ []) k low (omega arith)) ∙ ap (λ (j : ℕ). get_or (byte ∷ []) j 0) none)
              ]
          | inr low ↦ get_or-set_other buffer at k byte 0 (λ (e : k ≡ at). omega arith) ∙ sym (stays buffer at (byte ∷ []) k (omega arith) (before_part at (byte ∷ []) k low))
        ]);
        place = omega arith;
      }

  pub byte_left_out : length buffer ≤ at → Writes buffer at buffer at (byte ∷ [])
  unfolding next_place
  byte_left_out l =
      let long = written_long buffer at (byte ∷ []) in
      record {
        bytes = ext_get_or 0 _ _ (sym long) (λ k b. sym (stays buffer at (byte ∷ []) k b (before_part at (byte ∷ []) k (omega arith))));
        place = omega arith;
      }

-- A part for which there is room, from the start on.
front_place : (buffer part : List ℕ) → length part ≤ length buffer → next_place buffer 0 part ≡ length part
unfolding next_place
front_place buffer part fits = omega arith

pub written_front : (buffer part : List ℕ) → length part ≤ length buffer → WrittenFront buffer part
written_front buffer part fits =
    let long = written_long buffer 0 part in
    let rest = length-drop (length part) buffer in
    let all = length-append part (drop (length part) buffer) in
    record {
      bytes = ext_get_or 0 _ _ (omega arith) (λ k l. elim (split (length part) k) [
        | inl past ↦
            let e : length part + (k - length part) ≡ k = omega arith in
            stays buffer 0 part k (omega arith) (past_part 0 part k (omega arith) (omega arith))
            ∙ sym (second_part part (drop (length part) buffer) k past ∙ get_or-drop (length part) buffer (k - length part) 0 ∙ ap (λ (j : ℕ). get_or buffer j 0) e)
        | inr inside ↦
            let e : k - 0 ≡ k = omega arith in
            gets buffer 0 part k (omega arith) (in_part 0 part k (omega arith) (omega arith))
            ∙ ap (λ (j : ℕ). get_or part j 0) e
            ∙ sym (get_or-append part (drop (length part) buffer) 0 k inside)
      ]);
      place = front_place buffer part fits;
    }
