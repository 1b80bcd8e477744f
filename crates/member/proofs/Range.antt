-- A member in range, in plain facts on its numbers, both ways. Assumes nothing.
use mathlib.Core.Path.{◌≡◌}
use mathlib.Core.Logic.{inl, inr, ◌≢◌}
use mathlib.Core.Bool.{Bool, true, false, not, ◌&&◌}
use Prim.Native.Nat.{ℕ, ◌+◌, ◌-◌, ◌^◌, ◌≤◌, ◌<◌}
use native.Mathlib.Omega.{arith}
use borrow.Author.Tests.{eqb-true, eqb-false, eq-eqb, ne_eqb, leb-true, le-leb}
use lib.Dec.{leb, eqb}
use Rattle.laws.specs.Test.{within}
use Rattle.laws.specs.Answer.{ask}
use Rattle.laws.proofs.Test.{true_or_false, and_left, and_right, or_false, within_low, within_high, within_is}
use Rattle.laws.proofs.Answer.{passed}
use Rattle.sets.specs.Sets.{names}
use Rattle.sets.proofs.Bits.{of_others_below, of_others_not, of_others}
use Rattle.member.specs.declared.Member.{Member}
use Rattle.member.specs.Opening.{open_question}
use Rattle.member.specs.State.{undecided, in_limits, placed, silent_others, in_range, stopped}
use Rattle.member.specs.Saying.{says}

-- n, t, own number and estimate (or vote) are within their limits.
pub record Limits (limit n t id value : ℕ) : Type 0 where
  pub n_low : 4 ≤ n
  pub n_high : n ≤ limit
  pub t_low : 3 ≤ t
  pub t_high : t < n
  pub id_low : 1 ≤ id
  pub id_high : id ≤ n
  pub value_high : value ≤ 1

module _ (limit n t id value : ℕ) where
  pub open_limits : open_question limit n t id value ≡ 0 → Limits limit n t id value
  unfolding open_question
  open_limits e =
      let p1 = passed (within 4 n limit) 1 _ (omega arith) e in
      let p2 = passed (within 3 t (n - 1)) 2 _ (omega arith) p1.1 in
      let p3 = passed (within 1 id n) 10 _ (omega arith) p2.1 in
      let p4 = passed (leb value 1) 4 _ (omega arith) p3.1 in
      let n_low = within_low _ _ _ p1.0 in
      let t_high = within_high _ _ _ p2.0 in
      record {
        n_low = n_low;
        n_high = within_high _ _ _ p1.0;
        t_low = within_low _ _ _ p2.0;
        t_high = omega arith;
        id_low = within_low _ _ _ p3.0;
        id_high = within_high _ _ _ p3.0;
        value_high = leb-true _ _ p4.0;
      }

  pub limits_open : Limits limit n t id value → open_question limit n t id value ≡ 0
  unfolding open_question ask
  limits_open l =
      rw (
        within_is 4 n limit l.n_low l.n_high,
        within_is 3 t (n - 1) l.t_low (omega arith),
        within_is 1 id n l.id_low l.id_high,
        le-leb value 1 l.value_high,
      )

-- The round and the decided round of a member in range.
pub data Place (m : Member) : Type 0 where
  waiting : m.decided ≡ 0 → 1 ≤ m.round → m.round ≤ m.t + 1 → Place m
  settled : 2 ≤ m.decided → m.decided ≤ m.t + 1 → m.decided + 1 ≤ m.round → m.round ≤ m.decided + 2 → m.round ≤ m.t + 2 → Place m

module _ (m : Member) where
  abbrev first : Bool
  first = within 2 m.decided (m.t + 1)

  abbrev second : Bool
  second = within (m.decided + 1) m.round (m.decided + 2)

  abbrev third : Bool
  third = leb m.round (m.t + 2)

  pub placed_place : placed m ≡ true → Place m
  unfolding placed
  placed_place e =
      elim (true_or_false (eqb m.decided 0)) [
        | inl u ↦ let w = rw u at e in waiting (eqb-true m.decided 0 u) (within_low 1 m.round (m.t + 1) w) (within_high 1 m.round (m.t + 1) w)
        | inr d ↦
            let w = rw d at e in
            let a = and_left first (second && third) w in
            let b = and_right first (second && third) w in
            let b1 = and_left second third b in
            settled (within_low 2 m.decided (m.t + 1) a) (within_high 2 m.decided (m.t + 1) a)
            (within_low (m.decided + 1) m.round (m.decided + 2) b1) (within_high (m.decided + 1) m.round (m.decided + 2) b1)
            (leb-true m.round (m.t + 2) (and_right second third b))
      ]

  -- the last test of a decided member that passed the others
  pub placed_last : (m.decided ≡ 0 → ⊥) → first ≡ true → second ≡ true → third ≡ placed m
  unfolding placed
  placed_last d a b = rw (ne_eqb m.decided 0 d, a, b)

  pub place_placed : Place m → placed m ≡ true
  unfolding placed
  place_placed (waiting u lo hi) = rw (eq-eqb m.decided 0 u, within_is 1 m.round (m.t + 1) lo hi)
  place_placed (settled d1 d2 r1 r2 r3) =
      rw (
        ne_eqb m.decided 0 (λ z. omega arith),
        within_is 2 m.decided (m.t + 1) d1 d2,
        within_is (m.decided + 1) m.round (m.decided + 2) r1 r2,
        le-leb m.round (m.t + 2) r3,
      )

-- The silent set of a member in range: no process above n, and not the own one.
pub record Others (m : Member) : Type 0 where
  pub below : m.silent < 2 ^ m.n
  pub not_own : names m.silent (m.id - 1) ≡ false

module _ (m : Member) where
  silent_others_lem : silent_others m ≡ true → Others m
  unfolding silent_others
  silent_others_lem e = record { below = of_others_below m.n (m.id - 1) m.silent e; not_own = of_others_not m.n (m.id - 1) m.silent e }

  others_silent : Others m → silent_others m ≡ true
  unfolding silent_others
  others_silent o = of_others m.n (m.id - 1) m.silent o.below o.not_own

-- In range, whole.
pub record Ranged (limit : ℕ) (m : Member) : Type 0 where
  pub bounds : Limits limit m.n m.t m.id m.estimate
  pub place : Place m
  pub others : Others m
  pub round_low : 1 ≤ m.round
  pub round_high : m.round ≤ m.t + 2
  pub decided_high : m.decided ≤ m.t + 1

module _ (limit : ℕ) (m : Member) where
  pub limits_of : in_limits limit m ≡ true → Limits limit m.n m.t m.id m.estimate
  unfolding in_limits
  limits_of e = open_limits limit m.n m.t m.id m.estimate (eqb-true _ 0 e)

  pub ranged : Limits limit m.n m.t m.id m.estimate → Place m → Others m → Ranged limit m
  ranged l (waiting u a b) o = record { bounds = l; place = waiting u a b; others = o; round_low = a; round_high = omega arith; decided_high = omega arith }
  ranged l (settled a b c d e) o = record { bounds = l; place = settled a b c d e; others = o; round_low = omega arith; round_high = e; decided_high = b }

  pub in_range_ranged : in_range limit m ≡ true → Ranged limit m
  unfolding in_range
  in_range_ranged e =
      let l = and_left (in_limits limit m) _ e in
      let p = and_right (in_limits limit m) _ e in
      ranged (limits_of l) (placed_place m (and_left (placed m) (silent_others m) p)) (silent_others_lem m (and_right (placed m) (silent_others m) p))

  pub ranged_in_range : Ranged limit m → in_range limit m ≡ true
  unfolding in_range in_limits
  ranged_in_range r = rw (limits_open limit m.n m.t m.id m.estimate r.bounds, place_placed m r.place, others_silent m r.others)

  -- what it says is one of the codes
  pub code_low : in_range limit m ≡ true → says m ≤ 4
  unfolding says
  code_low e =
      let value = (in_range_ranged e).bounds.value_high in
      elim (true_or_false (stopped m)) [
        | inl a ↦ rw a (omega arith)
        | inr a ↦ rw a (elim (true_or_false (undecided m)) [ inl b ↦ rw b (omega arith) | inr b ↦ rw b (omega arith) ])
      ]

-- the last test of a member that is not in round t + 2
pub stopped_last : (m : Member) → (m.round ≡ m.t + 2 → ⊥) → (m.decided ≡ 0 → ⊥) → eqb m.round (m.decided + 2) ≡ stopped m
unfolding stopped
stopped_last m r d = rw (ne_eqb m.round (m.t + 2) r, ne_eqb m.decided 0 d)

-- a member that has not stopped
pub record Running (m : Member) : Type 0 where
  pub goes_on : stopped m ≡ false
  pub not_over : m.round ≢ m.t + 2
  pub not_done : m.decided ≢ 0 → m.round ≢ m.decided + 2

pub running : (m : Member) → stopped m ≡ false → Running m
unfolding stopped
running m e =
    let h = or_false (eqb m.round (m.t + 2)) (not (eqb m.decided 0) && eqb m.round (m.decided + 2)) e in
    record {
      goes_on = e;
      not_over = eqb-false m.round (m.t + 2) h.0;
      not_done = λ d. eqb-false m.round (m.decided + 2) (rw (ne_eqb m.decided 0 d) at h.1);
    }
