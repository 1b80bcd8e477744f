-- What a test that came out true or false says. Assumes nothing.
use mathlib.Core.Path.{◌≡◌, refl, sym, ◌∙◌}
use mathlib.Core.Logic.{◌⊎◌, inl, inr}
use mathlib.Core.Bool.{Bool, true, false, cond, ◌&&◌, ◌||◌, true≢false, false≢true}
use Prim.Native.Nat.{ℕ, ◌≤◌, ◌<◌}
use borrow.Author.Tests.{leb-true, le-leb, lt-leb}
use lib.Dec.{leb}
use Rattle.laws.specs.Test.{within}

pub true_or_false : (b : Bool) → (b ≡ true) ⊎ (b ≡ false)
true_or_false true = inl refl
true_or_false false = inr refl

pub and_left : (a b : Bool) → a && b ≡ true → a ≡ true
and_left true b e = refl
and_left false b e = e

pub and_right : (a b : Bool) → a && b ≡ true → b ≡ true
and_right true b e = e
and_right false b e = absurd (false≢true e)

-- What `a && b` and `a || b` come to in code, which asks b only if a does not settle it.
pub and_goes_on : (a b : Bool) → a ≡ true → b ≡ a && b
and_goes_on a b e = rw e

pub and_ends : (a b : Bool) → a ≡ false → a ≡ a && b
and_ends a b e = rw e

pub or_goes_on : (a b : Bool) → a ≡ false → b ≡ a || b
or_goes_on a b e = rw e

pub or_ends : (a b : Bool) → a ≡ true → a ≡ a || b
or_ends a b e = rw e

pub and_false : (a b : Bool) → a && b ≡ false → a ≡ true → b ≡ false
and_false true b e h = e
and_false false b e h = absurd (false≢true h)

pub or_true : (a b : Bool) → a || b ≡ true → (a ≡ true) ⊎ (b ≡ true)
or_true true b e = inl refl
or_true false b e = inr e

pub or_false : (a b : Bool) → a || b ≡ false → (a ≡ false) × (b ≡ false)
or_false true b e = absurd (true≢false e)
or_false false b e = (refl, e)

-- What makes a test come out true or false.
pub and_both : (a b : Bool) → a ≡ true → b ≡ true → a && b ≡ true
and_both a b p q = rw (p, q)

pub and_no_left : (a b : Bool) → a ≡ false → a && b ≡ false
and_no_left a b e = rw e

pub and_no_right : (a b : Bool) → b ≡ false → a && b ≡ false
and_no_right true b e = e
and_no_right false b e = refl

pub or_left : (a b : Bool) → a ≡ true → a || b ≡ true
or_left a b e = rw e

pub or_right : (a b : Bool) → b ≡ true → a || b ≡ true
or_right true b e = refl
or_right false b e = e

pub or_neither : (a b : Bool) → a ≡ false → b ≡ false → a || b ≡ false
or_neither a b p q = rw (p, q)

module _ {A : Type 0} where
  pub cond_true : (b : Bool) (x y : A) → b ≡ true → cond b x y ≡ x
  cond_true b x y e = rw e

  pub cond_false : (b : Bool) (x y : A) → b ≡ false → cond b x y ≡ y
  cond_false b x y e = rw e

-- a callee's flag q, which is the test b, taken the other way round by `!`
pub was_false : {q b : Bool} → q ≡ b → q ≡ false → b ≡ false
was_false e h = sym e ∙ h

pub was_true : {q b : Bool} → q ≡ b → q ≡ true → b ≡ true
was_true e h = sym e ∙ h

module _ (lo x hi : ℕ) where
  pub within_low : within lo x hi ≡ true → lo ≤ x
  unfolding within
  within_low e = leb-true lo x (and_left (leb lo x) (leb x hi) e)

  pub within_high : within lo x hi ≡ true → x ≤ hi
  unfolding within
  within_high e = leb-true x hi (and_right (leb lo x) (leb x hi) e)

  pub within_is : lo ≤ x → x ≤ hi → within lo x hi ≡ true
  unfolding within
  within_is a b = rw (le-leb lo x a, le-leb x hi b)

  pub within_not_low : x < lo → within lo x hi ≡ false
  unfolding within
  within_not_low a = rw (lt-leb lo x a)

  pub within_not_high : hi < x → within lo x hi ≡ false
  unfolding within
  within_not_high a = and_no_right (leb lo x) (leb x hi) (lt-leb x hi a)
