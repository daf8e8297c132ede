-- Tests that are true or false, taken apart, and two cases of numbers.
use Prim.Native.Nat.{ℕ, ◌≤◌, ◌<◌}
use mathlib.Core.Path.{◌≡◌, refl, sym, subst, ◌∙◌}
use mathlib.Core.Bool.{Bool, true, false, ◌&&◌, ◌||◌, not}
use mathlib.Core.Logic.{◌⊎◌, inl, inr}
use lib.Dec.{T, ltb, eqb}
use borrow.Author.Tests.{ltb-true, ltb-false, not-true, not-false}

pub lt_or_ge : (a b : ℕ) → (a < b) ⊎ (b ≤ a)
lt_or_ge a b = go (ltb a b) refl
  where
    go : (t : Bool) → ltb a b ≡ t → (a < b) ⊎ (b ≤ a)
    go true h = inl (ltb-true a b h)
    go false h = inr (ltb-false a b h)

pub false_true : false ≡ true → ⊥
false_true h = subst T (sym h) tt

-- a test that cannot pass
pub otherwise : (b : Bool) → (b ≡ true → ⊥) → b ≡ false
otherwise true n = absurd (n refl)
otherwise false n = refl

-- both halves of an `and`
pub both : (a b : Bool) → a && b ≡ true → (a ≡ true) × (b ≡ true)
both true b h = (refl, h)
both false b h = absurd (false_true h)

pub both_left : (a b : Bool) → a && b ≡ true → a ≡ true
both_left a b h = (both a b h).0

pub both_right : (a b : Bool) → a && b ≡ true → b ≡ true
both_right a b h = (both a b h).1

-- by these a search takes any `and` apart, however many tests it has and in whatever order
pub ruleset parts = (both_left, both_right)

-- and by this it puts one together
pub both_true : (a b : Bool) → a ≡ true → b ≡ true → a && b ≡ true
both_true a b h g = rw (h, g)

-- one half of an `or`
pub either : (a b : Bool) → a || b ≡ true → (a ≡ true) ⊎ (b ≡ true)
either true b h = inl refl
either false b h = inr h

-- the second half of an `or` whose first fails
pub failing : (a b : Bool) → a || b ≡ true → a ≡ false → b ≡ true
failing true b h e = absurd (false_true (sym e))
failing false b h e = h

-- `not a or b`, and a
pub unless : (a b : Bool) → not a || b ≡ true → a ≡ true → b ≡ true
unless true b h e = h
unless false b h e = absurd (false_true e)

-- two tests that pass together are equal
pub same_test : (a b : Bool) → (a ≡ true → b ≡ true) → (b ≡ true → a ≡ true) → a ≡ b
same_test true b f g = sym (f refl)
same_test false true f g = g refl
same_test false false f g = refl

-- an `and` with a failing half
pub fails_left : (a b : Bool) → a ≡ false → a && b ≡ false
fails_left a b h = rw h

pub fails_right : (a b : Bool) → b ≡ false → a && b ≡ false
fails_right true b h = h
fails_right false b h = refl

-- the tests of an `and`, one by one the same
pub and_same : (a b x y : Bool) → a ≡ x → b ≡ y → a && b ≡ x && y
and_same a b x y h g = rw (h, g)

pub eqb_same : (a b n : ℕ) → a ≡ b → eqb a n ≡ eqb b n
eqb_same a b n h = rw h

pub ruleset same_tests = (and_same, eqb_same)

-- a chain of tests in the code, each of which leaves with false where it fails, is an `and`: the code's x is the test a
pub fails_here : (x a b : Bool) → x ≡ a → not x ≡ true → false ≡ a && b
fails_here x a b e h = rw (sym e ∙ not-true x h)

pub fails_behind : (a b : Bool) → false ≡ b → false ≡ a && b
fails_behind true b h = h
fails_behind false b h = refl

pub ruleset fails = (fails_here, fails_behind)

pub passes_here : (x a b r : Bool) → x ≡ a → not x ≡ false → r ≡ b → r ≡ a && b
passes_here x a b r e h g = rw (sym e ∙ not-false x h) g
