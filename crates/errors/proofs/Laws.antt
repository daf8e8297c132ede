-- Laws of the strings of a text.
use mathlib.Core.Path.{◌≡◌, refl, sym, subst, ◌∙◌}
use mathlib.Core.Logic.{⊎_elim}
use mathlib.Core.Bool.{Bool, true, false, cond}
use native.Mathlib.Nat.{eq-or-lt_of_le, le_of_suc-le-suc}
use mathlib.Core.List.{List}
use Prim.Native.Nat.{ℕ, zero, suc, ◌+◌, ◌<◌, ◌≤◌}
use native.Mathlib.Omega.{arith}
use borrow.Author.Tests.{leb-true}
use lib.Dec.{ltb}
use lib.IntN.{ℤ, pos, negsuc}
use lib.ListN.{length}
use Rattle.std.specs.Prelude.{Option, Some, None, option_map, option_and_then}
use Rattle.errors.specs.declared.Part.{Part}
use Rattle.errors.specs.declared.Spot.{Spot}
use Rattle.errors.specs.declared.Spot.TheVariants.{System, Driver}
use Rattle.errors.specs.Text.{length_word, whole_at, string_at, nth_at, spot_of}

-- no string stands behind one that is cut
pub nth_cut : (s : List ℕ) (i n at : ℕ) → i < n → nth_at s i ≡ Some at → string_at s at ≡ None → nth_at s n ≡ None
nth_cut s i zero at l e f = absurd (omega arith)
nth_cut s i (suc n) at l e f = ⊎_elim (λ (z : i ≡ n). rw (← z, e, f)) (λ m. rw (nth_cut s i n at m e f)) (eq-or-lt_of_le (le_of_suc-le-suc l))

-- a string that stands in a text lies whole in it
pub inside : (s : List ℕ) (at : ℕ) (part : Part) → string_at s at ≡ Some part → part.start + part.count ≤ length s
inside s at part e = go (whole_at s at) refl e
  where
    go : (t : Bool) → whole_at s at ≡ t → cond t (Some (record { start = at + 2; count = length_word s at })) None ≡ Some part → part.start + part.count ≤ length s
    go true w e =
        let f : at + 2 ≡ part.start = cc in
        let g : length_word s at ≡ part.count = cc in
        omega (arith, leb-true (at + 2 + length_word s at) (length s) w)
    go false w e = let z : ◌≡◌ {A = ℕ} 0 1 = cc in omega arith

-- a spot lies within its text
pub Within : Option Spot → List ℕ → List ℕ → Type 0
Within (Some (System part)) s d = part.start + part.count ≤ length s
Within (Some (Driver part)) s d = part.start + part.count ≤ length d
Within None s d = Unit {0}

pub spot_within : (z : ℤ) (s d : List ℕ) → Within (spot_of z s d) s d
unfolding Within
spot_within (pos zero) s d = tt
spot_within (pos (suc k)) s d = go (string_at d (suc k)) refl
  where
    go : (p : Option Part) → string_at d (suc k) ≡ p → Within (option_map Driver p) s d
    go (Some part) e = inside d (suc k) part e
    go None e = tt
spot_within (negsuc m) s d = go (ltb m 21) (nth_at s m)
  where
    stands : (p : Option Part) (at : ℕ) → string_at s at ≡ p → Within (option_map System p) s d
    stands (Some part) at e = inside s at part e
    stands None at e = tt

    go : (t : Bool) (n : Option ℕ) → Within (cond t (option_map System (option_and_then (string_at s) n)) None) s d
    go true (Some at) = stands (string_at s at) at refl
    go true None = tt
    go false n = tt

pub system_within : (z : ℤ) (s d : List ℕ) (r : Option Spot) (part : Part) → r ≡ spot_of z s d → r ≡ Some (System part) → part.start + part.count ≤ length s
unfolding Within
system_within z s d r part e f = subst (λ (x : Option Spot). Within x s d) (sym e ∙ f) (spot_within z s d)

pub driver_within : (z : ℤ) (s d : List ℕ) (r : Option Spot) (part : Part) → r ≡ spot_of z s d → r ≡ Some (Driver part) → part.start + part.count ≤ length d
unfolding Within
driver_within z s d r part e f = subst (λ (x : Option Spot). Within x s d) (sym e ∙ f) (spot_within z s d)
