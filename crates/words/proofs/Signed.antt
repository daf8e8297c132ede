-- Two's complement: signed numbers and the longwords by which they stand. Assumes nothing.
use mathlib.Core.Path.{◌≡◌, refl, ap, sym, ◌∙◌, subst}
use mathlib.Core.Bool.{Bool, true, false, false≢true}
use Prim.Native.Nat.{ℕ, suc, ◌-◌, ◌^◌, ◌<◌, ◌≤◌}
use native.Mathlib.Omega.{arith}
use lib.Dec.{ltb, eqb}
use lib.IntN.{ℤ, pos, negsuc}
use borrow.Author.Tests.{eq-eqb, ne_eqb, eqb-true, eqb-false, ltb-true, ltb-false}
use mathlib.Core.Logic.{◌≢◌}
use mir.Syntax.{w32}
use mir.Val.{sel, SFits}
use Rattle.words.specs.Signed.{signed, bits, eq_z}

-- the test of two signed numbers, both ways
pub eq_z_true : (y z : ℤ) → eq_z y z ≡ true → y ≡ z
eq_z_true (pos a) (pos b) e = ap pos (eqb-true a b e)
eq_z_true (pos a) (negsuc b) e = absurd (false≢true e)
eq_z_true (negsuc a) (pos b) e = absurd (false≢true e)
eq_z_true (negsuc a) (negsuc b) e = ap negsuc (eqb-true a b e)

same : (z : ℤ) → eq_z z z ≡ true
same (pos a) = eq-eqb a a refl
same (negsuc a) = eq-eqb a a refl

pub eq_eq_z : (y z : ℤ) → y ≡ z → eq_z y z ≡ true
eq_eq_z y z e = subst (λ (x : ℤ). eq_z y x ≡ true) e (same y)

pub eq_z_false : (y z : ℤ) → eq_z y z ≡ false → y ≢ z
eq_z_false y z f e = false≢true (sym f ∙ eq_eq_z y z e)

-- `==` of two signed numbers compares the longwords by which they stand
pub eqb_bits : (y z : ℤ) → SFits w32 y → SFits w32 z → eqb (bits y) (bits z) ≡ eq_z y z
eqb_bits (pos a) (pos b) f g = refl
eqb_bits (pos a) (negsuc b) f g =
    let l : a < 2 ^ 31 = f.sfits in
    let m : b < 2 ^ 31 = g.sfits in
    ne_eqb a (2 ^ 32 - suc b) (λ e. omega arith)
eqb_bits (negsuc a) (pos b) f g =
    let l : a < 2 ^ 31 = f.sfits in
    let m : b < 2 ^ 31 = g.sfits in
    ne_eqb (2 ^ 32 - suc a) b (λ e. omega arith)
eqb_bits (negsuc a) (negsuc b) f g = go (eqb a b) refl
  where
    go : (t : Bool) → eqb a b ≡ t → eqb (2 ^ 32 - suc a) (2 ^ 32 - suc b) ≡ t
    go true e = let z = eqb-true a b e in eq-eqb (2 ^ 32 - suc a) (2 ^ 32 - suc b) (omega arith)
    go false e =
        let l : a < 2 ^ 31 = f.sfits in
        let m : b < 2 ^ 31 = g.sfits in
        let n = eqb-false a b e in
        ne_eqb (2 ^ 32 - suc a) (2 ^ 32 - suc b) (λ z. n (omega arith))

pub bits_same : (y z : ℤ) → SFits w32 y → SFits w32 z → bits y ≡ bits z → eq_z y z ≡ true
bits_same y z f g e = sym (eqb_bits y z f g) ∙ eq-eqb (bits y) (bits z) e

pub bits_differ : (y z : ℤ) → SFits w32 y → SFits w32 z → bits y ≢ bits z → eq_z y z ≡ false
bits_differ y z f g n = sym (eqb_bits y z f g) ∙ ne_eqb (bits y) (bits z) n

-- a longword read as signed is one of 32 bits
pub signed_fits : (n : ℕ) → SFits w32 (signed n)
signed_fits n = go (ltb n (2 ^ 31)) refl
  where
    go : (b : Bool) → ltb n (2 ^ 31) ≡ b → SFits w32 (sel b (pos n) (negsuc (2 ^ 32 - suc n)))
    go true e = record { sfits = ltb-true n (2 ^ 31) e }
    go false e = let l : 2 ^ 31 ≤ n = ltb-false n (2 ^ 31) e in record { sfits = omega arith }

-- a longword read as signed is 0 exactly when it is 0
pub signed_zero : (n : ℕ) → eq_z (signed n) (pos 0) ≡ eqb n 0
signed_zero n = go (ltb n (2 ^ 31)) refl
  where
    go : (b : Bool) → ltb n (2 ^ 31) ≡ b → eq_z (sel b (pos n) (negsuc (2 ^ 32 - suc n))) (pos 0) ≡ eqb n 0
    go true e = refl
    go false e = let l : 2 ^ 31 ≤ n = ltb-false n (2 ^ 31) e in sym (ne_eqb n 0 (λ z. omega arith))
