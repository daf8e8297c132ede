-- Laws of specs/Timeout.antt: what each case stands for.
use mathlib.Core.Path.{◌≡◌, refl, sym, ap}
use mathlib.Core.Bool.{Bool, true, false, ◌&&◌, cond, false≢true}
use mathlib.Core.Logic.{◌≢◌, ◌⊎◌, inl, inr}
use lib.IntN.{ℤ, pos, negsuc}
use lib.Signed.{non_neg, le_z}
use Rattle.std.proofs.Common.{Some, None}
use Rattle.words.specs.Signed.{eq_z}
use Rattle.words.proofs.Signed.{eq_z_true, eq_z_false}
use Rattle.words.proofs.Tests.{both}
use Rattle.picture.specs.Layout.{greatest_timeout, without_end}
use Rattle.picture.proofs.Timeout.{Timely, timely_zero, timely_endless}
use Rattle.timeouts.specs.Timeout.{timeout_of, value}
use Rattle.timeouts.specs.declared.Timeout.TheVariants.{Zero, Frames, Endless}

-- what a record gets is 0 to 32,767, or -1
pub value_timely : (z : ℤ) → Timely (value (timeout_of z))
unfolding timeout_of
value_timely z = go (eq_z z (pos 0)) (eq_z z without_end) (le_z (pos 1) z && le_z z (pos greatest_timeout)) refl
  where
    above : (y : ℤ) → le_z (pos 1) y ≡ true → le_z without_end y ≡ true
    above (pos n) e = refl
    above (negsuc n) e = absurd (false≢true e)

    go : (a b c : Bool) → le_z (pos 1) z && le_z z (pos greatest_timeout) ≡ c → Timely (value (cond a (Some Zero) (cond b (Some Endless) (cond c (Some (Frames z)) None))))
    go true b c e = timely_zero
    go false true c e = timely_endless
    go false false true e = let h = both (le_z (pos 1) z) (le_z z (pos greatest_timeout)) e in (above z h.0, h.1)
    go false false false e = timely_zero

-- what a record gets is the signed half itself
pub value_half : (z : ℤ) → timeout_of z ≢ None → value (timeout_of z) ≡ z
unfolding timeout_of
value_half z = go (eq_z z (pos 0)) refl (eq_z z without_end) refl (le_z (pos 1) z && le_z z (pos greatest_timeout))
  where
    go : (a : Bool) → eq_z z (pos 0) ≡ a → (b : Bool) → eq_z z without_end ≡ b → (c : Bool) → cond a (Some Zero) (cond b (Some Endless) (cond c (Some (Frames z)) None)) ≢ None → value (cond a (Some Zero) (cond b (Some Endless) (cond c (Some (Frames z)) None))) ≡ z
    go true e b f c n = sym (eq_z_true z (pos 0) e)
    go false e true f c n = sym (eq_z_true z without_end f)
    go false e false f true n = refl
    go false e false f false n = absurd (n refl)

-- only 0, and a half that is no timeout, give a record 0
pub value_zero : (z : ℤ) → value (timeout_of z) ≡ pos 0 → (timeout_of z ≡ Some Zero) ⊎ (timeout_of z ≡ None)
unfolding timeout_of
value_zero z = go (eq_z z (pos 0)) refl (eq_z z without_end) (le_z (pos 1) z && le_z z (pos greatest_timeout))
  where
    go : (a : Bool) → eq_z z (pos 0) ≡ a → (b c : Bool) → value (cond a (Some Zero) (cond b (Some Endless) (cond c (Some (Frames z)) None))) ≡ pos 0
        → (cond a (Some Zero) (cond b (Some Endless) (cond c (Some (Frames z)) None)) ≡ Some Zero) ⊎ (cond a (Some Zero) (cond b (Some Endless) (cond c (Some (Frames z)) None)) ≡ None)
    go true e b c v = inl refl
    go false e true c v = absurd (false≢true (ap non_neg v))
    go false e false true v = absurd (eq_z_false z (pos 0) e v)
    go false e false false v = inr refl
