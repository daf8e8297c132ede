-- A job's timeout as a signed number, and who is ready.
use Prim.Native.Nat.{ℕ, ◌≤◌}
use mathlib.Core.Path.{◌≡◌, refl, sym, ap, ◌∙◌}
use mathlib.Core.Bool.{Bool, true, false, ◌&&◌}
use mathlib.Core.List.{List}
use native.Mathlib.Omega.{arith}
use lib.Dec.{leb}
use lib.IntN.{ℤ, pos, negsuc}
use lib.Signed.{le_z}
use borrow.Author.Tests.{le-leb, leb-true, eqb-true}
use mir.Syntax.{w32}
use mir.Val.{SFits}
use mir.ValLaws.{to_z_pos, to_z-of_z}
use Rattle.words.specs.Signed.{signed, bits, eq_z}
use Rattle.words.proofs.Signed.{eq_z_true, eq_eq_z, signed_zero}
use Rattle.words.proofs.Tests.{both}
use Rattle.picture.specs.declared.Table.TheVariants.{Jobs}
use Rattle.picture.specs.Layout.{greatest_timeout, without_end}
use Rattle.picture.specs.Records.{field, timeout_field, priority, timeout, ready}

-- a timeout is known by its longword, and is 0 exactly where that is 0
pub timeout_same : (p q : List ℕ) (k : ℕ) → field q Jobs k timeout_field ≡ field p Jobs k timeout_field → timeout q k ≡ timeout p k
timeout_same p q k e = ap signed e

pub timeout_zero : (p : List ℕ) (k : ℕ) → field p Jobs k timeout_field ≡ 0 → timeout p k ≡ pos 0
timeout_zero p k e = ap signed e ∙ to_z_pos w32 0 (omega arith)

pub zero_timeout : (p : List ℕ) (k : ℕ) → timeout p k ≡ pos 0 → field p Jobs k timeout_field ≡ 0
zero_timeout p k e = eqb-true _ _ (sym (signed_zero (field p Jobs k timeout_field)) ∙ eq_eq_z (timeout p k) (pos 0) e)

-- "0 not suspended, -1 without end, else 1 to 32,767 frames left"
abbrev pub Timely : ℤ → Type 0
Timely z = (le_z without_end z ≡ true) × (le_z z (pos greatest_timeout) ≡ true)

pub timely_zero : Timely (pos 0)
timely_zero = (refl, refl)

pub timely_endless : Timely without_end
timely_endless = (refl, refl)

pub timely_fits : (z : ℤ) → Timely z → SFits w32 z
timely_fits (pos n) h = let l : n ≤ greatest_timeout = leb-true n greatest_timeout h.1 in record { sfits = omega arith }
timely_fits (negsuc n) h = let l : n ≤ 0 = leb-true n 0 h.0 in record { sfits = omega arith }

-- a timeout that was stored is read again
pub timeout_stored : (p : List ℕ) (k : ℕ) (z : ℤ) → SFits w32 z → field p Jobs k timeout_field ≡ bits z → timeout p k ≡ z
timeout_stored p k z f e = ap signed e ∙ to_z-of_z w32 z f

-- a ready job is known by its priority and its timeout
pub ready_same : (p q : List ℕ) (k : ℕ) → priority q k ≡ priority p k → timeout q k ≡ timeout p k → ready q k ≡ ready p k
unfolding ready
ready_same p q k g t = rw (g, t)

pub ready_has : (p : List ℕ) (k : ℕ) → ready p k ≡ true → (1 ≤ priority p k) × (timeout p k ≡ pos 0)
unfolding ready
ready_has p k r = let b = both (leb 1 (priority p k)) (eq_z (timeout p k) (pos 0)) r in (leb-true 1 (priority p k) b.0, eq_z_true (timeout p k) (pos 0) b.1)

pub ready_by : (p : List ℕ) (k : ℕ) → 1 ≤ priority p k → timeout p k ≡ pos 0 → ready p k ≡ true
unfolding ready
ready_by p k g t = rw (le-leb 1 (priority p k) g, eq_eq_z (timeout p k) (pos 0) t)

-- a suspended job is not ready
pub ready_not : (p : List ℕ) (k : ℕ) → eq_z (timeout p k) (pos 0) ≡ false → ready p k ≡ false
unfolding ready
ready_not p k e = rw e (and_false (leb 1 (priority p k)))
  where
    and_false : (b : Bool) → b && false ≡ false
    and_false true = refl
    and_false false = refl
