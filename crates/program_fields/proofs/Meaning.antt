-- Laws of a field's meaning, one for each way that the reader goes. Assumes nothing.
use mathlib.Core.Path.{◌≡◌, refl, sym, ap}
use mathlib.Core.Bool.{true, false}
use mathlib.Core.List.{List, map}
use Prim.Native.Nat.{ℕ}
use lib.Seq.{sets}
use Rattle.std.specs.Prelude.{Some, None}
use Rattle.program_digits.specs.Digits.{numbers}
use Rattle.program_digits.proofs.Reader.{length_numbers}
use Rattle.program_fields.specs.Fields.{none, count, spelled_in, Told}

module _ {A : Type 0} (v : ℕ → A) (w n : ℕ) (s : List ℕ) (a : List A) where
  -- no numbers leave the room as it is
  pub told_none : none s ≡ true → Told v (spelled_in w n s) (Some 0) a a
  unfolding spelled_in
  told_none e = rw e (record { counted = refl; stored = refl })

  pub told_nothing : none s ≡ false → count w n s ≡ None → Told v (spelled_in w n s) None a a
  unfolding spelled_in
  told_nothing e f = rw (e, f) (record { counted = refl; stored = refl })

  pub told_numbers : (k : ℕ) (b : List A) → none s ≡ false → count w n s ≡ Some k → b ≡ sets a 0 (map v (numbers s 0 w k)) → Told v (spelled_in w n s) (Some k) a b
  unfolding spelled_in
  told_numbers k b e f x = rw (e, f) (record { counted = ap Some (sym (length_numbers s 0 w k)); stored = x })
