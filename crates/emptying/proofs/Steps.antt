-- The steps of the loops over the positions, and the lengths that they keep.
use Prim.Native.Nat.{ℕ, zero, suc, ◌+◌, ◌-◌}
use mathlib.Core.Path.{◌≡◌, refl, ◌∙◌}
use mathlib.Core.List.{List}
use lib.ListN.{length, length-set}
use native.Mathlib.Numerals.{add-one}
use native.Mathlib.Omega.{arith}
use Rattle.words.specs.Bits.{bit}
use Rattle.words.proofs.Words.{length_clear}
use Rattle.picture.specs.Layout.{positions, width}
use Rattle.picture.specs.Records.{slot, members}
use Rattle.picture.specs.declared.Table.{Table}
use Rattle.picture.proofs.Members.{length_with_members}
use Rattle.masks.specs.Masks.{without}
use Rattle.headers.proofs.Header.{length_either}
use Rattle.emptying.specs.Each.{each}
use Rattle.emptying.specs.Taken.{waits, woken, blanked, emptied}

pub each_more : (s : List ℕ → ℕ → List ℕ) (n : ℕ) (p : List ℕ) → each s (n + 1) p ≡ s (each s n p) n
unfolding each
each_more s n p = rw (add-one n)

pub length_each : (s : List ℕ → ℕ → List ℕ) → ((q : List ℕ) (k : ℕ) → length (s q k) ≡ length q) → (n : ℕ) (p : List ℕ) → length (each s n p) ≡ length p
unfolding each
length_each s h zero p = refl
length_each s h (suc n) p = h (each s n p) n ∙ length_each s h n p

pub length_woken : (m key : ℕ) (p : List ℕ) (k : ℕ) → length (woken m key p k) ≡ length p
unfolding woken
length_woken m key p k = length_either (waits p m k) _ p (length p) (simp length-set) refl

pub length_blanked : (t : Table) (m : ℕ) (p : List ℕ) (k : ℕ) → length (blanked t m p k) ≡ length p
unfolding blanked
length_blanked t m p k = length_either (bit m k) _ p (length p) (length_clear (width t) p (slot t k)) refl

pub length_emptied : (p : List ℕ) (t : Table) (m : ℕ) → length (emptied p t m) ≡ length p
unfolding emptied
length_emptied p t m = length_with_members (each (blanked t m) (positions t) p) t (without (members (each (blanked t m) (positions t) p) t) m) ∙ length_each (blanked t m) (length_blanked t m) (positions t) p

pub back : (i w : ℕ) → i + w - i ≡ w
back i w = omega arith
