-- Laws of specs/Numbers.antt.
use Prim.Native.Nat.{ℕ}
use mathlib.Core.Path.{◌≡◌, sym, ◌∙◌}
use mathlib.Core.Bool.{Bool, true, false}
use mathlib.Core.List.{List}
use borrow.Author.Tests.{eqb-true, eq-eqb}
use Rattle.words.proofs.Tests.{both}
use Rattle.picture.specs.declared.Table.{Table}
use Rattle.picture.specs.Records.{number, used}
use Rattle.std.proofs.Common.{Some, None}
use Rattle.picture.specs.Numbers.{position, live, entry_at}

-- what a live number says: its position is in use, and the record there holds it
pub record Live (p : List ℕ) (t : Table) (n : ℕ) : Type 0 where
  pub used : used p t (position n) ≡ true
  pub names : number p t (position n) ≡ n

pub live_is : (p : List ℕ) (t : Table) (n : ℕ) → live p t n ≡ true → Live p t n
unfolding live
live_is p t n h = let b = both _ _ h in record { used = b.0; names = eqb-true _ _ b.1 }

pub is_live : (p : List ℕ) (t : Table) (n : ℕ) → Live p t n → live p t n ≡ true
unfolding live
is_live p t n l = rw (l.used, eq-eqb _ _ l.names)

-- where a number is looked up: u and m are the table and the number as the code has them
module _ (p : List ℕ) (t u : Table) (n m : ℕ) (b : Bool) (looks : u ≡ t) (reads : m ≡ n) (tests : b ≡ live p u m) where
  tested : live p t n ≡ b
  tested = rw (looks, reads) at (sym tests)

  pub entry_live : (k : ℕ) → b ≡ true → k ≡ position m → Some k ≡ entry_at p t n
  unfolding entry_at
  entry_live k h e = rw (tested ∙ h, e, reads)

  pub entry_dead : b ≡ false → None ≡ entry_at p t n
  unfolding entry_at
  entry_dead h = rw (tested ∙ h)
