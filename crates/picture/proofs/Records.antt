-- Laws of specs/Records.antt.
use Prim.Native.Nat.{ℕ, ◌+◌, ◌<◌, ◌≤◌}
use mathlib.Core.Path.{◌≡◌, ap}
use mathlib.Core.Bool.{true, false}
use mathlib.Core.List.{List}
use lib.Dec.{eqb}
use native.Mathlib.Omega.{arith}
use borrow.Author.Tests.{ltb-true, lt-ltb, le-ltb, eqb-true, eq-eqb, ne_eqb}
use Rattle.words.specs.Words.{word, clear}
use Rattle.words.specs.Bits.{bit}
use Rattle.words.proofs.Words.{clear_zero}
use Rattle.words.proofs.Each.{every_at, every_by, every_not, every_same}
use Rattle.words.proofs.Tests.{both}
use Rattle.picture.specs.declared.Table.{Table}
use Rattle.picture.specs.declared.Table.TheVariants.{Jobs, Channels}
use Rattle.picture.specs.Layout.{positions, width, heap_base}
use Rattle.picture.specs.Records.{slot, field, base_field, all_zero, members, used}
use Rattle.picture.specs.Numbers.{tag_weight}

-- a record lies before the heap
pub slot_within : (t : Table) (k : ℕ) → k < positions t → slot t k + width t ≤ heap_base
slot_within Jobs k l = omega arith
slot_within Channels k l = omega arith

-- a record that is all zero, field by field
pub all_zero_at : (p : List ℕ) (t : Table) (k : ℕ) → all_zero p t k ≡ true → (f : ℕ) → f < width t → field p t k f ≡ 0
unfolding all_zero
all_zero_at p t k h f l = eqb-true _ _ (every_at _ (width t) h f l)

pub all_zero_by : (p : List ℕ) (t : Table) (k : ℕ) → ((f : ℕ) → f < width t → field p t k f ≡ 0) → all_zero p t k ≡ true
unfolding all_zero
all_zero_by p t k h = every_by _ (width t) (λ f l. eq-eqb _ _ (h f l))

pub all_zero_not : (p : List ℕ) (t : Table) (k f : ℕ) → f < width t → (field p t k f ≡ 0 → ⊥) → all_zero p t k ≡ false
unfolding all_zero
all_zero_not p t k f l n = every_not _ (width t) f l (ne_eqb _ _ n)

-- clearing a record that is all zero changes nothing
pub all_zero_cleared : (p : List ℕ) (t : Table) (k : ℕ) → all_zero p t k ≡ true → clear (width t) p (slot t k) ≡ p
all_zero_cleared p t k h = clear_zero (width t) p (slot t k) (all_zero_at p t k h)

-- a record is all zero where it was, if the longwords before the heap are what they were
pub all_zero_same : (p q : List ℕ) (t : Table) (k : ℕ) → k < positions t → ((j : ℕ) → j < heap_base → word q j ≡ word p j) → all_zero q t k ≡ all_zero p t k
unfolding all_zero
all_zero_same p q t k l h = every_same _ _ (width t) (λ f m. ap (λ (x : ℕ). eqb x 0) (h (slot t k + f) (omega (arith, slot_within t k l))))

-- either table has a number, an owner and a base
pub shared : (t : Table) (f : ℕ) → f ≤ base_field → f < width t
shared Jobs f l = omega arith
shared Channels f l = omega arith

-- a number has room for every position
pub positions_named : (t : Table) → positions t ≤ tag_weight
positions_named Jobs = omega arith
positions_named Channels = omega arith

-- a position in use is one of the table's, and its bit is set
pub used_below : (p : List ℕ) (t : Table) (k : ℕ) → used p t k ≡ true → k < positions t
unfolding used
used_below p t k h = ltb-true k (positions t) (both _ _ h).0

pub used_is : (p : List ℕ) (t : Table) (k : ℕ) → k < positions t → used p t k ≡ bit (members p t) k
unfolding used
used_is p t k l = rw (lt-ltb k (positions t) l)

pub used_past : (p : List ℕ) (t : Table) (k : ℕ) → positions t ≤ k → used p t k ≡ false
unfolding used
used_past p t k l = rw (le-ltb k (positions t) l)
