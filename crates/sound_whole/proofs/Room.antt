-- A picture that is fine as a whole has its tables, and both areas lie within.
use Prim.Native.Nat.{ℕ, ◌+◌, ◌%◌, ◌≤◌}
use mathlib.Core.Path.{◌≡◌}
use mathlib.Core.Bool.{true}
use mathlib.Core.List.{List}
use native.Mathlib.Omega.{arith}
use lib.Dec.{leb, eqb}
use lib.ListN.{length}
use borrow.Author.Tests.{eqb-true, leb-true}
use Rattle.words.specs.Words.{word}
use Rattle.words.proofs.Tests.{both}
use Rattle.picture.specs.Layout.{upto, least_size, heap_base, heap_word, size_word}
use Rattle.picture.specs.declared.Area.{Area}
use Rattle.picture.specs.declared.Area.TheVariants.{Heap, Transient}
use Rattle.sound_whole.specs.Whole.{size_stated, heap_stated, whole_fine}
use Rattle.sound_whole.proofs.Whole.{whole_is}

pub size_known : (p : List ℕ) → size_stated p ≡ true → (word p size_word ≡ length p) × (least_size ≤ length p)
unfolding size_stated
size_known p h =
    let a = both (eqb (word p size_word) (length p)) _ h in
    (eqb-true _ _ a.0, leb-true least_size (length p) (both (leb least_size (length p)) _ a.1).0)

heap_known : (p : List ℕ) → heap_stated p ≡ true → heap_base + word p heap_word + 4 ≤ word p size_word
unfolding heap_stated
heap_known p h =
    let a = both (eqb (word p heap_word % 4) 0) _ h in
    leb-true (heap_base + word p heap_word + 4) (word p size_word) (both (leb 4 (word p heap_word)) _ a.1).1

module _ (p : List ℕ) (h : whole_fine p ≡ true) where
  size_is : (word p size_word ≡ length p) × (least_size ≤ length p)
  size_is = size_known p (whole_is p h).size

  heap_is : heap_base + word p heap_word + 4 ≤ word p size_word
  heap_is = heap_known p (whole_is p h).heap

  pub tables_within : heap_base ≤ length p
  tables_within = let s = size_is.1 in omega arith

  pub area_within : (a : Area) → upto p a ≤ length p
  area_within Heap = let s = size_is.0 in let w = heap_is in omega arith
  area_within Transient = let s = size_is.0 in omega arith
