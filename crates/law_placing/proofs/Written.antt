-- The longwords of a picture in which a block was placed at r.
use Prim.Native.Nat.{ℕ, ◌+◌, ◌-◌, ◌/◌, ◌%◌, ◌≤◌, ◌<◌}
use mathlib.Core.Path.{◌≡◌, refl, ◌∙◌}
use mathlib.Core.Bool.{Bool, true, false, cond}
use mathlib.Core.List.{List}
use mathlib.Core.Logic.{⊎_elim, inl, inr}
use lib.ListN.{length}
use lib.Dec.{ltb}
use native.Mathlib.Omega.{arith}
use borrow.Author.Tests.{lt-ltb, le-ltb}
use Rattle.words.specs.Words.{word}
use Rattle.words.proofs.Words.{length_clear}
use Rattle.words.proofs.Tests.{lt_or_ge}
use Rattle.blocks.specs.Header.{size, kind, holder, start}
use Rattle.headers.specs.Header.{header, Outside}
use Rattle.headers.proofs.Header.{length_header, length_either, header_other, header_size, header_kind, header_owner, header_start}
use Rattle.law_areas.proofs.Clear.{clear_other, clear_zeros}
use Rattle.placing.specs.Place.{split, placed}

-- the block at r has room for n bytes
pub record Room (p : List ℕ) (r n : ℕ) : Type 0 where
  pub whole : size p r % 16 ≡ 0
  pub units : n % 16 ≡ 0
  pub least : 16 ≤ n
  pub enough : n ≤ size p r
  pub inside : r + size p r / 4 ≤ length p

-- q is p with a block of n bytes, kind k, owner o and start address s at the low end of the one at r
pub record Written (p q : List ℕ) (r n k o s : ℕ) : Type 0 where
  pub as_long : length q ≡ length p
  pub other : (j : ℕ) → Outside r (r + size p r / 4) j → word q j ≡ word p j
  pub its_size : size q r ≡ n
  pub its_kind : kind q r ≡ k
  pub its_owner : holder q r ≡ o
  pub its_start : start q r ≡ s
  pub its_room : (j : ℕ) → r + 4 ≤ j → j < r + n / 4 → word q j ≡ 0
  pub rest_size : n < size p r → size q (r + n / 4) ≡ size p r - n
  pub rest_kind : n < size p r → kind q (r + n / 4) ≡ 0
  pub rest_owner : n < size p r → holder q (r + n / 4) ≡ 0
  pub rest_start : n < size p r → start q (r + n / 4) ≡ 0
  pub rest_room : n < size p r → (j : ℕ) → r + n / 4 + 4 ≤ j → word q j ≡ word p j

-- wherever it was placed, the picture is as long as it was, and what stands before it stays
module _ (p : List ℕ) (r n k o s : ℕ) where
  length_split : length (split p r n) ≡ length p
  unfolding split
  length_split = length_either (ltb n (size p r)) _ _ _ (length_header _ _ _ _ _ _) refl

  pub length_placed : length (placed p r n k o s) ≡ length p
  unfolding placed
  length_placed = length_clear (n / 4 - 4) _ (r + 4) ∙ length_header _ _ _ _ _ _ ∙ length_split

  split_before : (j : ℕ) → j < r → word (split p r n) j ≡ word p j
  unfolding split
  split_before j l = go (ltb n (size p r))
    where
      go : (b : Bool) → word (cond b (header p (r + n / 4) (size p r - n) 0 0 0) p) j ≡ word p j
      go true = header_other p (r + n / 4) (size p r - n) 0 0 0 j (inl (omega arith))
      go false = refl

  pub placed_before : (j : ℕ) → j < r → word (placed p r n k o s) j ≡ word p j
  unfolding placed
  placed_before j l =
      clear_other (n / 4 - 4) (header (split p r n) r n k o s) (r + 4) j (inl (omega arith))
      ∙ header_other (split p r n) r n k o s j (inl l)
      ∙ split_before j l

module _ (p : List ℕ) (r n k o s : ℕ) (R : Room p r n) where
  -- where the block and its rest end
  ends : r + 4 ≤ r + n / 4
  ends = let l = R.least in omega arith

  fits_in : r + n / 4 ≤ r + size p r / 4
  fits_in = let l = R.enough in omega arith

  rest_ends : n < size p r → r + n / 4 + 4 ≤ r + size p r / 4
  rest_ends l = let b = R.whole in let w = R.units in omega arith

  split_other : (j : ℕ) → Outside (r + n / 4) (r + size p r / 4) j → word (split p r n) j ≡ word p j
  unfolding split
  split_other j h = ⊎_elim
      (λ (l : n < size p r). rw (lt-ltb n (size p r) l) (header_other p (r + n / 4) (size p r - n) 0 0 0 j (⊎_elim (λ a. inl a) (λ a. inr (omega (arith, rest_ends l))) h)))
      (λ (l : size p r ≤ n). rw (le-ltb n (size p r) l))
      (lt_or_ge n (size p r))

  placed_other : (j : ℕ) → Outside r (r + size p r / 4) j → word (placed p r n k o s) j ≡ word p j
  unfolding placed
  placed_other j h =
      let a = ends in
      let b = fits_in in
      clear_other (n / 4 - 4) (header (split p r n) r n k o s) (r + 4) j (⊎_elim (λ x. inl (omega arith)) (λ x. inr (omega arith)) h)
      ∙ header_other (split p r n) r n k o s j (⊎_elim (λ x. inl x) (λ x. inr (omega arith)) h)
      ∙ split_other j (⊎_elim (λ x. inl (omega arith)) (λ x. inr x) h)

  -- the header
  inside_split : r + 4 ≤ length (split p r n)
  inside_split = let a = ends in let b = fits_in in rw (length_split p r n k o s) (omega (arith, R.inside))

  under : (j : ℕ) → j < r + 4 → word (placed p r n k o s) j ≡ word (header (split p r n) r n k o s) j
  unfolding placed
  under j h = clear_other (n / 4 - 4) (header (split p r n) r n k o s) (r + 4) j (inl h)

  placed_size : size (placed p r n k o s) r ≡ n
  placed_size = under r (omega arith) ∙ header_size (split p r n) r n k o s inside_split

  placed_kind : kind (placed p r n k o s) r ≡ k
  placed_kind = under (r + 1) (omega arith) ∙ header_kind (split p r n) r n k o s inside_split

  placed_owner : holder (placed p r n k o s) r ≡ o
  placed_owner = under (r + 2) (omega arith) ∙ header_owner (split p r n) r n k o s inside_split

  placed_start : start (placed p r n k o s) r ≡ s
  placed_start = under (r + 3) (omega arith) ∙ header_start (split p r n) r n k o s inside_split

  -- the room
  placed_room : (j : ℕ) → r + 4 ≤ j → j < r + n / 4 → word (placed p r n k o s) j ≡ 0
  unfolding placed
  placed_room j a b =
      let x = ends in
      let y = fits_in in
      clear_zeros (n / 4 - 4) (header (split p r n) r n k o s) (r + 4) j (rw (length_header (split p r n) r n k o s, length_split p r n k o s) (omega (arith, R.inside))) a (omega arith)

  -- the rest
  over : n < size p r → (j : ℕ) → r + n / 4 ≤ j → word (placed p r n k o s) j ≡ word (header p (r + n / 4) (size p r - n) 0 0 0) j
  unfolding placed split
  over l j h =
      let a = ends in
      clear_other (n / 4 - 4) (header (split p r n) r n k o s) (r + 4) j (inr (omega arith))
      ∙ header_other (split p r n) r n k o s j (inr (omega arith))
      ∙ rw (lt-ltb n (size p r) l)

  rest_inside : n < size p r → r + n / 4 + 4 ≤ length p
  rest_inside l = omega (arith, rest_ends l, R.inside)

  rest_size : n < size p r → size (placed p r n k o s) (r + n / 4) ≡ size p r - n
  rest_size l = over l (r + n / 4) (omega arith) ∙ header_size p (r + n / 4) (size p r - n) 0 0 0 (rest_inside l)

  rest_kind : n < size p r → kind (placed p r n k o s) (r + n / 4) ≡ 0
  rest_kind l = over l (r + n / 4 + 1) (omega arith) ∙ header_kind p (r + n / 4) (size p r - n) 0 0 0 (rest_inside l)

  rest_owner : n < size p r → holder (placed p r n k o s) (r + n / 4) ≡ 0
  rest_owner l = over l (r + n / 4 + 2) (omega arith) ∙ header_owner p (r + n / 4) (size p r - n) 0 0 0 (rest_inside l)

  rest_start : n < size p r → start (placed p r n k o s) (r + n / 4) ≡ 0
  rest_start l = over l (r + n / 4 + 3) (omega arith) ∙ header_start p (r + n / 4) (size p r - n) 0 0 0 (rest_inside l)

  rest_room : n < size p r → (j : ℕ) → r + n / 4 + 4 ≤ j → word (placed p r n k o s) j ≡ word p j
  rest_room l j h = over l j (omega arith) ∙ header_other p (r + n / 4) (size p r - n) 0 0 0 j (inr h)

  pub placed_is_written : Written p (placed p r n k o s) r n k o s
  placed_is_written = record {
    as_long = length_placed p r n k o s;
    other = placed_other;
    its_size = placed_size;
    its_kind = placed_kind;
    its_owner = placed_owner;
    its_start = placed_start;
    its_room = placed_room;
    rest_size = rest_size;
    rest_kind = rest_kind;
    rest_owner = rest_owner;
    rest_start = rest_start;
    rest_room = rest_room;
  }
