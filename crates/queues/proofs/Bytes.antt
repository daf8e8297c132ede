-- A byte within a longword, read and written: what was written is read, and every other byte stays.
use Prim.Native.Nat.{ℕ, ◌%◌, ◌≤◌, ◌<◌}
use mathlib.Core.Path.{◌≡◌, refl, ◌∙◌}
use mathlib.Core.Logic.{⊎_elim, ◌⊎◌, inl, inr}
use mathlib.Core.List.{List}
use lib.ListN.{length, length-set, get_or, set}
use Rattle.std.specs.Int.{w32, to_be_bytes, from_be_bytes}
use lib.Seq.{get_or-set_same, get_or-set_other}
use native.Mathlib.Omega.{arith}
use Rattle.words.specs.Words.{word, put}
use lib.Dec.{eqb}
use borrow.Author.Tests.{eqb-true, eqb-false}
use mathlib.Core.Bool.{Bool, true, false}
use Rattle.words.proofs.Tests.{lt_or_ge}
use Rattle.queues.specs.Bytes.{weight, byte_in, with_byte_in, byte_word, byte_at, with_byte_at}

-- two numbers are equal or not
same_or_not : (x y : ℕ) → (x ≡ y) ⊎ (x ≡ y → ⊥)
same_or_not x y = go (eqb x y) refl
  where
    go : (b : Bool) → eqb x y ≡ b → (x ≡ y) ⊎ (x ≡ y → ⊥)
    go true h = inl (eqb-true x y h)
    go false h = inr (eqb-false x y h)

-- the four places of a byte in a longword
abbrev pub Quarter : ℕ → ℕ → Type 0
Quarter r v = ((r ≡ 0) × (v ≡ 16777216)) ⊎ (((r ≡ 1) × (v ≡ 65536)) ⊎ (((r ≡ 2) × (v ≡ 256)) ⊎ ((r ≡ 3) × (v ≡ 1))))

four : (r : ℕ) → r < 4 → (r ≡ 0) ⊎ ((r ≡ 1) ⊎ ((r ≡ 2) ⊎ (r ≡ 3)))
four r h = ⊎_elim
    (λ (a : r < 2). ⊎_elim (λ (b : r < 1). inl (omega arith)) (λ (b : 1 ≤ r). inr (inl (omega arith))) (lt_or_ge r 1))
    (λ (a : 2 ≤ r). ⊎_elim (λ (b : r < 3). inr (inr (inl (omega arith)))) (λ (b : 3 ≤ r). inr (inr (inr (omega arith)))) (lt_or_ge r 3))
    (lt_or_ge r 2)

pub quarter : (j : ℕ) → Quarter (j % 4) (weight j)
unfolding weight
quarter j = ⊎_elim
    (λ e. inl (e, rw e))
    (λ y. ⊎_elim (λ e. inr (inl (e, rw e))) (λ z. ⊎_elim (λ e. inr (inr (inl (e, rw e)))) (λ e. inr (inr (inr (e, rw e)))) z) y)
    (four (j % 4) (omega arith))

-- a longword gives the byte that was written into it
same_byte : (w b r v : ℕ) → b < 256 → Quarter r v → byte_in (with_byte_in w v b) v ≡ b
same_byte w b r v l (inl e) = rw e.1 (omega arith)
same_byte w b r v l (inr (inl e)) = rw e.1 (omega arith)
same_byte w b r v l (inr (inr (inl e))) = rw e.1 (omega arith)
same_byte w b r v l (inr (inr (inr e))) = rw e.1 (omega arith)

other_byte : (w b r v s u : ℕ) → b < 256 → (s ≡ r → ⊥) → Quarter r v → Quarter s u → byte_in (with_byte_in w v b) u ≡ byte_in w u
other_byte w b r v s u l n (inl e) (inl f) = absurd (omega (arith, e.0, f.0, n))
other_byte w b r v s u l n (inl e) (inr (inl f)) = rw (e.1, f.1) (omega arith)
other_byte w b r v s u l n (inl e) (inr (inr (inl f))) = rw (e.1, f.1) (omega arith)
other_byte w b r v s u l n (inl e) (inr (inr (inr f))) = rw (e.1, f.1) (omega arith)
other_byte w b r v s u l n (inr (inl e)) (inl f) = rw (e.1, f.1) (omega arith)
other_byte w b r v s u l n (inr (inl e)) (inr (inl f)) = absurd (omega (arith, e.0, f.0, n))
other_byte w b r v s u l n (inr (inl e)) (inr (inr (inl f))) = rw (e.1, f.1) (omega arith)
other_byte w b r v s u l n (inr (inl e)) (inr (inr (inr f))) = rw (e.1, f.1) (omega arith)
other_byte w b r v s u l n (inr (inr (inl e))) (inl f) = rw (e.1, f.1) (omega arith)
other_byte w b r v s u l n (inr (inr (inl e))) (inr (inl f)) = rw (e.1, f.1) (omega arith)
other_byte w b r v s u l n (inr (inr (inl e))) (inr (inr (inl f))) = absurd (omega (arith, e.0, f.0, n))
other_byte w b r v s u l n (inr (inr (inl e))) (inr (inr (inr f))) = rw (e.1, f.1) (omega arith)
other_byte w b r v s u l n (inr (inr (inr e))) (inl f) = rw (e.1, f.1) (omega arith)
other_byte w b r v s u l n (inr (inr (inr e))) (inr (inl f)) = rw (e.1, f.1) (omega arith)
other_byte w b r v s u l n (inr (inr (inr e))) (inr (inr (inl f))) = rw (e.1, f.1) (omega arith)
other_byte w b r v s u l n (inr (inr (inr e))) (inr (inr (inr f))) = absurd (omega (arith, e.0, f.0, n))

-- the byte of a longword in its place, most significant first
be_byte : (w r v : ℕ) → Quarter r v → get_or (to_be_bytes w32 w) r 0 ≡ byte_in w v
be_byte w r v (inl e) = rw (e.0, e.1) refl
be_byte w r v (inr (inl e)) = rw (e.0, e.1) refl
be_byte w r v (inr (inr (inl e))) = rw (e.0, e.1) refl
be_byte w r v (inr (inr (inr e))) = rw (e.0, e.1) (omega arith)

be_set : (w b r v : ℕ) → w < 4294967296 → b < 256 → Quarter r v → from_be_bytes w32 (set (to_be_bytes w32 w) r b) ≡ with_byte_in w v b
be_set w b r v h l (inl e) = rw (e.0, e.1) (omega arith)
be_set w b r v h l (inr (inl e)) = rw (e.0, e.1) (omega arith)
be_set w b r v h l (inr (inr (inl e))) = rw (e.0, e.1) (omega arith)
be_set w b r v h l (inr (inr (inr e))) = rw (e.0, e.1) (omega arith)

module _ (p : List ℕ) (i j w : ℕ) (reads : w ≡ word p (byte_word i j)) where
  pub byte_read : get_or (to_be_bytes w32 w) (j % 4) 0 ≡ byte_at p i j
  unfolding byte_at
  byte_read = be_byte w (j % 4) (weight j) (quarter j) ∙ rw reads

  pub byte_put : (b : ℕ) → w < 4294967296 → b < 256 → put p (byte_word i j) (from_be_bytes w32 (set (to_be_bytes w32 w) (j % 4) b)) ≡ with_byte_at p i j b
  unfolding with_byte_at
  byte_put b h l = rw (be_set w b (j % 4) (weight j) h l (quarter j), reads)

-- a byte that was read is one
pub byte_at_below : (p : List ℕ) (i j : ℕ) → byte_at p i j < 256
unfolding byte_at
byte_at_below p i j = omega arith

-- a byte depends on its longword
pub byte_at_same : (p q : List ℕ) (i j : ℕ) → word q (byte_word i j) ≡ word p (byte_word i j) → byte_at q i j ≡ byte_at p i j
unfolding byte_at
byte_at_same p q i j e = rw e

-- the one law of reading and writing: byte k of the queue after b was written as byte j
module _ (p : List ℕ) (i j b : ℕ) (inside : byte_word i j < length p) (small : b < 256) where
  pub byte_written : byte_at (with_byte_at p i j b) i j ≡ b
  unfolding byte_at with_byte_at
  byte_written = rw (get_or-set_same p (byte_word i j) (with_byte_in (word p (byte_word i j)) (weight j) b) 0 inside) (same_byte (word p (byte_word i j)) b (j % 4) (weight j) small (quarter j))

  pub byte_kept : (k : ℕ) → (k ≡ j → ⊥) → byte_at (with_byte_at p i j b) i k ≡ byte_at p i k
  unfolding byte_at with_byte_at
  byte_kept k n = ⊎_elim
      (λ (e : byte_word i k ≡ byte_word i j).
      rw (e, get_or-set_same p (byte_word i j) (with_byte_in (word p (byte_word i j)) (weight j) b) 0 inside)
      (other_byte (word p (byte_word i j)) b (j % 4) (weight j) (k % 4) (weight k) small (λ z. n (omega arith)) (quarter j) (quarter k)))
      (λ (e : byte_word i k ≡ byte_word i j → ⊥). rw (get_or-set_other p (byte_word i j) (byte_word i k) (with_byte_in (word p (byte_word i j)) (weight j) b) 0 e))
      (same_or_not (byte_word i k) (byte_word i j))

pub length_with_byte_at : (p : List ℕ) (i j b : ℕ) → length (with_byte_at p i j b) ≡ length p
unfolding with_byte_at
length_with_byte_at p i j b = simp length-set

pub with_byte_at_other : (p : List ℕ) (i j b k : ℕ) → (k ≡ byte_word i j → ⊥) → word (with_byte_at p i j b) k ≡ word p k
unfolding with_byte_at
with_byte_at_other p i j b k n = get_or-set_other p (byte_word i j) k _ 0 n
