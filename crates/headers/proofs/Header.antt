-- The longwords of a picture in which a header was written.
use Prim.Native.Nat.{ℕ, ◌+◌, ◌≤◌, ◌<◌}
use mathlib.Core.Path.{◌≡◌, refl}
use mathlib.Core.Bool.{Bool, true, false, cond}
use mathlib.Core.List.{List}
use mathlib.Core.Logic.{⊎_elim, ◌⊎◌, inl, inr}
use lib.ListN.{length, length-set}
use lib.Seq.{set_out, get_or-set_same, get_or-set_other}
use lib.Dec.{eqb}
use native.Mathlib.Omega.{arith}
use borrow.Author.Tests.{eqb-true, eqb-false}
use Rattle.words.specs.Words.{word, put}
use Rattle.headers.specs.Header.{header, Outside}

pub length_header : (p : List ℕ) (i n k o s : ℕ) → length (header p i n k o s) ≡ length p
unfolding header
length_header p i n k o s = simp length-set

pub length_either : (t : Bool) (p q : List ℕ) (n : ℕ) → length p ≡ n → length q ≡ n → length (cond t p q) ≡ n
length_either true p q n a b = a
length_either false p q n a b = b

pub header_past_the_end : (p : List ℕ) (i n k o s : ℕ) → length p ≤ i → header p i n k o s ≡ p
unfolding header
header_past_the_end p i n k o s h =
    rw (set_out p i n h, set_out p (i + 1) k (omega arith), set_out p (i + 2) o (omega arith), set_out p (i + 3) s (omega arith))

pub header_other : (p : List ℕ) (i n k o s j : ℕ) → Outside i (i + 4) j → word (header p i n k o s) j ≡ word p j
unfolding header
header_other p i n k o s j (inl h) =
    rw (get_or-set_other _ (i + 3) j s 0 (omega arith), get_or-set_other _ (i + 2) j o 0 (omega arith), get_or-set_other _ (i + 1) j k 0 (omega arith), get_or-set_other _ i j n 0 (omega arith))
header_other p i n k o s j (inr h) =
    rw (get_or-set_other _ (i + 3) j s 0 (omega arith), get_or-set_other _ (i + 2) j o 0 (omega arith), get_or-set_other _ (i + 1) j k 0 (omega arith), get_or-set_other _ i j n 0 (omega arith))

module _ (p : List ℕ) (i n k o s : ℕ) (h : i + 4 ≤ length p) where
  pub header_size : word (header p i n k o s) i ≡ n
  unfolding header
  header_size =
      rw (get_or-set_other _ (i + 3) i s 0 (omega arith), get_or-set_other _ (i + 2) i o 0 (omega arith), get_or-set_other _ (i + 1) i k 0 (omega arith), get_or-set_same p i n 0 (omega arith))

  pub header_kind : word (header p i n k o s) (i + 1) ≡ k
  unfolding header
  header_kind =
      rw (get_or-set_other _ (i + 3) (i + 1) s 0 (omega arith), get_or-set_other _ (i + 2) (i + 1) o 0 (omega arith), get_or-set_same (put p i n) (i + 1) k 0 (simp length-set (omega arith)))

  pub header_owner : word (header p i n k o s) (i + 2) ≡ o
  unfolding header
  header_owner =
      rw (get_or-set_other _ (i + 3) (i + 2) s 0 (omega arith), get_or-set_same (put (put p i n) (i + 1) k) (i + 2) o 0 (simp length-set (omega arith)))

  pub header_start : word (header p i n k o s) (i + 3) ≡ s
  unfolding header
  header_start = get_or-set_same (put (put (put p i n) (i + 1) k) (i + 2) o) (i + 3) s 0 (simp length-set (omega arith))

-- two numbers are equal or not
pub same_or_not : (x y : ℕ) → (x ≡ y) ⊎ (x ≡ y → ⊥)
same_or_not x y = go (eqb x y) refl
  where
    go : (b : Bool) → eqb x y ≡ b → (x ≡ y) ⊎ (x ≡ y → ⊥)
    go true h = inl (eqb-true x y h)
    go false h = inr (eqb-false x y h)

-- the longwords of a header that starts with its length and else is 0
pub header_zeros : (p : List ℕ) (i n j : ℕ) → i + 4 ≤ length p → i < j → j < i + 4 → word (header p i n 0 0 0) j ≡ 0
header_zeros p i n j h a b =
    ⊎_elim
    (λ (z : j ≡ i + 1). rw z (header_kind p i n 0 0 0 h))
    (λ (x : j ≡ i + 1 → ⊥). ⊎_elim
    (λ (z : j ≡ i + 2). rw z (header_owner p i n 0 0 0 h))
    (λ (y : j ≡ i + 2 → ⊥). let z : j ≡ i + 3 = omega arith in rw z (header_start p i n 0 0 0 h))
    (same_or_not j (i + 2)))
    (same_or_not j (i + 1))

pub header_all_zeros : (p : List ℕ) (i j : ℕ) → i + 4 ≤ length p → i ≤ j → j < i + 4 → word (header p i 0 0 0 0) j ≡ 0
header_all_zeros p i j h a b =
    ⊎_elim
    (λ (z : j ≡ i). rw z (header_size p i 0 0 0 0 h))
    (λ (x : j ≡ i → ⊥). header_zeros p i 0 j h (omega arith) b)
    (same_or_not j i)
