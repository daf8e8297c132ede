-- What good sizes are, and what follows from good and from bad ones.
use Prim.Native.Nat.{ℕ, ◌+◌, ◌%◌, ◌≤◌}
use mathlib.Core.Path.{◌≡◌, ap, ◌∙◌}
use mathlib.Core.Bool.{Bool, true, false, ◌&&◌}
use mathlib.Core.List.{List}
use lib.ListN.{length}
use lib.Dec.{leb, eqb}
use borrow.Author.Tests.{leb-true, eqb-true, eq-eqb, ne_eqb}
use Rattle.words.proofs.Tests.{both, fails_left}
use Rattle.picture.specs.Layout.{least_size, greatest_size, heap_base}
use Rattle.picture.specs.Keys.{done, out_of_range}
use Rattle.sound_whole.specs.Whole.{size_within, heap_within}
use Rattle.fresh.specs.Fresh.{fresh, fresh_good, fresh_key, fresh_picture}

pub record Sizes (l n h : ℕ) : Type 0 where
  pub same : l ≡ n
  pub least : least_size ≤ n
  pub most : n ≤ greatest_size
  pub fours : n % 4 ≡ 0
  pub heap_fours : h % 4 ≡ 0
  pub heap_least : 4 ≤ h
  pub heap_most : heap_base + h + 4 ≤ n

pub sizes : (l n h : ℕ) → fresh_good l n h ≡ true → Sizes l n h
unfolding fresh_good
sizes l n h g =
    let a = both (eqb l n) (size_within n && heap_within n h) g in
    let b = both (size_within n) (heap_within n h) a.1 in
    let c = both (leb least_size n) (leb n greatest_size && eqb (n % 4) 0) b.0 in
    let d = both (leb n greatest_size) (eqb (n % 4) 0) c.1 in
    let e = both (eqb (h % 4) 0) (leb 4 h && leb (heap_base + h + 4) n) b.1 in
    let f = both (leb 4 h) (leb (heap_base + h + 4) n) e.1 in
    record {
      same = eqb-true l n a.0;
      least = leb-true least_size n c.0;
      most = leb-true n greatest_size d.0;
      fours = eqb-true (n % 4) 0 d.1;
      heap_fours = eqb-true (h % 4) 0 e.0;
      heap_least = leb-true 4 h f.0;
      heap_most = leb-true (heap_base + h + 4) n f.1;
    }

module _ (p : List ℕ) (n h : ℕ) where
  pub refused : fresh_good (length p) n h ≡ false → (out_of_range ≡ fresh_key p n h) × (p ≡ fresh_picture p n h)
  unfolding fresh_key fresh_picture
  refused g = (rw g, rw g)

  pub accepted : fresh_good (length p) n h ≡ true → (done ≡ fresh_key p n h) × (fresh n h ≡ fresh_picture p n h)
  unfolding fresh_key fresh_picture
  accepted g = (rw g, rw g)

-- the tests in their order
module _ (l n h : ℕ) where
  pub other_length : (l ≡ n → ⊥) → fresh_good l n h ≡ false
  unfolding fresh_good
  other_length d = rw (ne_eqb l n d)

  pub bad_size : l ≡ n → size_within n ≡ false → fresh_good l n h ≡ false
  unfolding fresh_good
  bad_size e g = rw (eq-eqb l n e) (fails_left (size_within n) (heap_within n h) g)

  pub bad_heap : l ≡ n → size_within n ≡ true → heap_within n h ≡ false → fresh_good l n h ≡ false
  unfolding fresh_good
  bad_heap e g b = rw (eq-eqb l n e) (ap (λ (x : Bool). x && heap_within n h) g ∙ b)

  pub all_good : l ≡ n → size_within n ≡ true → heap_within n h ≡ true → fresh_good l n h ≡ true
  unfolding fresh_good
  all_good e g b = rw (eq-eqb l n e) (ap (λ (x : Bool). x && heap_within n h) g ∙ b)
