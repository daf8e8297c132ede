-- The longest free block: no free block is longer, and it is one of them, or there is none.
use Prim.Native.Nat.{ℕ, ◌≤◌, ◌<◌}
use mathlib.Core.Path.{◌≡◌, refl, sym, ◌∙◌}
use mathlib.Core.Bool.{Bool, true, false, cond, ◌&&◌}
use mathlib.Core.List.{List, [], ◌∷◌}
use mathlib.Core.Logic.{⊎_elim, ◌⊎◌, inl, inr}
use lib.Dec.{ltb}
use native.Mathlib.Omega.{arith}
use borrow.Author.Tests.{ltb-true, ltb-false}
use Rattle.words.specs.Each.{In}
use Rattle.words.proofs.Tests.{false_true}
use Rattle.blocks.specs.Header.{size, free}
use Rattle.blocks.specs.Walk.{starts}
use Rattle.placing.specs.Place.{longer, longest_of, longest}
use Rattle.placing.proofs.Chosen.{NoRoom}

-- one step
record Step (p : List ℕ) (b i r : ℕ) : Type 0 where
  least : b ≤ r
  covers : free p i ≡ true → size p i ≤ r
  is : (r ≡ b) ⊎ ((free p i ≡ true) × (size p i ≡ r))

step : (p : List ℕ) (b i : ℕ) → Step p b i (longer p b i)
unfolding longer
step p b i = go (free p i) (ltb b (size p i)) refl refl
  where
    go : (f t : Bool) → free p i ≡ f → ltb b (size p i) ≡ t → Step p b i (cond (f && t) (size p i) b)
    go true true f t = record { least = let l = ltb-true b (size p i) t in omega arith; covers = λ _. omega arith; is = inr (f, refl) }
    go true false f t = record { least = omega arith; covers = λ _. ltb-false b (size p i) t; is = inl refl }
    go false t f u = record { least = omega arith; covers = λ z. absurd (false_true (sym f ∙ z)); is = inl refl }

record Longest (p : List ℕ) (b : ℕ) (l : List ℕ) (r : ℕ) : Type 0 where
  least : b ≤ r
  covers : (i : ℕ) → In i l → free p i ≡ true → size p i ≤ r
  is : (r ≡ b) ⊎ ((i : ℕ) × (In i l × ((free p i ≡ true) × (size p i ≡ r))))

longest_is : (p : List ℕ) (b : ℕ) (l : List ℕ) → Longest p b l (longest_of p b l)
longest_is p b [] = record { least = omega arith; covers = λ i m f. absurd m; is = inl refl }
longest_is p b (i ∷ l) =
    let s = step p b i in
    let r = longest_is p (longer p b i) l in
    record {
      least = omega (arith, s.least, r.least);
      covers = λ j m f. ⊎_elim (λ (z : j ≡ i). rw z (here s r (rw z at f))) (λ n. r.covers j n f) m;
      is = ⊎_elim
          (λ (z : longest_of p (longer p b i) l ≡ longer p b i). ⊎_elim
          (λ (y : longer p b i ≡ b). inl (z ∙ y))
          (λ w. inr (i, (inl refl, (w.0, w.1 ∙ sym z))))
          s.is)
          (λ w. inr (w.0, (inr w.1.0, w.1.1)))
          r.is;
    }
  where
    here : Step p b i (longer p b i) → Longest p (longer p b i) l (longest_of p (longer p b i) l) → free p i ≡ true → size p i ≤ longest_of p (longer p b i) l
    here s r f = omega (arith, s.covers f, r.least)

module _ (p : List ℕ) (base e : ℕ) where
  pub no_free_block_is_longer : (i : ℕ) → In i (starts p base e) → free p i ≡ true → size p i ≤ longest p base e
  unfolding longest
  no_free_block_is_longer = (longest_is p 0 (starts p base e)).covers

  pub the_longest_is_a_free_block : (longest p base e ≡ 0) ⊎ ((i : ℕ) × (In i (starts p base e) × ((free p i ≡ true) × (size p i ≡ longest p base e))))
  unfolding longest
  the_longest_is_a_free_block = (longest_is p 0 (starts p base e)).is

  -- n bytes are too many exactly where they are more than the longest free block has
  pub no_room_above_the_longest : (n : ℕ) → longest p base e < n → NoRoom p base e n
  no_room_above_the_longest n l i m f = let c = no_free_block_is_longer i m f in omega arith

  pub where_there_is_no_room_the_longest_is_shorter : (n : ℕ) → 0 < n → NoRoom p base e n → longest p base e < n
  where_there_is_no_room_the_longest_is_shorter n l f = ⊎_elim
      (λ (z : longest p base e ≡ 0). omega arith)
      (λ (w : (i : ℕ) × (In i (starts p base e) × ((free p i ≡ true) × (size p i ≡ longest p base e)))). let c = f w.0 w.1.0 w.1.1.0 in omega (arith, w.1.1.1))
      the_longest_is_a_free_block
