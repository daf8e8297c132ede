-- A change to the blocks of an area, and then to the room of a new block: the same change.
use Prim.Native.Nat.{ℕ, ◌+◌, ◌/◌, ◌≤◌, ◌<◌}
use mathlib.Core.Path.{◌≡◌, sym, ap, ◌∙◌, subst}
use mathlib.Core.Bool.{false}
use mathlib.Core.Logic.{⊎_elim, inl, inr}
use mathlib.Core.List.{List}
use native.Mathlib.Omega.{arith}
use Rattle.words.specs.Words.{word}
use Rattle.words.specs.Each.{In}
use Rattle.words.proofs.Tests.{lt_or_ge}
use Rattle.picture.specs.Layout.{from, upto}
use Rattle.picture.specs.declared.Area.{Area}
use Rattle.blocks.specs.Header.{header_width, size, free}
use Rattle.blocks.specs.Walk.{good, next, starts, blocks}
use Rattle.blocks.proofs.Walk.{is_good, next_good}
use Rattle.blocks.proofs.Starts.{starts_in, next_same}
use Rattle.headers.specs.Header.{Outside}
use Rattle.sound_facts.proofs.Same.{within, next_in}
use Rattle.law_blocks.proofs.Moved.{Kept}
use Rattle.law_blocks.proofs.Change.{Change}
use Rattle.law_queues.proofs.Walk.{walk_same, blocks_apart}

module _ (p r q : List ℕ) (a : Area) (New Goes : ℕ → Type 0) (C : Change p r a New Goes) (i : ℕ) (there : In i (starts r (from p a) (upto p a)))
    (unused : In i (blocks p a) → free p i ≡ false → ⊥) (other : (j : ℕ) → Outside (i + header_width) (i + size r i / 4) j → word q j ≡ word r j)
    (begins : (b : Area) → from q b ≡ from p b) (ends : (b : Area) → upto q b ≡ upto p b) where
  inside : i + size r i / 4 ≤ upto p a
  inside = within r i (upto p a) (C.tiled i there) (starts_in r (from p a) (upto p a) i there).1

  -- a block that ends before i, and one that starts after it
  before_it : (j : ℕ) → In j (starts r (from p a) (upto p a)) → j < i → j + size r j / 4 ≤ i
  before_it j m l = let y = blocks_apart r (from p a) (upto p a) j i m there l in let z = next_good r j (upto p a) (C.tiled j m) in omega arith

  after_it : (j : ℕ) → In j (starts r (from p a) (upto p a)) → i < j → i + size r i / 4 ≤ j
  after_it j m l = let y = blocks_apart r (from p a) (upto p a) i j there m l in let z = next_good r i (upto p a) (C.tiled i there) in omega arith

  -- headers stay
  header_same : (j f : ℕ) → In j (starts r (from p a) (upto p a)) → f < header_width → word q (j + f) ≡ word r (j + f)
  header_same j f m l = ⊎_elim
      (λ (x : j < i). let y = before_it j m x in let g = (is_good r j (upto p a) (C.tiled j m)).least in other (j + f) (inl (omega arith)))
      (λ (x : i ≤ j). ⊎_elim (λ (y : i < j). let z = after_it j m y in other (j + f) (inr (omega arith))) (λ (y : j ≤ i). other (j + f) (inl (omega arith))) (lt_or_ge i j))
      (lt_or_ge j i)

  size_same : (j : ℕ) → In j (starts r (from p a) (upto p a)) → word q j ≡ word r j
  size_same j m = ⊎_elim
      (λ (x : j < i). other j (inl (omega arith)))
      (λ (x : i ≤ j). ⊎_elim (λ (y : i < j). let z = after_it j m y in other j (inr (omega arith))) (λ (y : j ≤ i). other j (inl (omega arith))) (lt_or_ge i j))
      (lt_or_ge j i)

  pub room_walk : starts q (from p a) (upto p a) ≡ starts r (from p a) (upto p a)
  room_walk = walk_same r q (from p a) (upto p a) size_same

  back : (j : ℕ) → In j (starts q (from p a) (upto p a)) → In j (starts r (from p a) (upto p a))
  back j m = rw room_walk at m

  good_same : (j : ℕ) → In j (starts r (from p a) (upto p a)) → good q j (upto p a) ≡ good r j (upto p a)
  unfolding good
  good_same j m = rw (size_same j m)

  kept_same : (j : ℕ) → In j (starts r (from p a) (upto p a)) → Kept p r a j → Kept p q a j
  kept_same j m K = record { there = K.there; used = K.used; same = λ w x y. words w x y ∙ K.same w x y }
    where
      words : (w : ℕ) → j ≤ w → w < j + size p j / 4 → word q w ≡ word r w
      words w x y = ⊎_elim
          (λ (l : j < i).
          let z : size r j ≡ size p j = K.same j (omega arith) (omega arith) in
          let v : j + size p j / 4 ≤ i = subst (λ (t : ℕ). j + t / 4 ≤ i) z (before_it j m l) in
          other w (inl (omega arith)))
          (λ (l : i ≤ j). ⊎_elim
          (λ (o : i < j). let z = after_it j m o in other w (inr (omega arith)))
          (λ (o : j ≤ i). let e : j ≡ i = omega arith in absurd (unused (subst (λ (t : ℕ). In t (blocks p a)) e K.there) (ap (free p) (sym e) ∙ K.used)))
          (lt_or_ge i j))
          (lt_or_ge j i)

  pub change_room : Change p q a New Goes
  change_room = record {
    begins = begins;
    ends = ends;
    outside = λ j l h. other j (out j h) ∙ C.outside j l h;
    tiled = λ j m. good_same j (back j m) ∙ C.tiled j (back j m);
    apart = λ j m f l.
        let z : next q j (upto p a) ≡ next r j (upto p a) = next_same r q j (upto p a) (size_same j (back j m)) in
        let y : next r j (upto p a) < upto p a = rw z at l in
        let w = next_in r (from p a) (upto p a) j (back j m) y in
        rw (z, header_same (next r j (upto p a)) 1 w (omega arith)) (C.apart j (back j m) (rw (header_same j 1 (back j m) (omega arith)) at f) y);
    blank = λ j m f. rw (header_same j 2 (back j m) (omega arith), header_same j 3 (back j m) (omega arith)) (C.blank j (back j m) (rw (header_same j 1 (back j m) (omega arith)) at f));
    blocks_used = λ j m f. ⊎_elim (λ K. inl (kept_same j (back j m) K)) inr (C.blocks_used j (back j m) (rw (header_same j 1 (back j m) (omega arith)) at f));
    stays = λ j m f. ⊎_elim inl (λ (K : In j (starts r (from p a) (upto p a)) × Kept p r a j). inr (rw room_walk K.0, kept_same j K.0 K.1)) (C.stays j m f);
  }
    where
      out : (j : ℕ) → Outside (from p a) (upto p a) j → Outside (i + header_width) (i + size r i / 4) j
      out j (inl l) = let b = (starts_in r (from p a) (upto p a) i there).0 in inl (omega arith)
      out j (inr l) = let b = inside in inr (omega arith)
