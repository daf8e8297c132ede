-- A block of n bytes placed in an area that blocks tile: what the area's blocks are then.
use Prim.Native.Nat.{ℕ, ◌+◌, ◌-◌, ◌/◌, ◌%◌, ◌≤◌, ◌<◌}
use mathlib.Core.Path.{◌≡◌, refl, sym, ap, ◌∙◌}
use mathlib.Core.Bool.{Bool, true, false, cond}
use mathlib.Core.List.{List, [], ◌∷◌, ◌++◌}
use mathlib.Core.Logic.{⊎_elim, ◌⊎◌, inl, inr}
use lib.ListN.{length}
use lib.Dec.{eqb, ltb}
use native.Mathlib.Omega.{arith}
use borrow.Author.Tests.{eq-eqb, ne_eqb, lt-ltb, le-ltb, ltb-true}
use Rattle.words.specs.Words.{word}
use Rattle.words.specs.Each.{In, total}
use Rattle.words.proofs.Tests.{lt_or_ge, false_true}
use Rattle.words.proofs.Each.{total_same}
use Rattle.blocks.specs.Header.{size, kind, free, holder, start}
use Rattle.blocks.specs.Walk.{good, next, starts}
use Rattle.blocks.proofs.Walk.{good_is, is_good, next_good, next_up, starts_more}
use Rattle.blocks.proofs.Starts.{starts_in, starts_same, next_same}
use Rattle.law_areas.specs.Area.{Tiled, Apart, Blank, bytes, free_size, free_bytes}
use Rattle.law_areas.proofs.Row.{in_first, in_second, in_either, total_parts, Block, block_of, blocks_fill_the_area, free_and_used, Parted, parted_at}
use Rattle.placing.specs.Place.{placed}
use Rattle.placing.proofs.Chosen.{Chosen}
use Rattle.law_placing.specs.Placed.{Placed}
use Rattle.law_placing.proofs.Written.{Room, Written, placed_is_written}

-- the walk of p around the block at i, which is taken
module _ (p : List ℕ) (base e i n : ℕ) (T : Tiled p base e) (C : Chosen p base e n i) (units : n % 16 ≡ 0) (least : 16 ≤ n) where
  taken : Block p base e i
  taken = block_of p base e T i C.there

  cut_at : Parted p base e i
  cut_at = parted_at p base e i C.there

  -- a block below it ends below it
  below_it : (j : ℕ) → In j cut_at.lower → In j (starts p base e)
  below_it j m = rw (cut_at.parts p (λ w l. refl)) (in_first cut_at.lower (starts p i e) j m)

  ends_below : (j : ℕ) → In j cut_at.lower → j + size p j / 4 ≤ i
  ends_below j m =
      let a = (block_of p base e T j (below_it j m)).after in
      ⊎_elim
      (λ (z : next p j e ≡ i). omega arith)
      (λ y. let b = cut_at.below (next p j e) y in omega arith)
      (cut_at.onward j m)

  walk_before : starts p base e ≡ cut_at.lower ++ (i ∷ starts p (i + size p i / 4) e)
  walk_before =
      let a = (starts_in p base e i C.there).1 in
      cut_at.parts p (λ j l. refl) ∙ ap (λ (t : List ℕ). cut_at.lower ++ t) (starts_more p i e a ∙ rw taken.after)

  room_there : e ≤ length p → Room p i n
  room_there inside = let h = taken.high in record { whole = taken.whole; units = units; least = least; enough = C.enough; inside = omega arith }

-- a block of the rest, if there is one
abbrev rest_of : List ℕ → ℕ → ℕ → List ℕ
rest_of p i n = cond (ltb n (size p i)) ((i + n / 4) ∷ []) []

module _ (p q : List ℕ) (base e i n k o s : ℕ) (T : Tiled p base e) (C : Chosen p base e n i) (units : n % 16 ≡ 0) (least : 16 ≤ n) (used : k ≡ 0 → ⊥) (W : Written p q i n k o s) where
  new_good : good q i e ≡ true
  new_good =
      let h = (taken p base e i n T C units least).high in
      let w = C.enough in
      good_is q i e (record { whole = rw W.its_size units; least = rw W.its_size least; within = rw W.its_size (omega arith) })

  new_next : next q i e ≡ i + n / 4
  new_next = next_good q i e new_good ∙ rw W.its_size

  rest_good : n < size p i → good q (i + n / 4) e ≡ true
  rest_good l =
      let z = W.rest_size l in
      let b = taken p base e i n T C units least in
      let h = b.high in
      let w = b.whole in
      good_is q (i + n / 4) e (record { whole = rw z (omega arith); least = rw z (omega arith); within = rw z (omega arith) })

  rest_next : n < size p i → next q (i + n / 4) e ≡ i + size p i / 4
  rest_next l =
      let w = (taken p base e i n T C units least).whole in
      let z : i + n / 4 + (size p i - n) / 4 ≡ i + size p i / 4 = omega arith in
      next_good q (i + n / 4) e (rest_good l) ∙ rw (W.rest_size l) z

  -- the walk from the new block on
  walk_above : starts q (i + size p i / 4) e ≡ starts p (i + size p i / 4) e
  walk_above = starts_same p q (i + size p i / 4) e (λ j h. W.other j (inr h))

  walk_on : starts q i e ≡ i ∷ (rest_of p i n ++ starts p (i + size p i / 4) e)
  walk_on =
      let a = (starts_in p base e i C.there).1 in
      let b = taken p base e i n T C units least in
      let h = b.high in
      let w = b.whole in
      starts_more q i e a
      ∙ ap (λ (t : List ℕ). i ∷ t) (rw new_next (⊎_elim
      (λ (l : n < size p i). rw (lt-ltb n (size p i) l) (starts_more q (i + n / 4) e (omega arith) ∙ ap (λ (t : List ℕ). (i + n / 4) ∷ t) (rw (rest_next l) walk_above)))
      (λ (l : size p i ≤ n). let c = C.enough in let z : n ≡ size p i = omega arith in rw (le-ltb n (size p i) l, z) walk_above)
      (lt_or_ge n (size p i))))

  walk_after : starts q base e ≡ (cut_at p base e i n T C units least).lower ++ (i ∷ (rest_of p i n ++ starts p (i + size p i / 4) e))
  walk_after =
      let P = cut_at p base e i n T C units least in
      P.parts q (λ j l. W.other j (inl l)) ∙ ap (λ (t : List ℕ). P.lower ++ t) walk_on

  -- the blocks below the new one, and those above the one that was taken
  abbrev low : List ℕ
  low = (cut_at p base e i n T C units least).lower

  abbrev high : List ℕ
  high = starts p (i + size p i / 4) e

  low_ends : (j : ℕ) → In j low → j + size p j / 4 ≤ i
  low_ends = ends_below p base e i n T C units least

  high_starts : (j : ℕ) → In j high → i + size p i / 4 ≤ j
  high_starts j m = (starts_in p (i + size p i / 4) e j m).0

  low_before : (j : ℕ) → In j low → In j (starts p base e)
  low_before = below_it p base e i n T C units least

  high_before : (j : ℕ) → In j high → In j (starts p base e)
  high_before j m = rw (walk_before p base e i n T C units least) (in_second low (i ∷ high) j (inr m))

  rest_end : i + 4 ≤ i + size p i / 4
  rest_end = let b = (taken p base e i n T C units least).least in omega arith

  before : (j : ℕ) → In j (starts p base e) → In j low ⊎ ((j ≡ i) ⊎ In j high)
  before j m = in_either low (i ∷ high) j (rw (walk_before p base e i n T C units least) at m)

  in_rest : (b : Bool) → ltb n (size p i) ≡ b → (j : ℕ) → In j (cond b ((i + n / 4) ∷ []) []) → (n < size p i) × (j ≡ i + n / 4)
  in_rest true z j (inl h) = (ltb-true n (size p i) z, h)
  in_rest true z j (inr h) = absurd h
  in_rest false z j h = absurd h

  after : (j : ℕ) → In j (starts q base e) → In j low ⊎ ((j ≡ i) ⊎ (((n < size p i) × (j ≡ i + n / 4)) ⊎ In j high))
  after j m = ⊎_elim
      inl
      (λ y. inr (⊎_elim inl (λ x. inr (⊎_elim (λ v. inl (in_rest (ltb n (size p i)) refl j v)) inr (in_either (rest_of p i n) high j x))) y))
      (in_either low (i ∷ (rest_of p i n ++ high)) j (rw walk_after at m))

  low_after : (j : ℕ) → In j low → In j (starts q base e)
  low_after j m = rw walk_after (in_first low (i ∷ (rest_of p i n ++ high)) j m)

  high_after : (j : ℕ) → In j high → In j (starts q base e)
  high_after j m = rw walk_after (in_second low (i ∷ (rest_of p i n ++ high)) j (inr (in_second (rest_of p i n) high j m)))

  -- every other block has its longwords
  low_same : (j : ℕ) → In j low → (w : ℕ) → w < j + size p j / 4 → word q w ≡ word p w
  low_same j m w l = let a = low_ends j m in W.other w (inl (omega arith))

  high_same : (j : ℕ) → In j high → (w : ℕ) → j ≤ w → word q w ≡ word p w
  high_same j m w l = let a = high_starts j m in W.other w (inr (omega arith))

  kept : (j : ℕ) → In j (starts p base e) → (j ≡ i → ⊥) → (w : ℕ) → j ≤ w → w < j + size p j / 4 → word q w ≡ word p w
  kept j m d w a b = ⊎_elim
      (λ y. low_same j y w b)
      (λ y. ⊎_elim (λ (z : j ≡ i). absurd (d z)) (λ x. high_same j x w a) y)
      (before j m)

  low_other : (j : ℕ) → In j low → j ≡ i → ⊥
  low_other j m z = let a = low_ends j m in let b = (block_of p base e T j (low_before j m)).least in omega arith

  high_other : (j : ℕ) → In j high → j ≡ i → ⊥
  high_other j m z = let a = high_starts j m in let b = rest_end in omega arith

  kept_header : (j : ℕ) → In j (starts p base e) → (j ≡ i → ⊥) → (d : ℕ) → d < 4 → word q (j + d) ≡ word p (j + d)
  kept_header j m x d l = let b = (block_of p base e T j m).least in kept j m x (j + d) (omega arith) (omega arith)

  kept_size : (j : ℕ) → In j (starts p base e) → (j ≡ i → ⊥) → size q j ≡ size p j
  kept_size j m x = let b = (block_of p base e T j m).least in kept j m x j (omega arith) (omega arith)

  kept_free : (j : ℕ) → In j (starts p base e) → (j ≡ i → ⊥) → free q j ≡ free p j
  kept_free j m x = ap (λ (w : ℕ). eqb w 0) (kept_header j m x 1 (omega arith))

  kept_good : (j : ℕ) → In j (starts p base e) → (j ≡ i → ⊥) → good q j e ≡ true
  kept_good j m x =
      let z = kept_size j m x in
      let g = is_good p j e (T j m) in
      good_is q j e (record { whole = rw z g.whole; least = rw z g.least; within = rw z g.within })

  new_used : free q i ≡ false
  new_used = ne_eqb (kind q i) 0 (rw W.its_kind used)

  -- no two free blocks touch
  apart_low : Apart p base e → (j : ℕ) → In j low → free q j ≡ true → next q j e < e → free q (next q j e) ≡ false
  apart_low A j m f l =
      let d = low_before j m in
      let x = low_other j m in
      let z : next q j e ≡ next p j e = next_same p q j e (kept_size j d x) in
      let g : free p j ≡ true = sym (kept_free j d x) ∙ f in
      rw z (⊎_elim
      (λ (y : next p j e ≡ i). rw y new_used)
      (λ y. kept_free (next p j e) (low_before (next p j e) y) (low_other (next p j e) y) ∙ A j d g (rw z at l))
      ((cut_at p base e i n T C units least).onward j m))

  apart_rest : Apart p base e → n < size p i → next q (i + n / 4) e < e → free q (next q (i + n / 4) e) ≡ false
  apart_rest A l h =
      let b = taken p base e i n T C units least in
      let z = rest_next l in
      let u : i + size p i / 4 < e = rw z at h in
      let v : kind q (i + size p i / 4) ≡ kind p (i + size p i / 4) = W.other (i + size p i / 4 + 1) (inr (omega arith)) in
      let y : free p (i + size p i / 4) ≡ false = rw b.after at (A i C.there C.is_free (rw b.after u)) in
      rw (z, v) y

  apart_high : Apart p base e → (j : ℕ) → In j high → free q j ≡ true → next q j e < e → free q (next q j e) ≡ false
  apart_high A j m f l =
      let d = high_before j m in
      let x = high_other j m in
      let z : next q j e ≡ next p j e = next_same p q j e (kept_size j d x) in
      let g : free p j ≡ true = sym (kept_free j d x) ∙ f in
      let u = next_up p j e (starts_in p base e j d).1 in
      let a = high_starts j m in
      let v : kind q (next p j e) ≡ kind p (next p j e) = W.other (next p j e + 1) (inr (omega arith)) in
      rw (z, v) (A j d g (rw z at l))

  -- the bytes
  same_over : (l : List ℕ) → ((j : ℕ) → In j l → In j (starts p base e)) → ((j : ℕ) → In j l → j ≡ i → ⊥) → total (free_size q) l ≡ total (free_size p) l
  same_over l h x = total_same (free_size q) (free_size p) l (λ j m. rw (kept_free j (h j m) (x j m), kept_size j (h j m) (x j m)))

  rest_free : total (free_size q) (rest_of p i n) ≡ size p i - n
  rest_free = ⊎_elim
      (λ (l : n < size p i). rw (lt-ltb n (size p i) l, eq-eqb (kind q (i + n / 4)) 0 (W.rest_kind l), W.rest_size l) (omega arith))
      (λ (l : size p i ≤ n). rw (le-ltb n (size p i) l) (omega arith))
      (lt_or_ge n (size p i))

  fewer : free_bytes q base e + n ≡ free_bytes p base e
  fewer =
      let a = same_over low low_before low_other in
      let b = same_over high high_before high_other in
      let c = C.enough in
      rw (walk_after, walk_before p base e i n T C units least, total_parts (free_size q) low (i ∷ (rest_of p i n ++ high)), total_parts (free_size q) (rest_of p i n) high, total_parts (free_size p) low (i ∷ high), new_used, C.is_free, rest_free, a, b) (omega arith)

  pub placing_keeps_the_area : Placed p q base e i n k o s
  placing_keeps_the_area = record {
    as_long = W.as_long;
    outside = λ j h. let b = taken p base e i n T C units least in let x = b.low in let y = b.high in W.other j (⊎_elim (λ a. inl (omega arith)) (λ a. inr (omega arith)) h);
    there = rw walk_after (in_second low (i ∷ (rest_of p i n ++ high)) i (inl refl));
    its_size = W.its_size;
    its_kind = W.its_kind;
    its_owner = W.its_owner;
    its_start = W.its_start;
    its_room = W.its_room;
    rest_there = λ l. rw (walk_after, lt-ltb n (size p i) l) (in_second low (i ∷ ((i + n / 4) ∷ high)) (i + n / 4) (inr (inl refl)));
    rest_size = W.rest_size;
    rest_kind = W.rest_kind;
    rest_owner = W.rest_owner;
    rest_start = W.rest_start;
    rest_room = λ l j a b. W.rest_room l j a;
    stays = λ j m x. ⊎_elim (λ y. low_after j y) (λ y. ⊎_elim (λ (z : j ≡ i). absurd (x z)) (λ v. high_after j v) y) (before j m);
    keeps = kept;
    only = λ j m. ⊎_elim (λ y. inr (inr (low_before j y, low_other j y))) (λ y. ⊎_elim inl (λ v. inr (⊎_elim inl (λ x. inr (high_before j x, high_other j x)) v)) y) (after j m);
    tiled = tiles;
    apart = λ A j m f l. ⊎_elim
        (λ y. apart_low A j y f l)
        (λ y. ⊎_elim
        (λ (z : j ≡ i). absurd (false_true (sym new_used ∙ (rw z at f))))
        (λ v. ⊎_elim (λ (x : (n < size p i) × (j ≡ i + n / 4)). rest_apart A x.0 j x.1 l) (λ x. apart_high A j x f l) v)
        y)
        (after j m);
    blank = λ A j m f. ⊎_elim
        (λ y. blank_kept A j (low_before j y) (low_other j y) f)
        (λ y. ⊎_elim
        (λ (z : j ≡ i). absurd (false_true (sym new_used ∙ (rw z at f))))
        (λ v. ⊎_elim (λ (x : (n < size p i) × (j ≡ i + n / 4)). rw x.1 (W.rest_owner x.0, W.rest_start x.0)) (λ x. blank_kept A j (high_before j x) (high_other j x) f) v)
        y)
        (after j m);
    same_bytes = sames;
    less_free = fewer;
    more_used = let a = sames in let b = fewer in let c = free_and_used p base e in let d = free_and_used q base e in omega arith;
  }
    where
      tiles : Tiled q base e
      tiles j m = ⊎_elim
          (λ y. kept_good j (low_before j y) (low_other j y))
          (λ y. ⊎_elim
          (λ (z : j ≡ i). rw z new_good)
          (λ v. ⊎_elim (λ (x : (n < size p i) × (j ≡ i + n / 4)). rw x.1 (rest_good x.0)) (λ x. kept_good j (high_before j x) (high_other j x)) v)
          y)
          (after j m)

      sames : bytes q base e ≡ bytes p base e
      sames =
          let b = starts_in p base e i C.there in
          let l : base ≤ e = omega (arith, b.0, b.1) in
          blocks_fill_the_area q base e l tiles ∙ sym (blocks_fill_the_area p base e l T)

      rest_apart : Apart p base e → n < size p i → (j : ℕ) → j ≡ i + n / 4 → next q j e < e → free q (next q j e) ≡ false
      rest_apart A x j z l = rw z (apart_rest A x (rw z at l))

      blank_kept : Blank p base e → (j : ℕ) → In j (starts p base e) → (j ≡ i → ⊥) → free q j ≡ true → (holder q j ≡ 0) × (start q j ≡ 0)
      blank_kept A j d x f =
          let y = A j d (sym (kept_free j d x) ∙ f) in
          (kept_header j d x 2 (omega arith) ∙ y.0, kept_header j d x 3 (omega arith) ∙ y.1)

-- placing n bytes, a multiple of 16 and not 0, in a chosen block of an area that blocks tile
pub placed_keeps_the_area : (p : List ℕ) (base e i n k o s : ℕ) → e ≤ length p → Tiled p base e → Chosen p base e n i → n % 16 ≡ 0 → 16 ≤ n → (k ≡ 0 → ⊥)
    → Placed p (placed p i n k o s) base e i n k o s
placed_keeps_the_area p base e i n k o s inside T C units least used =
    placing_keeps_the_area p (placed p i n k o s) base e i n k o s T C units least used (placed_is_written p i n k o s (room_there p base e i n T C units least inside))
