-- A sweep of an area that blocks tile: what the area's blocks are then.
use Prim.Native.Nat.{ℕ, ◌+◌, ◌≤◌, ◌<◌}
use mathlib.Core.Path.{◌≡◌, refl, sym, ap, ◌∙◌}
use mathlib.Core.Bool.{Bool, true, false, cond, ◌&&◌, ◌||◌}
use mathlib.Core.List.{List, [], ◌∷◌}
use mathlib.Core.Logic.{⊎_elim, ◌⊎◌, inl, inr}
use lib.ListN.{length}
use native.Mathlib.Omega.{arith}
use Rattle.words.specs.Each.{In}
use Rattle.words.proofs.Tests.{false_true}
use Rattle.blocks.specs.Header.{size, kind, free, holder, start}
use Rattle.blocks.specs.Walk.{starts}
use Rattle.law_areas.specs.Area.{Tiled, Blank, bytes, free_size, free_bytes}
use Rattle.law_areas.proofs.Row.{total_sum, blocks_fill_the_area, free_and_used}
use Rattle.freeing.specs.Sweep.{goes, sweep, swept}
use Rattle.law_freeing.specs.Swept.{given_size, given_bytes, Swept}
use Rattle.law_freeing.proofs.Goes.{goes_used}
use Rattle.law_freeing.proofs.Rows.{tiled_row, spaced_row, row_tiled, spaced_apart}
use Rattle.law_freeing.proofs.Join.{spare, spare_size, false_spare, heads, absorbs, Rest, sweep_rest}

-- the blocks that start one after joining, and the others
heads_stay : (s : ℕ → Bool) (f : Bool) (l : List ℕ) (i : ℕ) → In i l → s i ≡ false → In i (heads s f l)
heads_stay s f [] i h u = h
heads_stay s f (j ∷ l) i h u = go f (s j) refl h (λ n. heads_stay s (s j) l i n u)
  where
    go : (f b : Bool) → s j ≡ b → In i (j ∷ l) → (In i l → In i (heads s (s j) l)) → In i (cond (f && b) (heads s (s j) l) (j ∷ heads s (s j) l))
    go true true z (inl e) ih = absurd (false_true (sym u ∙ ap s e ∙ z))
    go true true z (inr n) ih = ih n
    go true false z (inl e) ih = inl e
    go true false z (inr n) ih = inr (ih n)
    go false b z (inl e) ih = inl e
    go false b z (inr n) ih = inr (ih n)

heads_are : (s : ℕ → Bool) (f : Bool) (l : List ℕ) (i : ℕ) → In i (heads s f l) → In i l
heads_are s f [] i h = h
heads_are s f (j ∷ l) i h = go (f && s j) h (λ n. heads_are s (s j) l i n)
  where
    go : (b : Bool) → In i (cond b (heads s (s j) l) (j ∷ heads s (s j) l)) → (In i (heads s (s j) l) → In i l) → In i (j ∷ l)
    go true n ih = inr (ih n)
    go false (inl e) ih = inl e
    go false (inr n) ih = inr (ih n)

head_or_absorbed : (s : ℕ → Bool) (f : Bool) (l : List ℕ) (i : ℕ) → In i l → In i (heads s f l) ⊎ In i (absorbs s f l)
head_or_absorbed s f [] i h = absurd h
head_or_absorbed s f (j ∷ l) i h = go (f && s j) h (λ n. head_or_absorbed s (s j) l i n)
  where
    go : (b : Bool) → (i ≡ j) ⊎ In i l → (In i l → In i (heads s (s j) l) ⊎ In i (absorbs s (s j) l))
        → In i (cond b (heads s (s j) l) (j ∷ heads s (s j) l)) ⊎ In i (cond b (j ∷ absorbs s (s j) l) (absorbs s (s j) l))
    go true (inl e) ih = inr (inl e)
    go true (inr n) ih = ⊎_elim inl (λ v. inr (inr v)) (ih n)
    go false (inl e) ih = inl (inl e)
    go false (inr n) ih = ⊎_elim (λ v. inl (inr v)) inr (ih n)

-- spare bytes are the free ones and those that go
spare_parts : (p : List ℕ) (m a i : ℕ) → spare_size p m a i ≡ free_size p i + given_size p m a i
unfolding spare
spare_parts p m a i = go (free p i) (goes p m a i) refl refl
  where
    go : (b c : Bool) → free p i ≡ b → goes p m a i ≡ c → cond (b || c) (size p i) 0 ≡ cond b (size p i) 0 + cond c (size p i) 0
    go true true f g = absurd (false_true (sym (goes_used p m a i g) ∙ f))
    go true false f g = omega arith
    go false true f g = omega arith
    go false false f g = omega arith

-- a sweep of an area that blocks tile
pub sweeping_keeps_the_area : (p : List ℕ) (base e m a : ℕ) → base ≤ e → e ≤ length p → Tiled p base e → Swept p (swept p base e m a) base e m a
unfolding swept
sweeping_keeps_the_area p base e m a be le T = record {
  as_long = R.long;
  outside = λ k h. ⊎_elim (λ (l : k < base). R.before k l (λ z. omega arith)) (λ (l : e ≤ k). R.above k l) h;
  tiled = tiles;
  apart = spaced_apart R.row.1;
  blank = blanks;
  stays = λ i h u g. rw R.blocks (heads_stay (spare p m a) false (starts p base e) i h (false_spare p m a i u g));
  keeps = λ i h u g. R.keeps i h (false_spare p m a i u g);
  only = λ i h u. let w = head i h in let v = used i h u in (heads_are (spare p m a) false (starts p base e) i w, v);
  were = λ i h. heads_are (spare p m a) false (starts p base e) i (head i h);
  absorbed = λ i h n. ⊎_elim (λ v. absurd (n (rw R.blocks v))) (λ v. R.zeros i v) (head_or_absorbed (spare p m a) false (starts p base e) i h);
  rooms = R.rooms;
  same_bytes = sames;
  more_free = frees;
  less_used = let a = sames in let b = frees in let c = free_and_used p base e in let d = free_and_used q base e in omega arith;
}
  where
    q : List ℕ
    q = sweep p e m a e (starts p base e)

    R : Rest p p q m a false e e base
    R = sweep_rest p m a e false p e (tiled_row p base e be T) (λ k l. refl) le refl

    tiles : Tiled q base e
    tiles = row_tiled (spaced_row R.row.1)

    sames : bytes q base e ≡ bytes p base e
    sames = blocks_fill_the_area q base e be tiles ∙ sym (blocks_fill_the_area p base e be T)

    frees : free_bytes q base e ≡ free_bytes p base e + given_bytes p base e m a
    frees =
        let s = R.sums in
        let t = total_sum (free_size p) (given_size p m a) (spare_size p m a) (starts p base e) (λ i h. spare_parts p m a i) in
        omega arith

    head : (i : ℕ) → In i (starts q base e) → In i (heads (spare p m a) false (starts p base e))
    head i h = rw R.blocks at h

    used : (i : ℕ) → In i (starts q base e) → free q i ≡ false → (free p i ≡ false) × (goes p m a i ≡ false)
    used i h u = go (goes p m a i) refl (R.tails i (head i h) (i + 1) (omega arith) (omega arith))
      where
        go : (b : Bool) → goes p m a i ≡ b → kind q i ≡ cond (goes p m a i) 0 (kind p i) → (free p i ≡ false) × (goes p m a i ≡ false)
        go true g z = let v : kind q i ≡ 0 = z ∙ rw g in absurd (false_true (sym u ∙ rw v))
        go false g z = let v : kind q i ≡ kind p i = z ∙ rw g in (rw v at u, g)

    blanks : Blank p base e → Blank q base e
    blanks t i h u = go (goes p m a i) refl
      where
        w : In i (heads (spare p m a) false (starts p base e))
        w = head i h

        go : (b : Bool) → goes p m a i ≡ b → (holder q i ≡ 0) × (start q i ≡ 0)
        go true g = (R.tails i w (i + 2) (omega arith) (omega arith) ∙ rw g, R.tails i w (i + 3) (omega arith) (omega arith) ∙ rw g)
        go false g =
            let v : kind q i ≡ kind p i = R.tails i w (i + 1) (omega arith) (omega arith) ∙ rw g in
            let y = t i (heads_are (spare p m a) false (starts p base e) i w) (rw v at u) in
            (R.tails i w (i + 2) (omega arith) (omega arith) ∙ rw g y.0, R.tails i w (i + 3) (omega arith) (omega arith) ∙ rw g y.1)
