-- A sweep that gives one block back, in an area where no two free blocks touch: longword by longword.
use Prim.Native.Nat.{ℕ, ◌+◌, ◌-◌, ◌*◌, ◌/◌, ◌≤◌, ◌<◌}
use mathlib.Core.Path.{◌≡◌, refl, sym, ◌∙◌, subst}
use mathlib.Core.Bool.{Bool, true, false}
use mathlib.Core.List.{List}
use mathlib.Core.Logic.{⊎_elim, ◌⊎◌, inl, inr}
use lib.ListN.{length}
use native.Mathlib.Omega.{arith}
use borrow.Author.Tests.{eqb-true}
use Rattle.words.specs.Words.{word}
use Rattle.words.specs.Each.{In}
use Rattle.words.proofs.Tests.{lt_or_ge, false_true}
use Rattle.blocks.specs.Header.{size, kind, free, holder, start}
use Rattle.blocks.specs.Walk.{next, starts}
use Rattle.blocks.proofs.Walk.{next_le}
use Rattle.blocks.proofs.Starts.{starts_in, next_same}
use Rattle.headers.specs.Header.{Outside}
use Rattle.law_areas.specs.Area.{Tiled, Apart, Blank}
use Rattle.headers.proofs.Header.{same_or_not}
use Rattle.law_areas.proofs.Row.{block_of}
use Rattle.law_freeing.proofs.Neighbours.{first_block, next_block, blocks_in_order, in_some_block}
use Rattle.law_freeing.specs.Swept.{Swept}
use Rattle.law_freeing.proofs.Alone.{the_block_at_a_goes, no_other_block_goes}
use Rattle.law_freeing.specs.Merge.{before}
use Rattle.law_freeing.proofs.Ends.{prior, ends_above, Low, High}

-- q is p with one free block from a up to b, the headers at i and j in it absorbed
pub record Released (p q : List ℕ) (a i j b : ℕ) : Type 0 where
  pub as_long : length q ≡ length p
  pub joined_length : word q a ≡ (b - a) * 4
  pub joined_header : (k : ℕ) → a < k → k < a + 4 → word q k ≡ 0
  pub own_absorbed : a < i → (k : ℕ) → i ≤ k → k < i + 4 → word q k ≡ 0
  pub next_absorbed : j < b → (k : ℕ) → j ≤ k → k < j + 4 → word q k ≡ 0
  pub all_else : (k : ℕ) → Outside a (a + 4) k → Outside i (i + 4) k → (j < b → Outside j (j + 4) k) → word q k ≡ word p k

-- the three longwords behind a length
tail_zero : (x : List ℕ) (c k : ℕ) → kind x c ≡ 0 → (holder x c ≡ 0) × (start x c ≡ 0) → c < k → k < c + 4 → word x k ≡ 0
tail_zero x c k f h lo hi =
    ⊎_elim
    (λ (z : k ≡ c + 1). rw z f)
    (λ (n : k ≡ c + 1 → ⊥). ⊎_elim
    (λ (z : k ≡ c + 2). rw z h.0)
    (λ (o : k ≡ c + 2 → ⊥). let z : k ≡ c + 3 = omega arith in rw z h.1)
    (same_or_not k (c + 2)))
    (same_or_not k (c + 1))

module _ (p q : List ℕ) (base e i : ℕ) (T : Tiled p base e) (A : Apart p base e) (N : Blank p base e) (m : In i (starts p base e)) (used : free p i ≡ false) (W : Swept p q base e 0 i) where
  -- a block in use other than the one at i stays as it is
  stays_there : (c : ℕ) → In c (starts p base e) → free p c ≡ false → (c ≡ i → ⊥) → In c (starts q base e)
  stays_there c n f x = W.stays c n f (no_other_block_goes p i c x)

  stays_same : (c : ℕ) → In c (starts p base e) → free p c ≡ false → (c ≡ i → ⊥) → (k : ℕ) → c ≤ k → k < c + size p c / 4 → word q k ≡ word p k
  stays_same c n f x = W.keeps c n f (no_other_block_goes p i c x)

  stays_next : (c : ℕ) → In c (starts p base e) → free p c ≡ false → (c ≡ i → ⊥) → next q c e ≡ next p c e
  stays_next c n f x = let b = (block_of p base e T c n).least in next_same p q c e (stays_same c n f x c (omega arith) (omega arith))

  -- a free block, and the one at i, is free
  is_free : (c : ℕ) → In c (starts q base e) → (free p c ≡ true) ⊎ (c ≡ i) → free q c ≡ true
  is_free c n h = go (free q c) refl
    where
      go : (b : Bool) → free q c ≡ b → free q c ≡ true
      go true z = z
      go false z =
          let o = W.only c n z in
          ⊎_elim
          (λ (f : free p c ≡ true). absurd (false_true (sym o.1.0 ∙ f)))
          (λ (y : c ≡ i). absurd (false_true (sym (rw y at o.1.1) ∙ the_block_at_a_goes p i used)))
          h

  -- a block stands where the one before it stays
  stands : (c : ℕ) → In c (starts p base e) → ((d : ℕ) → In d (starts p base e) → next p d e ≡ c → (free p d ≡ false) × (d ≡ i → ⊥)) → In c (starts q base e)
  stands c n h = ⊎_elim
      (λ (v : (before c e (starts p base e) ≡ e) × (c ≡ base)). subst (λ (x : ℕ). In x (starts q base e)) (sym v.1) (first_block q base e (rw v.1 at (starts_in p base e c n).1)))
      (λ (v : In (before c e (starts p base e)) (starts p base e) × (next p (before c e (starts p base e)) e ≡ c)). behind (before c e (starts p base e)) v.0 v.1 (h (before c e (starts p base e)) v.0 v.1))
      (prior p base e c e n)
    where
      behind : (d : ℕ) → In d (starts p base e) → next p d e ≡ c → (free p d ≡ false) × (d ≡ i → ⊥) → In c (starts q base e)
      behind d o z s =
          let y : next q d e ≡ c = stays_next d o s.0 s.1 ∙ z in
          subst (λ (x : ℕ). In x (starts q base e)) y (next_block q base e d (stays_there d o s.0 s.1) (rw y (starts_in p base e c n).1))

  -- a free block of q ends at the next block that stays, or at the area's end
  reaches : (c h : ℕ) → In c (starts q base e) → free q c ≡ true → c < h → (h ≡ e) ⊎ (In h (starts p base e) × ((free p h ≡ false) × (h ≡ i → ⊥)))
      → ((d : ℕ) → In d (starts p base e) → c < d → d < h → (free p d ≡ true) ⊎ (d ≡ i)) → next q c e ≡ h
  reaches c h n f l o between =
      let u = next_le q c e in
      let v = ends_above q base e c n in
      let up : next q c e ≤ h = ⊎_elim (λ (z : h ≡ e). omega arith) (λ w. blocks_in_order q base e c h n (stays_there h w.0 w.1.0 w.1.1) l) o in
      let within : h ≤ e = ⊎_elim (λ (z : h ≡ e). omega arith) (λ w. let a = (starts_in p base e h w.0).1 in omega arith) o in
      ⊎_elim
      (λ (x : next q c e < h).
      let y : next q c e < e = omega arith in
      let w = next_block q base e c n y in
      absurd (false_true (sym (W.apart c n f y) ∙ is_free (next q c e) w (between (next q c e) (W.were (next q c e) w) v x))))
      (λ (x : h ≤ next q c e). omega arith)
      (lt_or_ge (next q c e) h)

  length_of : (c h : ℕ) → In c (starts q base e) → next q c e ≡ h → size q c ≡ (h - c) * 4
  length_of c h n z = let b = block_of q base e W.tiled c n in let w = b.whole in let x = b.after in omega arith

  -- the header of a block that is free before and after, but for its length
  free_tail : (c k : ℕ) → In c (starts q base e) → free q c ≡ true → c < k → k < c + 4 → word q k ≡ 0
  free_tail c k n f lo hi = tail_zero q c k (eqb-true (kind q c) 0 f) (W.blank N c n f) lo hi

  tail_before : (c k : ℕ) → In c (starts p base e) → free p c ≡ true → c < k → k < c + 4 → word p k ≡ 0
  tail_before c k n f lo hi = tail_zero p c k (eqb-true (kind p c) 0 f) (N c n f) lo hi

  -- where the merged block lies
  module _ (a b : ℕ) (L : Low p base e i a) (H : High p e (next p i e) b) where
    own_end : (i < next p i e) × (next p i e ≤ e)
    own_end = (ends_above p base e i m, next_le p i e)

    low_le : a ≤ i
    low_le = ⊎_elim (λ (z : a ≡ i). omega arith) (λ w. let u = ends_above p base e a w.0 in omega (arith, w.1.1)) L.is

    low_there : In a (starts p base e)
    low_there = ⊎_elim (λ (z : a ≡ i). subst (λ (x : ℕ). In x (starts p base e)) (sym z) m) (λ w. w.0) L.is

    low_spare : (free p a ≡ true) ⊎ (a ≡ i)
    low_spare = ⊎_elim (λ (z : a ≡ i). inr z) (λ w. inl w.1.0) L.is

    behind_there : next p i e < e → In (next p i e) (starts p base e)
    behind_there l = next_block p base e i m l

    high_le : (next p i e ≤ b) × (b ≤ e)
    high_le = ⊎_elim
        (λ (w : (b ≡ next p i e) × (next p i e < e → free p (next p i e) ≡ false)). let u = own_end in (omega (arith, w.0), omega (arith, w.0, u.1)))
        (λ (w : (next p i e < e) × ((free p (next p i e) ≡ true) × (b ≡ next p (next p i e) e))).
        let u = ends_above p base e (next p i e) (behind_there w.0) in let v = next_le p (next p i e) e in (omega (arith, w.1.1), omega (arith, w.1.1)))
        H

    -- the block behind it stays
    high_stays : (b ≡ e) ⊎ (In b (starts p base e) × ((free p b ≡ false) × (b ≡ i → ⊥)))
    high_stays = ⊎_elim
        (λ (w : (b ≡ next p i e) × (next p i e < e → free p (next p i e) ≡ false)). ⊎_elim
        (λ (l : next p i e < e). inr (rw w.0 (behind_there l, (w.1 l, λ z. let u = own_end in omega (arith, u.0)))))
        (λ (l : e ≤ next p i e). let u = own_end in inl (omega (arith, w.0, u.1)))
        (lt_or_ge (next p i e) e))
        (λ (w : (next p i e < e) × ((free p (next p i e) ≡ true) × (b ≡ next p (next p i e) e))). ⊎_elim
        (λ (l : next p (next p i e) e < e).
        let n = behind_there w.0 in
        let u = own_end in
        let v = ends_above p base e (next p i e) n in
        inr (rw w.1.1 (next_block p base e (next p i e) n l, (A (next p i e) n w.1.0 l, λ z. omega (arith, u.0)))))
        (λ (l : e ≤ next p (next p i e) e). let v = next_le p (next p i e) e in inl (omega (arith, w.1.1)))
        (lt_or_ge (next p (next p i e) e) e))
        H

    -- within it stand the one at i and free ones
    within : (d : ℕ) → In d (starts p base e) → a < d → d < b → (free p d ≡ true) ⊎ (d ≡ i)
    within d n lo hi = ⊎_elim
        (λ (y : d ≡ i). inr y)
        (λ (y : d ≡ i → ⊥). ⊎_elim (λ (l : d < i). absurd (under l)) (λ (l : i ≤ d). inl (over (blocks_in_order p base e i d m n (omega arith)))) (lt_or_ge d i))
        (same_or_not d i)
      where
        under : d < i → ⊥
        under l = ⊎_elim (λ (z : a ≡ i). omega arith) (λ w. let u = blocks_in_order p base e a d low_there n lo in omega (arith, w.1.1)) L.is

        over : next p i e ≤ d → free p d ≡ true
        over l = ⊎_elim
            (λ (w : (b ≡ next p i e) × (next p i e < e → free p (next p i e) ≡ false)). absurd (omega (arith, w.0)))
            (λ (w : (next p i e < e) × ((free p (next p i e) ≡ true) × (b ≡ next p (next p i e) e))). ⊎_elim
            (λ (y : d ≡ next p i e). rw y w.1.0)
            (λ (y : d ≡ next p i e → ⊥). absurd (let u = blocks_in_order p base e (next p i e) d (behind_there w.0) n (omega arith) in omega (arith, w.1.1)))
            (same_or_not d (next p i e)))
            H

    -- it stands there, and ends there
    low_stands : In a (starts q base e)
    low_stands = stands a low_there (λ d n z. (before_it d n z (free p d) refl, λ y. let u = ends_above p base e d n in let v = low_le in omega arith))
      where
        before_it : (d : ℕ) → In d (starts p base e) → next p d e ≡ a → (t : Bool) → free p d ≡ t → free p d ≡ false
        before_it d n z false f = f
        before_it d n z true f =
            let u = ends_above p base e d n in
            ⊎_elim
            (λ (y : a ≡ i). absurd (let x = L.alone d n (z ∙ y) f in omega arith))
            (λ w. absurd (false_true (sym (rw z at (A d n f (rw z (starts_in p base e a low_there).1))) ∙ w.1.0)))
            L.is

    low_free : free q a ≡ true
    low_free = is_free a low_stands low_spare

    low_reaches : next q a e ≡ b
    low_reaches = let u = own_end in let v = low_le in let w = high_le in reaches a b low_stands low_free (omega (arith, u.0, w.0)) high_stays within

    absorbed_there : (c : ℕ) → a < c → c < b → In c (starts q base e) → ⊥
    absorbed_there c lo hi n = let u = blocks_in_order q base e a c low_stands n lo in omega (arith, low_reaches)

    -- every other free block is as it was
    other_free : (c : ℕ) → In c (starts p base e) → free p c ≡ true → (c ≡ a → ⊥) → (c ≡ next p i e → ⊥) → (k : ℕ) → c ≤ k → k < c + 4 → word q k ≡ word p k
    other_free c n f x y k lo hi = ⊎_elim
        (λ (l : c < k). free_tail c k there empty l hi ∙ sym (tail_before c k n f l hi))
        (λ (l : k ≤ c). let z : k ≡ c = omega arith in rw z same)
        (lt_or_ge c k)
      where
        there : In c (starts q base e)
        there = stands c n (λ d o z. (before_it d o z (free p d) refl, λ w. y (sym z ∙ rw w)))
          where
            before_it : (d : ℕ) → In d (starts p base e) → next p d e ≡ c → (t : Bool) → free p d ≡ t → free p d ≡ false
            before_it d o z false g = g
            before_it d o z true g = absurd (false_true (sym (rw z at (A d o g (rw z (starts_in p base e c n).1))) ∙ f))

        empty : free q c ≡ true
        empty = is_free c there (inl f)

        stops : (next p c e ≡ e) ⊎ (In (next p c e) (starts p base e) × ((free p (next p c e) ≡ false) × (next p c e ≡ i → ⊥)))
        stops = ⊎_elim
            (λ (l : next p c e < e). inr (next_block p base e c n l, (A c n f l, λ z. x (L.alone c n z f))))
            (λ (l : e ≤ next p c e). let u = next_le p c e in inl (omega arith))
            (lt_or_ge (next p c e) e)

        same : size q c ≡ size p c
        same =
            let z = reaches c (next p c e) there empty (ends_above p base e c n) stops (λ d o l h. absurd (let u = blocks_in_order p base e c d n o l in omega arith)) in
            let B = block_of p base e T c n in
            let w = B.whole in
            let v = B.after in
            length_of c (next p c e) there z ∙ omega arith

    rest_same : (k : ℕ) → Outside a (a + 4) k → Outside i (i + 4) k → (next p i e < b → Outside (next p i e) (next p i e + 4) k) → base ≤ k → k < e → word q k ≡ word p k
    rest_same k u v w lo hi = let s = in_some_block p base e k lo hi in go s.0 s.1.0 s.1.1.0 s.1.1.1 (free p s.0) refl
      where
        out : (c : ℕ) → Outside c (c + 4) k → c ≤ k → k < c + 4 → ⊥
        out c o l h = ⊎_elim (λ x. omega arith) (λ x. omega arith) o

        behind : (c : ℕ) → In c (starts p base e) → free p c ≡ true → c ≤ k → k < c + 4 → c ≡ next p i e → ⊥
        behind c n f l h z = ⊎_elim
            (λ (y : (b ≡ next p i e) × (next p i e < e → free p (next p i e) ≡ false)). false_true (sym (y.1 (rw z at (starts_in p base e c n).1)) ∙ (rw z at f)))
            (λ (y : (next p i e < e) × ((free p (next p i e) ≡ true) × (b ≡ next p (next p i e) e))).
            let t = ends_above p base e (next p i e) (behind_there y.0) in out c (rw z (w (omega (arith, y.1.1)))) l h)
            H

        go : (c : ℕ) → In c (starts p base e) → c ≤ k → k < next p c e → (t : Bool) → free p c ≡ t → word q k ≡ word p k
        go c n l h t f =
            let B = block_of p base e T c n in
            let z = B.after in
            let h' : k < c + size p c / 4 = omega arith in
            ⊎_elim
            (λ (y : k < c + 4). head c n l y h' t f)
            (λ (y : c + 4 ≤ k). W.rooms c n k y h')
            (lt_or_ge k (c + 4))
          where
            head : (c : ℕ) → In c (starts p base e) → c ≤ k → k < c + 4 → k < c + size p c / 4 → (t : Bool) → free p c ≡ t → word q k ≡ word p k
            head c n l y h true f = other_free c n f (λ z. out c (rw z u) l y) (behind c n f l y) k l y
            head c n l y h false f = stays_same c n f (λ z. out c (rw z v) l y) k l h

    -- the paper's words
    pub one_block_merges_with_free_neighbours : Released p q a i (next p i e) b
    one_block_merges_with_free_neighbours = record {
      as_long = W.as_long;
      joined_length = length_of a b low_stands low_reaches;
      joined_header = λ k lo hi. free_tail a k low_stands low_free lo hi;
      own_absorbed = λ l. let u = own_end in let v = high_le in W.absorbed i m (absorbed_there i l (omega (arith, u.0, v.0)));
      next_absorbed = λ l. let u = own_end in let v = high_le in let x = low_le in
          W.absorbed (next p i e) (behind_there (omega (arith, v.1))) (absorbed_there (next p i e) (omega (arith, u.0)) l);
      all_else = λ k u v w. ⊎_elim
          (λ (l : k < base). W.outside k (inl l))
          (λ (l : base ≤ k). ⊎_elim (λ (h : k < e). rest_same k u v w l h) (λ (h : e ≤ k). W.outside k (inr h)) (lt_or_ge k e))
          (lt_or_ge k base);
    }
