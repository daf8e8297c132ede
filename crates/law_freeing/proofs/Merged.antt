-- A sweep that gives one block back leaves exactly the picture that document 01 describes.
use Prim.Native.Nat.{ℕ, ◌+◌, ◌-◌, ◌*◌, ◌≤◌, ◌<◌}
use mathlib.Core.Path.{◌≡◌, sym, ◌∙◌}
use mathlib.Core.Bool.{true, false, cond}
use mathlib.Core.List.{List}
use mathlib.Core.Logic.{⊎_elim, ◌⊎◌, inl, inr}
use lib.ListN.{length}
use lib.Seq.{ext_get_or}
use lib.Dec.{ltb}
use native.Mathlib.Omega.{arith}
use borrow.Author.Tests.{lt-ltb, le-ltb}
use Rattle.words.specs.Words.{word}
use Rattle.words.specs.Each.{In}
use Rattle.words.proofs.Tests.{lt_or_ge}
use Rattle.blocks.specs.Header.{free}
use Rattle.blocks.specs.Walk.{next, starts}
use Rattle.headers.specs.Header.{header, Outside}
use Rattle.law_areas.specs.Area.{Tiled, Apart, Blank}
use Rattle.headers.proofs.Header.{length_header, length_either, header_other, header_size, header_zeros, header_all_zeros}
use Rattle.law_areas.proofs.Row.{block_of}
use Rattle.law_freeing.proofs.Neighbours.{next_block}
use Rattle.freeing.specs.Sweep.{swept}
use Rattle.law_freeing.proofs.Swept.{sweeping_keeps_the_area}
use Rattle.law_freeing.specs.Merge.{low_end, high_end, merged, released}
use Rattle.law_freeing.proofs.Ends.{Low, High, low_end_is, high_end_is}
use Rattle.law_freeing.proofs.Released.{Released, one_block_merges_with_free_neighbours}

-- in a header or outside of it
side : (a k : ℕ) → ((a ≤ k) × (k < a + 4)) ⊎ Outside a (a + 4) k
side a k = ⊎_elim (λ l. inr (inl l)) (λ l. ⊎_elim (λ u. inl (l, u)) (λ u. inr (inr u)) (lt_or_ge k (a + 4))) (lt_or_ge k a)

-- the paper's words leave no choice
pub released_is_determined : (p q x : List ℕ) (a i j b : ℕ) → a ≤ i → Released p q a i j b → Released p x a i j b → q ≡ x
released_is_determined p q x a i j b le F G = ext_get_or 0 q x (F.as_long ∙ sym G.as_long) (λ k l. at k)
  where
    rest : (k : ℕ) → Outside a (a + 4) k → Outside i (i + 4) k → word q k ≡ word x k
    rest k u v = ⊎_elim
        (λ (l : j < b). ⊎_elim
        (λ w. F.next_absorbed l k w.0 w.1 ∙ sym (G.next_absorbed l k w.0 w.1))
        (λ w. F.all_else k u v (λ _. w) ∙ sym (G.all_else k u v (λ _. w)))
        (side j k))
        (λ (l : b ≤ j). F.all_else k u v (λ y. absurd (omega arith)) ∙ sym (G.all_else k u v (λ y. absurd (omega arith))))
        (lt_or_ge j b)

    at : (k : ℕ) → word q k ≡ word x k
    at k = ⊎_elim
        (λ (w : (a ≤ k) × (k < a + 4)). ⊎_elim
        (λ (l : a < k). F.joined_header k l w.1 ∙ sym (G.joined_header k l w.1))
        (λ (l : k ≤ a). let z : k ≡ a = omega (arith, w.0) in rw z (F.joined_length ∙ sym G.joined_length))
        (lt_or_ge a k))
        (λ (u : Outside a (a + 4) k). ⊎_elim
        (λ (w : (i ≤ k) × (k < i + 4)). ⊎_elim
        (λ (l : a < i). F.own_absorbed l k w.0 w.1 ∙ sym (G.own_absorbed l k w.0 w.1))
        (λ (l : i ≤ a). absurd (let z : a ≡ i = omega arith in ⊎_elim (λ y. omega (arith, w.0)) (λ y. omega (arith, w.1)) u))
        (lt_or_ge a i))
        (λ v. rest k u v)
        (side i k))
        (side a k)

-- where the merged block lies
pub record Lies (p : List ℕ) (a i j b : ℕ) : Type 0 where
  pub low_le : a ≤ i
  pub low_gap : a < i → a + 4 ≤ i
  pub own_gap : i + 4 ≤ j
  pub high_le : j ≤ b
  pub high_gap : j < b → j + 4 ≤ b
  pub inside : b ≤ length p

merged_is_released : (p : List ℕ) (a i j b : ℕ) → Lies p a i j b → Released p (merged p a i j b) a i j b
unfolding merged
merged_is_released p a i j b L = record {
  as_long = length_header y a ((b - a) * 4) 0 0 0 ∙ ly;
  joined_length = header_size y a ((b - a) * 4) 0 0 0 (rw ly (omega arith));
  joined_header = λ k lo hi. header_zeros y a ((b - a) * 4) k (rw ly (omega arith)) lo hi;
  own_absorbed = λ u k lo hi. let w = L.low_gap u in header_other y a ((b - a) * 4) 0 0 0 k (inr (omega arith)) ∙ y_own k lo hi;
  next_absorbed = λ u k lo hi. header_other y a ((b - a) * 4) 0 0 0 k (inr (omega arith)) ∙ y_next u k lo hi;
  all_else = λ k u v w. header_other y a ((b - a) * 4) 0 0 0 k u ∙ y_else k v w;
}
  where
    h : List ℕ
    h = header p i 0 0 0 0

    y : List ℕ
    y = cond (ltb j b) (header h j 0 0 0 0) h

    ly : length y ≡ length p
    ly = length_either (ltb j b) _ _ _ (simp length_header) (simp length_header)

    y_own : (k : ℕ) → i ≤ k → k < i + 4 → word y k ≡ 0
    y_own k lo hi = ⊎_elim
        (λ u. rw (lt-ltb j b u) (header_other h j 0 0 0 0 k (inl (omega arith)) ∙ header_all_zeros p i k (omega arith) lo hi))
        (λ u. rw (le-ltb j b u) (header_all_zeros p i k (omega arith) lo hi))
        (lt_or_ge j b)

    y_next : j < b → (k : ℕ) → j ≤ k → k < j + 4 → word y k ≡ 0
    y_next u k lo hi = rw (lt-ltb j b u) (header_all_zeros h j k (rw (length_header p i 0 0 0 0) (let w = L.high_gap u in omega arith)) lo hi)

    y_else : (k : ℕ) → Outside i (i + 4) k → (j < b → Outside j (j + 4) k) → word y k ≡ word p k
    y_else k v w = ⊎_elim
        (λ u. rw (lt-ltb j b u) (header_other h j 0 0 0 0 k (w u) ∙ header_other p i 0 0 0 0 k v))
        (λ u. rw (le-ltb j b u) (header_other p i 0 0 0 0 k v))
        (lt_or_ge j b)

lies : (p : List ℕ) (base e i a b : ℕ) → e ≤ length p → Tiled p base e → In i (starts p base e) → Low p base e i a → High p e (next p i e) b → Lies p a i (next p i e) b
lies p base e i a b le T m L H =
    let B = block_of p base e T i m in
    let bl = B.least in
    let ba = B.after in
    let bh = B.high in
    record {
      low_le = ⊎_elim (λ (z : a ≡ i). omega arith) (λ w. let u = under w in omega arith) L.is;
      low_gap = λ l. ⊎_elim (λ (z : a ≡ i). absurd (omega arith)) (λ w. under w) L.is;
      own_gap = omega arith;
      high_le = ⊎_elim (λ (w : (b ≡ next p i e) × (next p i e < e → free p (next p i e) ≡ false)). omega (arith, w.0)) (λ w. let u = over w in omega (arith, u.0)) H;
      high_gap = λ l. ⊎_elim (λ (w : (b ≡ next p i e) × (next p i e < e → free p (next p i e) ≡ false)). absurd (omega (arith, w.0))) (λ w. (over w).0) H;
      inside = ⊎_elim (λ (w : (b ≡ next p i e) × (next p i e < e → free p (next p i e) ≡ false)). omega (arith, w.0)) (λ w. let u = over w in omega (arith, u.1)) H;
    }
  where
    under : In a (starts p base e) × ((free p a ≡ true) × (next p a e ≡ i)) → a + 4 ≤ i
    under w = let C = block_of p base e T a w.0 in let cl = C.least in let ca = C.after in omega (arith, w.1.1)

    over : (next p i e < e) × ((free p (next p i e) ≡ true) × (b ≡ next p (next p i e) e)) → (next p i e + 4 ≤ b) × (b ≤ e)
    over w =
        let C = block_of p base e T (next p i e) (next_block p base e i m w.0) in
        let cl = C.least in
        let ca = C.after in
        let ch = C.high in
        (omega (arith, w.1.1), omega (arith, w.1.1))

-- one block given back by a sweep, as document 01 says it
pub sweeping_one_block_releases_it : (p : List ℕ) (base e i : ℕ) → base ≤ e → e ≤ length p → Tiled p base e → Apart p base e → Blank p base e → In i (starts p base e) → free p i ≡ false
    → swept p base e 0 i ≡ released p base e i
unfolding released
sweeping_one_block_releases_it p base e i be le T A N m used =
    let L = low_end_is p base e i m in
    let H = high_end_is p e (next p i e) in
    let Z = lies p base e i (low_end p base e i) (high_end p e (next p i e)) le T m L H in
    released_is_determined p (swept p base e 0 i) (merged p (low_end p base e i) i (next p i e) (high_end p e (next p i e))) (low_end p base e i) i (next p i e) (high_end p e (next p i e)) Z.low_le
    (one_block_merges_with_free_neighbours p (swept p base e 0 i) base e i T A N m used (sweeping_keeps_the_area p base e 0 i be le T) (low_end p base e i) (high_end p e (next p i e)) L H)
    (merged_is_released p (low_end p base e i) i (next p i e) (high_end p e (next p i e)) Z)
