-- The walk over an area's blocks, a block at a time.
use Prim.Native.Nat.{ℕ, ◌+◌, ◌-◌, ◌/◌, ◌%◌, ◌≤◌, ◌<◌}
use mathlib.Core.Path.{◌≡◌, refl, sym, ap, ◌∙◌}
use mathlib.Core.Bool.{true, false}
use mathlib.Core.List.{List}
use native.Mathlib.Omega.{arith}
use lib.Dec.{leb, eqb}
use borrow.Author.Tests.{leb-true}
use Rattle.words.specs.Each.{one, all, total}
use Rattle.words.proofs.Tests.{both}
use Rattle.picture.specs.declared.Table.{Table}
use Rattle.blocks.specs.Header.{size, kind, kind_of}
use Rattle.sound_areas.specs.Rules.{length_whole, tiles}
use Rattle.blocks.specs.Walk.{good, next, starts}
use Rattle.blocks.proofs.Starts.{all_end, all_not, all_more, total_end, total_more}
use mir.Val.{bool_byte}
use Rattle.sound_matching.proofs.Converted.{one_converted, one_small}
use Rattle.sound_walks.specs.Walks.{block_fine, blocks_walked}
use Rattle.std.specs.Prelude.{Some, None}

module _ (p : List ℕ) (t : Table) (b e : ℕ) where
  abbrev pub of_kind : ℕ → ℕ
  of_kind i = one (eqb (kind p i) (kind_of t))

  -- what is left of the walk at i, with n blocks of the kind passed
  pub record Left (i n : ℕ) : Type 0 where
    pub few : n ≤ i
    pub fine : all (block_fine p t e) (starts p b e) ≡ all (block_fine p t e) (starts p i e)
    pub count : total of_kind (starts p b e) ≡ n + total of_kind (starts p i e)

  pub left_first : Left b 0
  left_first = record { few = omega arith; fine = refl; count = omega arith }

  pub left_next : (i n r j : ℕ) → Left i n → i < e → block_fine p t e i ≡ true → r ≡ bool_byte (eqb (kind p i) (kind_of t)) → j ≡ next p i e → i < j → Left j (n + r)
  left_next i n r j l a h w z o =
      let q = w ∙ one_converted (eqb (kind p i) (kind_of t)) in
      let u = one_small (eqb (kind p i) (kind_of t)) in
      let f = l.few in
      let c = l.count in
      let m = total_more p of_kind i e a in
      record {
        few = omega arith;
        fine = l.fine ∙ all_more p (block_fine p t e) i e a h ∙ ap (λ (x : ℕ). all (block_fine p t e) (starts p x e)) (sym z);
        count = rw z (omega arith);
      }

  pub left_broken : (i n : ℕ) → Left i n → i < e → block_fine p t e i ≡ false → None ≡ blocks_walked p t b e
  unfolding blocks_walked
  left_broken i n l a h = rw (l.fine, all_not p (block_fine p t e) i e a h)

  pub left_counted : (i n : ℕ) → Left i n → e ≤ i → Some n ≡ blocks_walked p t b e
  unfolding blocks_walked
  left_counted i n l a =
      let m = total_end p of_kind i e a in
      let z : n ≡ total of_kind (starts p b e) = let c = l.count in omega arith in
      rw (l.fine, all_end p (block_fine p t e) i e a) (ap Some z)

-- a block that is whole and ends within its area has its header there
pub header_within : (p : List ℕ) (e i : ℕ) → length_whole p i ≡ true → tiles p e i ≡ true → i + 3 < e
unfolding length_whole tiles
header_within p e i h t =
    let a = both (eqb (size p i % 16) 0) (leb 16 (size p i)) h in
    let s = leb-true 16 (size p i) a.1 in
    let w = leb-true (size p i / 4) (e - i) t in
    omega arith

pub fine_within : (p : List ℕ) (t : Table) (e i : ℕ) → block_fine p t e i ≡ true → i + 3 < e
unfolding block_fine
fine_within p t e i h = let a = both _ _ h in header_within p e i a.0 (both _ _ a.1).0

-- the block behind a fine one of r bytes starts where that ends
pub fine_next : (p : List ℕ) (t : Table) (e i r : ℕ) → r ≡ size p i → block_fine p t e i ≡ true → i + r / 4 ≡ next p i e
unfolding block_fine next good length_whole tiles
fine_next p t e i r q h =
    let a = both (length_whole p i) _ h in
    let b = both (tiles p e i) _ a.1 in
    let c = both (eqb (size p i % 16) 0) (leb 16 (size p i)) a.0 in
    rw (q, c.0, c.1, b.0)
