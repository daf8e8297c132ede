-- Where each block of a table's kind is that of exactly one entry, as many such blocks as entries is: each entry has its block.
use Prim.Native.Nat.{ℕ, ◌+◌, ◌*◌, ◌≤◌, ◌<◌}
use mathlib.Core.Path.{◌≡◌, refl, sym, ap, ◌∙◌}
use mathlib.Core.Bool.{Bool, true, false, ◌&&◌, ◌||◌, not}
use mathlib.Core.Logic.{inl, inr}
use mathlib.Core.List.{List, [], ◌∷◌}
use lib.Dec.{eqb}
use native.Mathlib.Omega.{arith}
use borrow.Author.Tests.{eqb-true, eq-eqb}
use Rattle.words.specs.Each.{every, one, sum, count, all, any, total, In}
use Rattle.words.proofs.Tests.{both, false_true}
use Rattle.words.proofs.Each.{every_at, every_by, all_at, all_by, sum_zero, sum_le, sum_squeeze, sum_same, count_at, swap, total_same}
use Rattle.picture.specs.Layout.{positions}
use Rattle.picture.specs.Records.{owner, base}
use Rattle.picture.specs.declared.Table.{Table}
use Rattle.picture.specs.Layout.{from, upto}
use Rattle.blocks.specs.Header.{kind, holder, kind_of}
use Rattle.blocks.specs.Walk.{blocks}
use Rattle.blocks.proofs.Starts.{Rising, starts_rising}
use Rattle.sound_matching.specs.Match.{area_of, has_block, pair, block_matched, matches, entry_matched}

total_le : (a b : ℕ → ℕ) (l : List ℕ) → ((i : ℕ) → In i l → a i ≤ b i) → total a l ≤ total b l
total_le a b [] h = omega arith
total_le a b (x ∷ l) h = let r = total_le a b l (λ i m. h i (inr m)) in let y = h x (inl refl) in omega arith

-- equal totals of terms that are at most others: the terms are equal
total_squeeze : (a b : ℕ → ℕ) (l : List ℕ) → ((i : ℕ) → In i l → a i ≤ b i) → total a l ≡ total b l → (i : ℕ) → In i l → a i ≡ b i
total_squeeze a b [] h q i m = absurd m
total_squeeze a b (x ∷ l) h q i (inl e) =
    let r = total_le a b l (λ j o. h j (inr o)) in
    let y = h x (inl refl) in
    ap a e ∙ (let f : a x ≡ b x = omega arith in f) ∙ ap b (sym e)
total_squeeze a b (x ∷ l) h q i (inr m) =
    let r = total_le a b l (λ j o. h j (inr o)) in
    let y = h x (inl refl) in
    total_squeeze a b l (λ j o. h j (inr o)) (omega arith) i m

module _ (p : List ℕ) (t : Table) where
  -- what a block says that is the one of the entry at position k
  pub record Matches (k i : ℕ) : Type 0 where
    pub has : has_block p t k ≡ true
    pub sorts : kind p i ≡ kind_of t
    pub place : base p t k ≡ 4 * i
    pub held : owner p t k ≡ holder p i

  pub is_matches : (k i : ℕ) → matches p t k i ≡ true → Matches k i
  unfolding matches pair
  is_matches k i h =
      let a = both _ _ h in
      let b = both _ _ a.1 in
      let c = both _ _ b.1 in
      record { has = c.0; sorts = eqb-true _ _ a.0; place = eqb-true _ _ b.0; held = eqb-true _ _ c.1 }

  pub matches_is : (k i : ℕ) → Matches k i → matches p t k i ≡ true
  unfolding matches pair
  matches_is k i o = rw (eq-eqb _ _ o.sorts, o.has, eq-eqb _ _ o.place, eq-eqb _ _ o.held)

  -- how many blocks of l are the one of position k
  abbrev hits : ℕ → List ℕ → ℕ
  hits k l = total (λ (i : ℕ). one (matches p t k i)) l

  hits_late : (k lo e : ℕ) (l : List ℕ) → Rising lo e l → base p t k < 4 * lo → hits k l ≡ 0
  hits_late k lo e [] r h = refl
  hits_late k lo e (x ∷ l) r h = go (matches p t k x) refl (hits_late k (x + 1) e l r.1.1 (omega (arith, r.0)))
    where
      go : (b : Bool) → matches p t k x ≡ b → hits k l ≡ 0 → one b + hits k l ≡ 0
      go true q z = let o = (is_matches k x q).place in absurd (omega (arith, r.0))
      go false q z = omega arith

  hits_le : (k lo e : ℕ) (l : List ℕ) → Rising lo e l → hits k l ≤ one (has_block p t k)
  hits_le k lo e [] r = omega arith
  hits_le k lo e (x ∷ l) r = go (matches p t k x) refl (hits_le k (x + 1) e l r.1.1)
    where
      go : (b : Bool) → matches p t k x ≡ b → hits k l ≤ one (has_block p t k) → one b + hits k l ≤ one (has_block p t k)
      go true q z =
          let o = is_matches k x q in
          let f = o.place in
          let y = hits_late k (x + 1) e l r.1.1 (omega arith) in
          rw o.has (omega arith)
      go false q z = omega arith

  hits_any : (k : ℕ) (l : List ℕ) → (0 < hits k l → any (matches p t k) l ≡ true) × (any (matches p t k) l ≡ true → 0 < hits k l)
  hits_any k [] = (λ h. absurd (omega arith), λ h. absurd (false_true h))
  hits_any k (x ∷ l) = go (matches p t k x) (hits_any k l)
    where
      go : (b : Bool) → (0 < hits k l → any (matches p t k) l ≡ true) × (any (matches p t k) l ≡ true → 0 < hits k l) → (0 < one b + hits k l → b || any (matches p t k) l ≡ true) × (b || any (matches p t k) l ≡ true → 0 < one b + hits k l)
      go true r = (λ h. refl, λ h. omega arith)
      go false r = (λ h. r.0 (omega arith), λ h. let z = r.1 h in omega arith)

  at_most : (k : ℕ) → hits k (blocks p (area_of t)) ≤ one (has_block p t k)
  at_most k = hits_le k (from p (area_of t)) (upto p (area_of t)) (blocks p (area_of t)) (starts_rising p (from p (area_of t)) (upto p (area_of t)))

  -- how many entries the block at i is that of
  abbrev heirs_of : ℕ → ℕ
  heirs_of i = sum (λ (k : ℕ). one (matches p t k i)) (positions t)

  blocks_by : (i : ℕ) → one (eqb (kind p i) (kind_of t)) ≡ heirs_of i → block_matched p t i ≡ true
  unfolding block_matched matches
  blocks_by i h = go (eqb (kind p i) (kind_of t)) h
    where
      go : (b : Bool) → one b ≡ sum (λ (k : ℕ). one (b && pair p t k i)) (positions t) → not b || eqb (count (λ (k : ℕ). pair p t k i) (positions t)) 1 ≡ true
      go true q = eq-eqb _ _ (sym q)
      go false q = refl

  -- each block of the kind has an heir, and there are as many blocks as entries: it has exactly one
  pub heirs_blocks : ((i : ℕ) → In i (blocks p (area_of t)) → kind p i ≡ kind_of t → (k : ℕ) × ((k < positions t) × Matches k i))
      → total (λ (i : ℕ). one (eqb (kind p i) (kind_of t))) (blocks p (area_of t)) ≡ count (has_block p t) (positions t)
      → all (block_matched p t) (blocks p (area_of t)) ≡ true
  heirs_blocks heir h =
      let many = total_le (λ (i : ℕ). one (eqb (kind p i) (kind_of t))) heirs_of (blocks p (area_of t)) at_least in
      let turned = swap (λ (i k : ℕ). one (matches p t k i)) (positions t) (blocks p (area_of t)) in
      let few = sum_le (λ (k : ℕ). hits k (blocks p (area_of t))) (λ (k : ℕ). one (has_block p t k)) (positions t) (λ k _. at_most k) in
      all_by (block_matched p t) (blocks p (area_of t)) λ i m. blocks_by i (total_squeeze (λ (i : ℕ). one (eqb (kind p i) (kind_of t))) heirs_of (blocks p (area_of t)) at_least (omega arith) i m)
    where
      at_least : (i : ℕ) → In i (blocks p (area_of t)) → one (eqb (kind p i) (kind_of t)) ≤ heirs_of i
      at_least i m = go (eqb (kind p i) (kind_of t)) refl
        where
          go : (b : Bool) → eqb (kind p i) (kind_of t) ≡ b → one b ≤ heirs_of i
          go true q = let s = heir i m (eqb-true _ _ q) in let c = count_at (λ (k : ℕ). matches p t k i) (positions t) s.0 s.1.0 (matches_is s.0 i s.1.1) in omega arith
          go false q = omega arith

  -- a block of the kind is counted once, by the one entry whose it is
  counted : (i : ℕ) → block_matched p t i ≡ true → one (eqb (kind p i) (kind_of t)) ≡ heirs_of i
  unfolding block_matched matches
  counted i h = go (eqb (kind p i) (kind_of t)) h
    where
      go : (b : Bool) → not b || eqb (count (λ (k : ℕ). pair p t k i) (positions t)) 1 ≡ true → one b ≡ sum (λ (k : ℕ). one (b && pair p t k i)) (positions t)
      go true q = sym (eqb-true _ _ q)
      go false q = sym (sum_zero (positions t))

  module _ (whole : all (block_matched p t) (blocks p (area_of t)) ≡ true) where
    by_positions : total (λ (i : ℕ). one (eqb (kind p i) (kind_of t))) (blocks p (area_of t)) ≡ sum (λ (k : ℕ). hits k (blocks p (area_of t))) (positions t)
    by_positions =
        total_same _ _ (blocks p (area_of t)) (λ i m. counted i (all_at (block_matched p t) (blocks p (area_of t)) whole i m))
        ∙ swap (λ (i k : ℕ). one (matches p t k i)) (positions t) (blocks p (area_of t))

    -- as many blocks as entries: nobody is without
    pub counts_entries : total (λ (i : ℕ). one (eqb (kind p i) (kind_of t))) (blocks p (area_of t)) ≡ count (has_block p t) (positions t) → every (entry_matched p t) (positions t) ≡ true
    unfolding entry_matched
    counts_entries h = every_by (entry_matched p t) (positions t) λ k l. go k (has_block p t k) refl (sum_squeeze (λ (k : ℕ). hits k (blocks p (area_of t))) (λ (k : ℕ). one (has_block p t k)) (positions t) (λ k _. at_most k) (sym by_positions ∙ h) k l)
      where
        go : (k : ℕ) (c : Bool) → has_block p t k ≡ c → hits k (blocks p (area_of t)) ≡ one (has_block p t k) → not (has_block p t k) || any (matches p t k) (blocks p (area_of t)) ≡ true
        go k true q z = rw q ((hits_any k (blocks p (area_of t))).0 (let y : one (has_block p t k) ≡ 1 = ap one q in omega arith))
        go k false q z = rw q

    -- nobody is without: as many blocks as entries
    pub entries_counts : every (entry_matched p t) (positions t) ≡ true → total (λ (i : ℕ). one (eqb (kind p i) (kind_of t))) (blocks p (area_of t)) ≡ count (has_block p t) (positions t)
    unfolding entry_matched
    entries_counts h = by_positions ∙ sum_same _ _ (positions t) λ k l. go k (has_block p t k) refl (every_at (entry_matched p t) (positions t) h k l)
      where
        go : (k : ℕ) (c : Bool) → has_block p t k ≡ c → not (has_block p t k) || any (matches p t k) (blocks p (area_of t)) ≡ true → hits k (blocks p (area_of t)) ≡ one (has_block p t k)
        go k true q z =
            let y = (hits_any k (blocks p (area_of t))).1 (rw q at z) in
            let m = at_most k in
            let n : one (has_block p t k) ≡ 1 = ap one q in
            omega arith
        go k false q z = let m = at_most k in let n : one (has_block p t k) ≡ 0 = ap one q in omega arith
