-- A table and its area together: every record and every block is fine and there are as many entries as blocks. That is: they match one to one, and every owner of a block is live.
use Prim.Native.Nat.{ℕ, ◌<◌, ◌≤◌}
use mathlib.Core.Path.{◌≡◌, refl, sym}
use mathlib.Core.Bool.{Bool, true, false, ◌&&◌, ◌||◌, cond}
use mathlib.Core.List.{List}
use native.Mathlib.Omega.{arith}
use lib.Dec.{leb, eqb}
use borrow.Author.Tests.{eqb-true, eq-eqb}
use Rattle.words.specs.Each.{every, one, count, all, total, In}
use Rattle.words.proofs.Tests.{both, unless, false_true}
use Rattle.words.proofs.Each.{every_at, every_by, all_at, all_by}
use Rattle.picture.specs.Layout.{positions, nobody, from, upto}
use Rattle.picture.specs.Records.{used}
use Rattle.picture.specs.Numbers.{live}
use Rattle.picture.specs.declared.Table.{Table}
use Rattle.picture.specs.declared.Table.TheVariants.{Jobs, Channels}
use Rattle.blocks.specs.Header.{kind, kind_of, holder}
use Rattle.blocks.specs.Walk.{blocks}
use Rattle.blocks.proofs.Starts.{starts_in}
use Rattle.sound_matching.specs.Match.{area_of, first, has_block, block_matched, entry_matched}
use Rattle.sound_matching.specs.Agreed.{agreed}
use Rattle.sound_matching.proofs.Counts.{Matches, heirs_blocks, counts_entries, entries_counts}
use Rattle.sound_matching.proofs.Matched.{Matched, matched}
use Rattle.sound_matching.proofs.Agreeing.{agreed_some, some_agreed}
use Rattle.sound_records.specs.Rules.{may_be_unowned, owner_live}
use Rattle.sound_areas.specs.Rules.{holder_live}
use Rattle.std.specs.Prelude.{Some, None}
use Rattle.sound_entries.specs.Entries.{record_fine, entries_walked}
use Rattle.sound_entries.proofs.Rules.{placed_has_block}
use Rattle.sound_walks.specs.Walks.{block_fine, blocks_walked}
use Rattle.sound_walks.proofs.Rules.{Block, block_is, is_block, fine_agreed, fine_held}
use Rattle.sound.specs.Test.{as_many, half_fine}

module _ (p : List ℕ) (t : Table) where
  -- the blocks of the table's area, and how many are of its kind
  abbrev pub homes : List ℕ
  homes = blocks p (area_of t)

  abbrev pub found : ℕ
  found = total (λ (i : ℕ). one (eqb (kind p i) (kind_of t))) homes

  -- what the test says of a half
  pub record Half : Type 0 where
    pub records : (k : ℕ) → k < positions t → record_fine p t k ≡ true
    pub fine : (i : ℕ) → In i homes → block_fine p t (upto p (area_of t)) i ≡ true
    pub counts : found ≡ count (has_block p t) (positions t)

  pub half_is : half_fine p t ≡ true → Half
  unfolding half_fine entries_walked blocks_walked
  half_is h = go (every (record_fine p t) (positions t)) refl (all (block_fine p t (upto p (area_of t))) homes) refl h
    where
      go : (a : Bool) → every (record_fine p t) (positions t) ≡ a → (b : Bool) → all (block_fine p t (upto p (area_of t))) homes ≡ b
          → as_many (cond a (Some (count (has_block p t) (positions t))) None) (cond b (Some found) None) ≡ true → Half
      go true u true v g = record { records = every_at (record_fine p t) (positions t) u; fine = all_at (block_fine p t (upto p (area_of t))) homes v; counts = sym (eqb-true _ _ g) }
      go true u false v g = absurd (false_true g)
      go false u b v g = absurd (false_true g)

  pub is_half : Half → half_fine p t ≡ true
  unfolding half_fine entries_walked blocks_walked
  is_half q = rw (every_by (record_fine p t) (positions t) q.records, all_by (block_fine p t (upto p (area_of t))) homes q.fine) (eq-eqb _ _ (sym q.counts))

  home_past : (i : ℕ) → In i homes → 0 < i
  home_past i m = let s = starts_in p (from p (area_of t)) (upto p (area_of t)) i m in past t s.0
    where
      past : (t : Table) → from p (area_of t) ≤ i → 0 < i
      past Jobs h = omega arith
      past Channels h = omega arith

  module _ (q : Half) where
    heir : (i : ℕ) → In i homes → kind p i ≡ kind_of t → (k : ℕ) × ((k < positions t) × Matches p t k i)
    heir i m s =
        let g = agreed_some p t i (fine_agreed p i t (upto p (area_of t)) (q.fine i m) s) in
        let z = g.1.place in
        let l = home_past i m in
        (g.0, (g.1.below, record { has = placed_has_block p g.0 t (q.records g.0 g.1.below) (omega arith); sorts = s; place = g.1.place; held = g.1.held }))

    pub half_blocks : all (block_matched p t) homes ≡ true
    half_blocks = heirs_blocks p t heir q.counts

    pub half_entries : (k : ℕ) → k < positions t → entry_matched p t k ≡ true
    half_entries = every_at (entry_matched p t) (positions t) (counts_entries p t half_blocks q.counts)

    -- the owner of a block of the table's kind is its record's, and so is live
    heir_held : ((k : ℕ) → k < positions t → owner_live p t k ≡ true) → (i : ℕ) → In i homes → kind p i ≡ kind_of t → holder_live p i ≡ true
    unfolding owner_live holder_live has_block
    heir_held o i m s =
        let h = heir i m s in
        let w = h.1.1 in
        let u = (both (leb (first t) h.0) (used p t h.0) w.has).1 in
        live_then t s (rw w.held at (unless (used p t h.0) _ (o h.0 h.1.0) u))
      where
        live_then : (t : Table) → kind p i ≡ kind_of t → (may_be_unowned t && eqb (holder p i) nobody) || live p Jobs (holder p i) ≡ true → holder_live p i ≡ true
        live_then Jobs k r = rw k r
        live_then Channels k r = rw k r

    pub half_held : ((k : ℕ) → k < positions t → owner_live p t k ≡ true) → (i : ℕ) → In i homes → holder_live p i ≡ true
    half_held o i m = fine_held p i t (upto p (area_of t)) (q.fine i m) (heir_held o i m)

    pub half_block : (i : ℕ) → In i homes → Block p t (upto p (area_of t)) i
    half_block i m = block_is p i t (upto p (area_of t)) (q.fine i m)

  -- the other way round: rules that hold of every record and block make a half
  pub half_by : ((k : ℕ) → k < positions t → record_fine p t k ≡ true) → ((i : ℕ) → In i homes → Block p t (upto p (area_of t)) i)
      → ((i : ℕ) → In i homes → block_matched p t i ≡ true) → ((k : ℕ) → k < positions t → entry_matched p t k ≡ true) → ((i : ℕ) → In i homes → holder_live p i ≡ true) → Half
  half_by r b c h o = record {
    records = r;
    fine = λ i m. is_block p i t (upto p (area_of t)) (b i m) (λ s. agrees i (M.heir i m s)) (o i m);
    counts = entries_counts p t (all_by (block_matched p t) homes c) (every_by (entry_matched p t) (positions t) h);
  }
    where
      M : Matched p t
      M = matched p t c h

      agrees : (i : ℕ) → (k : ℕ) × ((k < positions t) × Matches p t k i) → agreed p t i ≡ true
      agrees i x = some_agreed p t i x.0 (record { below = x.1.0; place = x.1.1.place; held = x.1.1.held })
