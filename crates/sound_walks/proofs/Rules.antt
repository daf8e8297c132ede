-- A block is fine: what it says by the block's kind, and that it keeps document 01's rules.
use Prim.Native.Nat.{ℕ}
use mathlib.Core.Path.{◌≡◌, refl}
use mathlib.Core.Bool.{Bool, true, false, ◌&&◌, cond}
use mathlib.Core.Logic.{⊎_elim, ◌⊎◌, inl, inr}
use mathlib.Core.List.{List}
use native.Mathlib.Omega.{arith}
use lib.Dec.{eqb}
use borrow.Author.Tests.{eqb-true, eqb-false, eq-eqb, ne_eqb, leb-true, not-true}
use Rattle.words.proofs.Tests.{both, failing, unless}
use Rattle.picture.specs.Numbers.{live}
use Rattle.picture.specs.declared.Table.{Table}
use Rattle.picture.specs.declared.Table.TheVariants.{Jobs, Channels}
use Rattle.blocks.specs.Header.{kind, plain_kind, queue_kind, job_kind, free, holder, start, kind_of}
use Rattle.sound_matching.specs.Match.{area_of}
use Rattle.sound_matching.specs.Agreed.{agreed}
use Rattle.sound_areas.specs.Rules.{length_whole, kind_known, start_zero, free_blank, queue_room, tiles, untouched, kind_fits, holder_live}
use Rattle.sound_walks.specs.Walks.{free_fine, held_fine, block_fine}

-- the rules of a block but the two that look at the table
pub record Block (p : List ℕ) (t : Table) (e i : ℕ) : Type 0 where
  pub size : length_whole p i ≡ true
  pub tile : tiles p e i ≡ true
  pub known : kind_known p i ≡ true
  pub fits : kind_fits p (area_of t) i ≡ true
  pub start : start_zero p i ≡ true
  pub free : free_blank p i ≡ true
  pub lone : untouched p e i ≡ true
  pub queue : queue_room p i ≡ true

module _ (p : List ℕ) (i : ℕ) where
  -- the kinds of blocks that are not free, by area
  abbrev pub Sorted : Table → Type 0
  Sorted Jobs = (kind p i ≡ job_kind) × (agreed p Jobs i ≡ true)
  Sorted Channels = (start p i ≡ 0) × (((kind p i ≡ plain_kind) × (live p Jobs (holder p i) ≡ true)) ⊎ ((kind p i ≡ queue_kind) × ((queue_room p i ≡ true) × (agreed p Channels i ≡ true))))

  held_sorted : (t : Table) → held_fine p t i ≡ true → Sorted t
  unfolding held_fine
  held_sorted Jobs h = let a = both _ _ h in (eqb-true _ _ a.0, a.1)
  held_sorted Channels h = let a = both (eqb (start p i) 0) _ h in (eqb-true _ _ a.0, go (eqb (kind p i) plain_kind) refl a.1)
    where
      go : (b : Bool) → eqb (kind p i) plain_kind ≡ b → cond b (live p Jobs (holder p i)) (eqb (kind p i) queue_kind && (queue_room p i && agreed p Channels i)) ≡ true
          → ((kind p i ≡ plain_kind) × (live p Jobs (holder p i) ≡ true)) ⊎ ((kind p i ≡ queue_kind) × ((queue_room p i ≡ true) × (agreed p Channels i ≡ true)))
      go true e r = inl (eqb-true _ _ e, r)
      go false e r = let c = both (eqb (kind p i) queue_kind) _ r in inr (eqb-true _ _ c.0, both (queue_room p i) (agreed p Channels i) c.1)

  sorted_held : (t : Table) → Sorted t → held_fine p t i ≡ true
  unfolding held_fine
  sorted_held Jobs s = rw (eq-eqb _ _ s.0, s.1)
  sorted_held Channels s = ⊎_elim
      (λ c. rw (eq-eqb _ _ s.0, eq-eqb _ _ c.0, c.1))
      (λ c. rw (eq-eqb _ _ s.0, ne_eqb (kind p i) plain_kind (λ e. other c.0 e), eq-eqb _ _ c.0, c.1.0, c.1.1))
      s.1
    where
      other : kind p i ≡ queue_kind → kind p i ≡ plain_kind → ⊥
      other a b = omega arith

  -- a fine block is free, or of a kind of its area
  pub record Parts (t : Table) (e : ℕ) : Type 0 where
    pub size : length_whole p i ≡ true
    pub tile : tiles p e i ≡ true
    pub sorts : ((free p i ≡ true) × (free_fine p e i ≡ true)) ⊎ ((free p i ≡ false) × Sorted t)

  pub fine_parts : (t : Table) (e : ℕ) → block_fine p t e i ≡ true → Parts t e
  unfolding block_fine
  fine_parts t e h =
      let a = both (length_whole p i) _ h in
      let b = both (tiles p e i) _ a.1 in
      record { size = a.0; tile = b.0; sorts = go (free p i) refl b.1 }
    where
      go : (b : Bool) → free p i ≡ b → cond b (free_fine p e i) (held_fine p t i) ≡ true → ((free p i ≡ true) × (free_fine p e i ≡ true)) ⊎ ((free p i ≡ false) × Sorted t)
      go true f r = inl (f, r)
      go false f r = inr (f, held_sorted t r)

  parts_fine : (t : Table) (e : ℕ) → Parts t e → block_fine p t e i ≡ true
  unfolding block_fine
  parts_fine t e q = ⊎_elim
      (λ f. rw (q.size, q.tile, f.0, f.1))
      (λ f. rw (q.size, q.tile, f.0, sorted_held t f.1))
      q.sorts

  fits_free : (t : Table) → kind p i ≡ 0 → kind_fits p (area_of t) i ≡ true
  unfolding kind_fits
  fits_free Jobs k = rw k
  fits_free Channels k = rw k

  blank_start : free p i ≡ true → free_blank p i ≡ true → start p i ≡ 0
  unfolding free_blank
  blank_start f h = eqb-true _ _ (both (eqb (holder p i) 0) (eqb (start p i) 0) (unless (free p i) _ h f)).1

  module _ (t : Table) (e : ℕ) (w : length_whole p i ≡ true) (l : tiles p e i ≡ true) where
    free_block : free p i ≡ true → free_fine p e i ≡ true → Block p t e i
    unfolding free_fine kind_known start_zero queue_room
    free_block f h =
        let a = both (free_blank p i) (untouched p e i) h in
        let k : kind p i ≡ 0 = eqb-true (kind p i) 0 f in
        record { size = w; tile = l; known = rw k; fits = fits_free t k; start = rw k (eq-eqb (start p i) 0 (blank_start f a.0)); free = a.0; lone = a.1; queue = rw k }

  module _ (e : ℕ) (w : length_whole p i ≡ true) (l : tiles p e i ≡ true) where
    job_block : kind p i ≡ job_kind → Block p Jobs e i
    unfolding kind_known kind_fits start_zero free_blank untouched queue_room
    job_block k = record { size = w; tile = l; known = rw k; fits = rw k; start = rw k; free = rw k; lone = rw k; queue = rw k }

    plain_block : start p i ≡ 0 → kind p i ≡ plain_kind → Block p Channels e i
    unfolding kind_known kind_fits start_zero free_blank untouched queue_room
    plain_block s k = record { size = w; tile = l; known = rw k; fits = rw k; start = rw k (eq-eqb (start p i) 0 s); free = rw k; lone = rw k; queue = rw k }

    queue_block : start p i ≡ 0 → kind p i ≡ queue_kind → queue_room p i ≡ true → Block p Channels e i
    unfolding kind_known kind_fits start_zero free_blank untouched
    queue_block s k q = record { size = w; tile = l; known = rw k; fits = rw k; start = rw k (eq-eqb (start p i) 0 s); free = rw k; lone = rw k; queue = q }

  held_block : (t : Table) (e : ℕ) → length_whole p i ≡ true → tiles p e i ≡ true → Sorted t → Block p t e i
  held_block Jobs e w l s = job_block e w l s.0
  held_block Channels e w l s = ⊎_elim (λ c. plain_block e w l s.0 c.0) (λ c. queue_block e w l s.0 c.0 c.1.0) s.1

  -- a fine block keeps the rules that look at the block alone
  pub block_is : (t : Table) (e : ℕ) → block_fine p t e i ≡ true → Block p t e i
  block_is t e h =
      let q = fine_parts t e h in
      ⊎_elim (λ f. free_block t e q.size q.tile f.0 f.1) (λ f. held_block t e q.size q.tile f.1) q.sorts

  -- and agrees with a record where it is of the table's kind
  pub fine_agreed : (t : Table) (e : ℕ) → block_fine p t e i ≡ true → kind p i ≡ kind_of t → agreed p t i ≡ true
  fine_agreed t e h k = ⊎_elim (λ f. absurd (not_free t k (eqb-true (kind p i) 0 f.0))) (λ f. sorted_agreed t k f.1) (fine_parts t e h).sorts
    where
      not_free : (t : Table) → kind p i ≡ kind_of t → kind p i ≡ 0 → ⊥
      not_free Jobs k z = omega arith
      not_free Channels k z = omega arith

      sorted_agreed : (t : Table) → kind p i ≡ kind_of t → Sorted t → agreed p t i ≡ true
      sorted_agreed Jobs k s = s.1
      sorted_agreed Channels k s = ⊎_elim (λ c. absurd (let z = c.0 in omega arith)) (λ c. c.1.1) s.1

  -- its owner is live where that holds of the table's kind
  pub fine_held : (t : Table) (e : ℕ) → block_fine p t e i ≡ true → (kind p i ≡ kind_of t → holder_live p i ≡ true) → holder_live p i ≡ true
  unfolding holder_live
  fine_held t e h own = ⊎_elim (λ f. rw f.0) (λ f. held t own f.1) (fine_parts t e h).sorts
    where
      held : (t : Table) → (kind p i ≡ kind_of t → holder_live p i ≡ true) → Sorted t → holder_live p i ≡ true
      held Jobs o s = o s.0
      held Channels o s = ⊎_elim (λ c. rw (c.0, c.1)) (λ c. o c.0) s.1

  -- the other way round
  free_or_not : (b : Bool) → free p i ≡ b → (free p i ≡ true) ⊎ (free p i ≡ false)
  free_or_not true h = inl h
  free_or_not false h = inr h

  sorted : (t : Table) (e : ℕ) → Block p t e i → free p i ≡ false → (kind p i ≡ kind_of t → agreed p t i ≡ true) → holder_live p i ≡ true → Sorted t
  unfolding kind_known kind_fits start_zero holder_live
  sorted Jobs e b f m o =
      let a = leb-true (kind p i) 3 b.known in
      let c = leb-true job_kind (kind p i) (failing (free p i) _ b.fits f) in
      let k : kind p i ≡ job_kind = omega arith in
      (k, m k)
  sorted Channels e b f m o =
      let a = leb-true (kind p i) 3 b.known in
      let n = not-true (eqb (kind p i) job_kind) b.fits in
      let x = eqb-false (kind p i) job_kind n in
      let y = eqb-false (kind p i) 0 f in
      let s = eqb-true (start p i) 0 (failing (eqb (kind p i) job_kind) _ b.start n) in
      (s, go (eqb (kind p i) plain_kind) refl)
    where
      go : (c : Bool) → eqb (kind p i) plain_kind ≡ c → ((kind p i ≡ plain_kind) × (live p Jobs (holder p i) ≡ true)) ⊎ ((kind p i ≡ queue_kind) × ((queue_room p i ≡ true) × (agreed p Channels i ≡ true)))
      go true c = let k = eqb-true (kind p i) plain_kind c in inl (k, rw (k) at o)
      go false c =
          let z = eqb-false (kind p i) plain_kind c in
          let a = leb-true (kind p i) 3 b.known in
          let x = eqb-false (kind p i) job_kind (not-true (eqb (kind p i) job_kind) b.fits) in
          let y = eqb-false (kind p i) 0 f in
          let k : kind p i ≡ queue_kind = omega arith in
          inr (k, (b.queue, m k))

  pub is_block : (t : Table) (e : ℕ) → Block p t e i → (kind p i ≡ kind_of t → agreed p t i ≡ true) → holder_live p i ≡ true → block_fine p t e i ≡ true
  unfolding free_fine
  is_block t e b m o = parts_fine t e (record {
    size = b.size;
    tile = b.tile;
    sorts = ⊎_elim (λ f. inl (f, rw (b.free, b.lone))) (λ f. inr (f, sorted t e b f m o)) (free_or_not (free p i) refl);
  })
