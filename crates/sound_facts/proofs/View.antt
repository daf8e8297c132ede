-- Soundness gives the facts, and the facts give soundness.
use Prim.Native.Nat.{ℕ, ◌+◌, ◌%◌, ◌≤◌, ◌<◌}
use mathlib.Core.Path.{◌≡◌, refl, sym, subst}
use mathlib.Core.Bool.{Bool, true, false, ◌&&◌, ◌||◌, not}
use mathlib.Core.Logic.{⊎_elim, ◌⊎◌, inl, inr}
use mathlib.Core.List.{List}
use native.Mathlib.Omega.{arith}
use lib.ListN.{length}
use lib.Dec.{leb, eqb}
use lib.IntN.{pos}
use lib.Signed.{le_z}
use borrow.Author.Tests.{leb-true, ltb-true, eqb-true, eqb-false, eq-eqb, ne_eqb, le-leb, lt-leb, lt-ltb, not-true}
use Rattle.words.specs.Words.{word}
use Rattle.words.specs.Each.{In}
use Rattle.words.proofs.Tests.{both, either, failing, unless, lt_or_ge}
use Rattle.words.proofs.Each.{every_at, every_by}
use Rattle.picture.specs.Layout.{nobody, size_word, least_size, greatest_size, current_word, greatest_tag, heap_word, heap_base, positions, width, upto}
use Rattle.picture.specs.Records.{field, number, owner, accumulated, timeout, waited_for, used, ready}
use Rattle.picture.specs.Numbers.{tag, position, live}
use Rattle.picture.specs.declared.Table.{Table}
use Rattle.picture.specs.declared.Table.TheVariants.{Jobs, Channels}
use Rattle.picture.specs.declared.Area.{Area}
use Rattle.picture.specs.declared.Area.TheVariants.{Heap, Transient}
use Rattle.picture.proofs.Records.{used_below, all_zero_at, all_zero_by}
use Rattle.blocks.specs.Header.{size, kind, kind_of, queue_kind, job_kind, free, holder}
use Rattle.blocks.specs.Walk.{good, next, blocks}
use Rattle.blocks.proofs.Walk.{good_is, is_good}
use Rattle.sound_matching.specs.Match.{area_of, first, has_block, block_matched, entry_matched}
use Rattle.sound_matching.proofs.Matched.{Matched, matched, matched_entries, matched_blocks}
use Rattle.sound_records.specs.Rules.{may_be_unowned, zero_base, priority_within, accumulated_within, timeout_within, ends_in_one, blank, positioned, zero_exists, tag_within, tags_differ, tag_once, owner_live, owner_older, zero_unowned, tag_given, wait_allowed, idle_zero}
use Rattle.picture.specs.Layout.{greatest_timeout, without_end}
use Rattle.words.specs.Signed.{eq_z}
use Rattle.words.proofs.Signed.{eq_z_true, eq_eq_z}
use Rattle.sound_areas.specs.Rules.{length_whole, kind_known, start_zero, free_blank, queue_room, tiles, untouched, kind_fits, holder_live}
use Rattle.sound_whole.specs.Whole.{size_stated, seven_zero, heap_stated, last_within, current_ready}
use Rattle.sound.specs.Rule.{Rule}
use Rattle.sound.specs.Sound.{sound}
use Rattle.sound.proofs.Holds.{Holds, sound_holds, sound_by}
use Rattle.sound_facts.proofs.Sound.{Sizes, Queue, Waits, Owned, Entries, Jobs_fine, Channels_fine, Fits, Tiled, Sound, entries_of}

-- an entry with a block is in use
pub has_block_used : (p : List ℕ) (t : Table) (k : ℕ) → has_block p t k ≡ true → used p t k ≡ true
unfolding has_block
has_block_used p t k h = (both (leb (first t) k) (used p t k) h).1

-- from a test to its fact, rule by rule
module _ (p : List ℕ) where
  sizes_by : size_stated p ≡ true → seven_zero p ≡ true → heap_stated p ≡ true → ((t : Table) → last_within p t ≡ true) → Sizes p
  unfolding size_stated seven_zero heap_stated last_within
  sizes_by size nought heap last =
      let a = both (eqb (word p size_word) (length p)) _ size in
      let b = both (leb least_size (length p)) _ a.1 in
      let c = both (leb (length p) greatest_size) _ b.1 in
      let d = both (eqb (word p heap_word % 4) 0) _ heap in
      let e = both (leb 4 (word p heap_word)) _ d.1 in
      let long = eqb-true (word p size_word) (length p) a.0 in
      record {
        long = long;
        least = leb-true _ _ b.0;
        most = leb-true _ _ c.0;
        fours = eqb-true _ _ c.1;
        heap_fours = eqb-true _ _ d.0;
        heap_least = leb-true _ _ e.0;
        heap_most = subst (λ (n : ℕ). heap_base + word p heap_word + 4 ≤ n) long (leb-true _ _ e.1);
        nought = eqb-true _ _ nought;
        last = λ t. leb-true _ _ (last t);
      }

  unused_by : (t : Table) (k f : ℕ) → blank p t k ≡ true → f < width t → used p t k ≡ false → field p t k f ≡ 0
  unfolding blank
  unused_by t k f h l u = all_zero_at p t k (failing _ _ h u) f l

  below : (t : Table) (j k : ℕ) → tag_once p t k ≡ true → j < k → used p t j ≡ true → used p t k ≡ true → tag (number p t j) ≡ tag (number p t k) → ⊥
  unfolding tag_once tags_differ
  below t j k h l u v e =
      let y = every_at (tags_differ p t k) k (unless _ _ h v) j l in
      let w = unless _ _ y u in
      eqb-false _ _ (not-true _ w) e

  once_by : (t : Table) → ((k : ℕ) → k < positions t → tag_once p t k ≡ true) → (j k : ℕ) → used p t j ≡ true → used p t k ≡ true → tag (number p t j) ≡ tag (number p t k) → j ≡ k
  once_by t r j k u v e =
      ⊎_elim (λ l. absurd (below t j k (r k (used_below p t k v)) l u v e))
      (λ (l : k ≤ j). ⊎_elim (λ (m : k < j). absurd (below t k j (r j (used_below p t j u)) m v u (sym e))) (λ (m : j ≤ k). omega arith) (lt_or_ge k j))
      (lt_or_ge j k)

  tagged_by : (t : Table) (k : ℕ) → tag_within p t k ≡ true → has_block p t k ≡ true → (1 ≤ tag (number p t k)) × (tag (number p t k) ≤ greatest_tag)
  unfolding tag_within
  tagged_by t k h c = let a = both _ _ (unless _ _ h c) in (leb-true _ _ a.0, leb-true _ _ a.1)

  owned_by : (t : Table) (k : ℕ) → owner_live p t k ≡ true → used p t k ≡ true → Owned p (may_be_unowned t) (owner p t k)
  unfolding owner_live
  owned_by t k h u = ⊎_elim (λ e. let a = both _ _ e in inl (a.0, eqb-true _ _ a.1)) inr (either _ _ (unless _ _ h u))

  entries_by : (t : Table) → ((k : ℕ) → k < positions t → blank p t k ≡ true) → ((k : ℕ) → k < positions t → positioned p t k ≡ true) → ((k : ℕ) → k < positions t → tag_within p t k ≡ true)
      → ((k : ℕ) → k < positions t → tag_once p t k ≡ true) → ((k : ℕ) → k < positions t → owner_live p t k ≡ true) → ((k : ℕ) → k < positions t → tag_given p t k ≡ true) → Entries p t
  unfolding positioned tag_given
  entries_by t a b c d e f = record {
    unused = λ k g l m u. unused_by t k g (a k l) m u;
    place = λ k u. eqb-true _ _ (unless _ _ (b k (used_below p t k u)) u);
    tagged = λ k h. tagged_by t k (c k (used_below p t k (has_block_used p t k h))) h;
    once = once_by t d;
    owned = λ k u. owned_by t k (e k (used_below p t k u)) u;
    given = λ k u. leb-true _ _ (unless _ _ (f k (used_below p t k u)) u);
  }

  waits_by : (k : ℕ) → wait_allowed p k ≡ true → (waited_for p k ≡ 0) ⊎ Waits p k
  unfolding wait_allowed
  waits_by k h = ⊎_elim
      (λ e. inl (eqb-true _ _ e))
      (λ e. let a = both _ _ e in let b = both _ _ a.1 in inr (record { alive = a.0; other = eqb-false _ _ (not-true _ b.0); forever = eq_z_true (timeout p k) without_end b.1 }))
      (either _ _ h)

  queue_by : (i : ℕ) → queue_room p i ≡ true → kind p i ≡ queue_kind → Queue p i
  unfolding queue_room
  queue_by i h q =
      let a = both _ _ (unless _ _ h (eq-eqb _ _ q)) in
      let b = both _ _ a.1 in
      let c = both _ _ b.1 in
      let d = both _ _ c.1 in
      let e = both _ _ d.1 in
      record { least = leb-true _ _ a.0; most = leb-true _ _ b.0; long = eqb-true _ _ c.0; oldest = ltb-true _ _ d.0; held = leb-true _ _ e.0; nought = eqb-true _ _ e.1 }

  lone_by : (i e : ℕ) → untouched p e i ≡ true → kind p i ≡ 0 → next p i e < e → kind p (next p i e) ≡ 0 → ⊥
  unfolding untouched
  lone_by i e h z l q =
      let a = unless _ _ h (eq-eqb _ _ z) in
      let b = failing _ _ a (lt-leb e (next p i e) l) in
      eqb-false (kind p (next p i e)) 0 (not-true _ b) q

  fits_by : (a : Area) (i : ℕ) → kind_known p i ≡ true → kind_fits p a i ≡ true → Fits a (kind p i)
  unfolding kind_known kind_fits
  fits_by Heap i k h = let a = leb-true (kind p i) 3 k in let b = eqb-false (kind p i) job_kind (not-true _ h) in omega arith
  fits_by Transient i k h =
      let a = leb-true (kind p i) 3 k in
      ⊎_elim (λ e. inl (eqb-true _ _ e)) (λ (e : leb job_kind (kind p i) ≡ true). let b = leb-true job_kind (kind p i) e in inr (omega arith)) (either _ _ h)

  good_by : (i e : ℕ) → length_whole p i ≡ true → tiles p e i ≡ true → good p i e ≡ true
  unfolding length_whole tiles
  good_by i e h g = let a = both _ _ h in good_is p i e (record { whole = eqb-true _ _ a.0; least = leb-true _ _ a.1; within = leb-true _ _ g })

  held_by : (i : ℕ) → holder_live p i ≡ true → (kind p i ≡ 0) ⊎ (((kind p i ≡ job_kind) × (holder p i ≡ nobody)) ⊎ (live p Jobs (holder p i) ≡ true))
  unfolding holder_live
  held_by i h = ⊎_elim (λ e. inl (eqb-true _ _ e)) (λ e. inr (⊎_elim (λ f. let b = both _ _ f in inl (eqb-true _ _ b.0, eqb-true _ _ b.1)) inr (either _ _ e))) (either _ _ h)

  tiled_by : (a : Area) → ((i : ℕ) → In i (blocks p a) → length_whole p i ≡ true) → ((i : ℕ) → In i (blocks p a) → kind_known p i ≡ true) → ((i : ℕ) → In i (blocks p a) → start_zero p i ≡ true)
      → ((i : ℕ) → In i (blocks p a) → free_blank p i ≡ true) → ((i : ℕ) → In i (blocks p a) → queue_room p i ≡ true) → ((i : ℕ) → In i (blocks p a) → tiles p (upto p a) i ≡ true)
      → ((i : ℕ) → In i (blocks p a) → untouched p (upto p a) i ≡ true) → ((i : ℕ) → In i (blocks p a) → kind_fits p a i ≡ true) → ((i : ℕ) → In i (blocks p a) → holder_live p i ≡ true) → Tiled p a
  unfolding start_zero free_blank
  tiled_by a b c d e f g h j k = record {
    whole = λ i m. good_by i (upto p a) (b i m) (g i m);
    fits = λ i m. fits_by a i (c i m) (j i m);
    starts_zero = λ i m. ⊎_elim (λ e. inl (eqb-true _ _ e)) (λ e. inr (eqb-true _ _ e)) (either _ _ (d i m));
    free_zero = λ i m q. let z = both _ _ (unless _ _ (e i m) (eq-eqb _ _ q)) in (eqb-true _ _ z.0, eqb-true _ _ z.1);
    queue = λ i m q. queue_by i (f i m) q;
    lone = λ i m. lone_by i (upto p a) (h i m);
    held = λ i m. held_by i (k i m);
  }

-- a sound picture has all these facts
pub view : (p : List ℕ) → sound p ≡ true → Sound p
unfolding current_ready zero_base priority_within accumulated_within timeout_within ends_in_one zero_exists owner_older zero_unowned idle_zero
view p s =
    let h = sound_holds p s in
    let zero = both _ _ (unless (eqb 0 0) _ (h Rule.zero_exists 0 (omega arith)) refl) in
    let entries : (t : Table) → Entries p t = λ t. entries_by p t (h (Rule.blank t)) (h (Rule.positioned t)) (h (Rule.tag_within t)) (h (Rule.tag_once t)) (h (Rule.owner_live t)) (h (Rule.tag_given t)) in
    record {
      sizes = sizes_by p (h Rule.size_stated) (h Rule.seven_zero) (h Rule.heap_stated) (λ t. h (Rule.last_within t));
      jobs = record {
        entries = entries Jobs;
        zero_lives = zero.0;
        zero_number = eqb-true _ _ zero.1;
        zero_base = eqb-true _ _ (unless (eqb 0 0) _ (h Rule.zero_base 0 (omega arith)) refl);
        zero_unowned = eqb-true _ _ (unless (eqb 0 0) _ (h Rule.zero_unowned 0 (omega arith)) refl);
        urgent = λ k l. leb-true _ _ (h Rule.priority_within k l);
        gained = λ k l. leb-true _ _ (h Rule.accumulated_within k l);
        frames = λ k l. both (le_z without_end (timeout p k)) (le_z (timeout p k) (pos greatest_timeout)) (h Rule.timeout_within k l);
        older = λ k u. ⊎_elim (λ e. inl (eqb-true _ _ e)) (λ e. inr (ltb-true _ _ e)) (either _ _ (unless _ _ (h Rule.owner_older k (used_below p Jobs k u)) u));
        waits = λ k l. waits_by p k (h Rule.wait_allowed k l);
        idle = λ k l. ⊎_elim (λ e. inl (eqb-true _ _ e)) inr (either _ _ (h Rule.idle_zero k l));
      };
      channels = record {
        entries = entries Channels;
        one = λ k u. eqb-true _ _ (unless _ _ (h Rule.ends_in_one k (used_below p Channels k u)) u);
      };
      tiled = λ a. tiled_by p a (h Rule.length_whole a) (h Rule.kind_known a) (h Rule.start_zero a) (h Rule.free_blank a) (h Rule.queue_room a) (h Rule.tiles a) (h Rule.untouched a) (h Rule.kind_fits a) (h Rule.holder_live a);
      matched = λ t. matched p t (h (Rule.block_matched t) (area_of t)) (h (Rule.entry_matched t));
      current = ⊎_elim (λ e. inl (eqb-true _ _ e)) (λ e. let b = both _ _ e in inr (b.0, b.1)) (either _ _ (h Rule.current_ready));
    }

-- from a fact to its test, rule by rule
or_left : (a b : Bool) → a ≡ true → a || b ≡ true
or_left a b h = rw h

or_right : (a b : Bool) → b ≡ true → a || b ≡ true
or_right true b h = refl
or_right false b h = h

when : (a b : Bool) → (a ≡ true → b ≡ true) → not a || b ≡ true
when true b h = h refl
when false b h = refl

or_when : (a b : Bool) → (a ≡ false → b ≡ true) → a || b ≡ true
or_when true b h = refl
or_when false b h = h refl

not_false_is : (b : Bool) → b ≡ false → not b ≡ true
not_false_is b h = rw h

module _ (p : List ℕ) where
  zero_case : (k : ℕ) (b : Bool) → (k ≡ 0 → b ≡ true) → not (eqb k 0) || b ≡ true
  zero_case k b h = when (eqb k 0) b (λ e. h (eqb-true k 0 e))

  owned_is : (may : Bool) (n : ℕ) → Owned p may n → (may && eqb n nobody) || live p Jobs n ≡ true
  owned_is may n (inl e) = or_left (may && eqb n nobody) _ (rw (e.0, eq-eqb n nobody e.1))
  owned_is may n (inr e) = or_right (may && eqb n nobody) _ e

  module _ (t : Table) (E : Entries p t) where
    is_blank : (k : ℕ) → k < positions t → blank p t k ≡ true
    unfolding blank
    is_blank k l = or_when (used p t k) _ (λ u. all_zero_by p t k (λ f m. E.unused k f l m u))

    is_positioned : (k : ℕ) → k < positions t → positioned p t k ≡ true
    unfolding positioned
    is_positioned k l = when (used p t k) _ (λ u. eq-eqb _ _ (E.place k u))

    is_tagged : (k : ℕ) → k < positions t → tag_within p t k ≡ true
    unfolding tag_within
    is_tagged k l = when (has_block p t k) _ (λ c. let g = E.tagged k c in rw (le-leb _ _ g.0, le-leb _ _ g.1))

    is_once : (k : ℕ) → k < positions t → tag_once p t k ≡ true
    unfolding tag_once tags_differ
    is_once k l = when (used p t k) _ (λ u. every_by (tags_differ p t k) k (λ j m. when (used p t j) _ (λ v. not_false_is _ (ne_eqb _ _ (λ e. apart j m (E.once j k v u e))))))
      where
        apart : (j : ℕ) → j < k → j ≡ k → ⊥
        apart j m z = omega arith

    is_owned : (k : ℕ) → k < positions t → owner_live p t k ≡ true
    unfolding owner_live
    is_owned k l = when (used p t k) _ (λ u. owned_is (may_be_unowned t) (owner p t k) (E.owned k u))

    is_given : (k : ℕ) → k < positions t → tag_given p t k ≡ true
    unfolding tag_given
    is_given k l = when (used p t k) _ (λ u. le-leb _ _ (E.given k u))

  module _ (J : Jobs_fine p) where
    is_zero_base : (k : ℕ) → k < positions Jobs → zero_base p k ≡ true
    unfolding zero_base
    is_zero_base k l = zero_case k _ (λ (e : k ≡ 0). rw e (eq-eqb _ _ J.zero_base))

    is_zero_exists : (k : ℕ) → k < positions Jobs → zero_exists p k ≡ true
    unfolding zero_exists
    is_zero_exists k l = zero_case k _ (λ (e : k ≡ 0). rw e (rw (J.zero_lives, eq-eqb _ _ J.zero_number)))

    is_zero_unowned : (k : ℕ) → k < positions Jobs → zero_unowned p k ≡ true
    unfolding zero_unowned
    is_zero_unowned k l = zero_case k _ (λ (e : k ≡ 0). rw e (eq-eqb _ _ J.zero_unowned))

    is_urgent : (k : ℕ) → k < positions Jobs → priority_within p k ≡ true
    unfolding priority_within
    is_urgent k l = le-leb _ _ (J.urgent k l)

    is_gained : (k : ℕ) → k < positions Jobs → accumulated_within p k ≡ true
    unfolding accumulated_within
    is_gained k l = le-leb _ _ (J.gained k l)

    is_frames : (k : ℕ) → k < positions Jobs → timeout_within p k ≡ true
    unfolding timeout_within
    is_frames k l = rw ((J.frames k l).0, (J.frames k l).1)

    is_older : (k : ℕ) → k < positions Jobs → owner_older p k ≡ true
    unfolding owner_older
    is_older k l = when (used p Jobs k) _ (λ u. ⊎_elim (λ e. or_left (eqb (owner p Jobs k) nobody) _ (eq-eqb _ _ e)) (λ e. or_right (eqb (owner p Jobs k) nobody) _ (lt-ltb _ _ e)) (J.older k u))

    is_waits : (k : ℕ) → k < positions Jobs → wait_allowed p k ≡ true
    unfolding wait_allowed
    is_waits k l = ⊎_elim
        (λ e. or_left (eqb (waited_for p k) 0) _ (eq-eqb _ _ e))
        (λ (w : Waits p k). or_right (eqb (waited_for p k) 0) (live p Jobs (waited_for p k) && (not (eqb (waited_for p k) (number p Jobs k)) && eq_z (timeout p k) without_end)) (rw (w.alive, ne_eqb _ _ w.other, eq_eq_z (timeout p k) without_end w.forever)))
        (J.waits k l)

    is_idle : (k : ℕ) → k < positions Jobs → idle_zero p k ≡ true
    unfolding idle_zero
    is_idle k l = ⊎_elim (λ e. or_left (eqb (accumulated p k) 0) _ (eq-eqb _ _ e)) (λ e. or_right (eqb (accumulated p k) 0) _ e) (J.idle k l)

  is_one : Channels_fine p → (k : ℕ) → k < positions Channels → ends_in_one p k ≡ true
  unfolding ends_in_one
  is_one C k l = when (used p Channels k) _ (λ u. eq-eqb _ _ (C.one k u))

  module _ (a : Area) (T : Tiled p a) (i : ℕ) (m : In i (blocks p a)) where
    is_length : length_whole p i ≡ true
    unfolding length_whole
    is_length = let g = is_good p i (upto p a) (T.whole i m) in rw (eq-eqb _ _ g.whole, le-leb _ _ g.least)

    is_tile : tiles p (upto p a) i ≡ true
    unfolding tiles
    is_tile = let g = is_good p i (upto p a) (T.whole i m) in le-leb _ _ g.within

    is_start : start_zero p i ≡ true
    unfolding start_zero
    is_start = ⊎_elim (λ e. or_left (eqb (kind p i) job_kind) _ (eq-eqb _ _ e)) (λ e. or_right (eqb (kind p i) job_kind) _ (eq-eqb _ _ e)) (T.starts_zero i m)

    is_free : free_blank p i ≡ true
    unfolding free_blank
    is_free = when (free p i) _ (λ e. let z = T.free_zero i m (eqb-true _ _ e) in rw (eq-eqb _ _ z.0, eq-eqb _ _ z.1))

    is_queue : queue_room p i ≡ true
    unfolding queue_room
    is_queue = when (eqb (kind p i) queue_kind) _ (λ e. let q = T.queue i m (eqb-true _ _ e) in rw (le-leb _ _ q.least, le-leb _ _ q.most, eq-eqb _ _ q.long, lt-ltb _ _ q.oldest, le-leb _ _ q.held, eq-eqb _ _ q.nought))

    is_lone : untouched p (upto p a) i ≡ true
    unfolding untouched
    is_lone = when (free p i) _ (λ e. ⊎_elim
        (λ (l : next p i (upto p a) < upto p a). or_right (leb (upto p a) (next p i (upto p a))) _ (not_false_is _ (ne_eqb _ _ (T.lone i m (eqb-true _ _ e) l))))
        (λ (l : upto p a ≤ next p i (upto p a)). or_left (leb (upto p a) (next p i (upto p a))) _ (le-leb _ _ l))
        (lt_or_ge (next p i (upto p a)) (upto p a)))

    is_held : holder_live p i ≡ true
    unfolding holder_live
    is_held = ⊎_elim
        (λ e. or_left (free p i) _ (eq-eqb _ _ e))
        (λ e. or_right (free p i) ((eqb (kind p i) job_kind && eqb (holder p i) nobody) || live p Jobs (holder p i)) (⊎_elim
        (λ (f : (kind p i ≡ job_kind) × (holder p i ≡ nobody)). or_left (eqb (kind p i) job_kind && eqb (holder p i) nobody) _ (rw (eq-eqb _ _ f.0, eq-eqb _ _ f.1)))
        (λ f. or_right (eqb (kind p i) job_kind && eqb (holder p i) nobody) _ f)
        e))
        (T.held i m)

  known_by : (a : Area) (i : ℕ) → Fits a (kind p i) → kind_known p i ≡ true
  unfolding kind_known
  known_by Heap i f = le-leb (kind p i) 3 (omega arith)
  known_by Transient i (inl e) = le-leb (kind p i) 3 (omega arith)
  known_by Transient i (inr e) = le-leb (kind p i) 3 (omega arith)

  fits_is : (a : Area) (i : ℕ) → Fits a (kind p i) → kind_fits p a i ≡ true
  unfolding kind_fits
  fits_is Heap i f = not_false_is _ (ne_eqb (kind p i) job_kind (λ e. omega arith))
  fits_is Transient i (inl e) = or_left (free p i) _ (eq-eqb _ _ e)
  fits_is Transient i (inr e) = or_right (free p i) _ (le-leb job_kind (kind p i) (omega arith))

  -- a block outside the table's area is of another kind
  elsewhere : (t : Table) (a : Area) (i : ℕ) → Fits a (kind p i) → (kind p i ≡ kind_of t → ⊥) ⊎ (a ≡ area_of t)
  elsewhere Jobs Heap i f = inl (λ e. omega arith)
  elsewhere Jobs Transient i f = inr refl
  elsewhere Channels Heap i f = inr refl
  elsewhere Channels Transient i (inl e) = inl (λ q. omega arith)
  elsewhere Channels Transient i (inr e) = inl (λ q. omega arith)

  blocks_by : (t : Table) (a : Area) → Matched p t → Tiled p a → (i : ℕ) → In i (blocks p a) → block_matched p t i ≡ true
  unfolding block_matched
  blocks_by t a M T i m = ⊎_elim
      (λ (n : kind p i ≡ kind_of t → ⊥). rw (ne_eqb (kind p i) (kind_of t) n))
      (λ (e : a ≡ area_of t). matched_blocks p t M i (subst (λ (b : Area). In i (blocks p b)) e m))
      (elsewhere t a i (T.fits i m))

-- the facts give every rule by its name
module _ (p : List ℕ) (S : Sound p) where
  is_size : size_stated p ≡ true
  unfolding size_stated
  is_size = let z = S.sizes in rw (eq-eqb _ _ z.long, le-leb _ _ z.least, le-leb _ _ z.most, eq-eqb _ _ z.fours)

  is_nought : seven_zero p ≡ true
  unfolding seven_zero
  is_nought = eq-eqb _ _ S.sizes.nought

  is_heap : heap_stated p ≡ true
  unfolding heap_stated
  is_heap = let z = S.sizes in rw (eq-eqb _ _ z.heap_fours, le-leb _ _ z.heap_least, le-leb (heap_base + word p heap_word + 4) (word p size_word) (rw z.long z.heap_most))

  is_last : (t : Table) → last_within p t ≡ true
  unfolding last_within
  is_last t = le-leb _ _ (S.sizes.last t)

  is_current : current_ready p ≡ true
  unfolding current_ready
  is_current = ⊎_elim
      (λ e. or_left (eqb (word p current_word) nobody) _ (eq-eqb _ _ e))
      (λ e. or_right (eqb (word p current_word) nobody) (live p Jobs (word p current_word) && ready p (position (word p current_word))) (rw (e.0, e.1)))
      S.current

  by_name : (r : Rule) → Holds p r
  by_name Rule.size_stated = is_size
  by_name Rule.seven_zero = is_nought
  by_name Rule.heap_stated = is_heap
  by_name Rule.zero_base = is_zero_base p S.jobs
  by_name Rule.priority_within = is_urgent p S.jobs
  by_name Rule.accumulated_within = is_gained p S.jobs
  by_name Rule.timeout_within = is_frames p S.jobs
  by_name Rule.ends_in_one = is_one p S.channels
  by_name (Rule.blank t) = is_blank p t (entries_of p S t)
  by_name (Rule.positioned t) = is_positioned p t (entries_of p S t)
  by_name Rule.zero_exists = is_zero_exists p S.jobs
  by_name (Rule.tag_within t) = is_tagged p t (entries_of p S t)
  by_name (Rule.tag_once t) = is_once p t (entries_of p S t)
  by_name Rule.length_whole = λ a. is_length p a (S.tiled a)
  by_name Rule.kind_known = λ a i m. known_by p a i ((S.tiled a).fits i m)
  by_name Rule.start_zero = λ a. is_start p a (S.tiled a)
  by_name Rule.free_blank = λ a. is_free p a (S.tiled a)
  by_name Rule.queue_room = λ a. is_queue p a (S.tiled a)
  by_name Rule.tiles = λ a. is_tile p a (S.tiled a)
  by_name Rule.untouched = λ a. is_lone p a (S.tiled a)
  by_name Rule.kind_fits = λ a i m. fits_is p a i ((S.tiled a).fits i m)
  by_name (Rule.block_matched t) = λ a. blocks_by p t a (S.matched t) (S.tiled a)
  by_name (Rule.entry_matched t) = matched_entries p t (S.matched t)
  by_name (Rule.owner_live t) = is_owned p t (entries_of p S t)
  by_name Rule.holder_live = λ a. is_held p a (S.tiled a)
  by_name Rule.owner_older = is_older p S.jobs
  by_name Rule.zero_unowned = is_zero_unowned p S.jobs
  by_name (Rule.tag_given t) = is_given p t (entries_of p S t)
  by_name (Rule.last_within t) = is_last t
  by_name Rule.current_ready = is_current
  by_name Rule.wait_allowed = is_waits p S.jobs
  by_name Rule.idle_zero = is_idle p S.jobs

  -- so such a picture is sound
  pub sound_again : sound p ≡ true
  sound_again = sound_by p by_name
