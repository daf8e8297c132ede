-- Writing in one queue's room: every other block keeps every longword, and a sound picture stays sound.
use Prim.Native.Nat.{ℕ, ◌+◌, ◌-◌, ◌*◌, ◌/◌, ◌%◌, ◌≤◌, ◌<◌}
use mathlib.Core.Path.{◌≡◌, refl, sym, ap, ◌∙◌, subst}
use mathlib.Core.Bool.{Bool, true, false}
use mathlib.Core.Logic.{⊎_elim, ◌⊎◌, inl, inr}
use mathlib.Core.List.{List}
use lib.ListN.{length}
use native.Mathlib.Omega.{arith}
use Rattle.words.specs.Words.{word}
use Rattle.words.specs.Each.{In}
use Rattle.words.proofs.Tests.{lt_or_ge}
use Rattle.picture.specs.Layout.{nobody, heap_base, heap_word, size_word, from, upto}
use Rattle.picture.specs.Numbers.{live}
use Rattle.picture.specs.declared.Table.{Table}
use Rattle.picture.specs.declared.Table.TheVariants.{Jobs, Channels}
use Rattle.picture.specs.declared.Area.{Area}
use Rattle.picture.specs.declared.Area.TheVariants.{Heap, Transient}
use Rattle.blocks.specs.Header.{header_width, queue_length_field, queue_oldest_field, queue_count_field, queue_zero_field, size, kind, queue_kind, job_kind, holder, start, queue_length, queue_oldest, queue_count, queue_zero, rounded}
use Rattle.blocks.specs.Walk.{good, next, starts, blocks}
use Rattle.blocks.proofs.Walk.{Good, is_good, next_good}
use Rattle.blocks.proofs.Starts.{starts_in, next_same}
use Rattle.headers.specs.Header.{Outside}
use Rattle.headers.proofs.Header.{same_or_not}
use Rattle.sound_matching.specs.Match.{area_of}
use Rattle.sound_facts.proofs.Sound.{Sizes, Queue, Fits, Tiled, Sound}
use Rattle.sound_facts.proofs.Same.{Lives, next_in, within, AreaSame, blocks_same, kind_same, holder_same, tiled_same, MatchSame, matched_same}
use Rattle.law_blocks.proofs.Tables.{TablesSame, mask_same, owner_same, base_same, lives_on, sizes_same, jobs_same, channels_same, current_same}
use Rattle.channels.proofs.Found.{Held}
use Rattle.law_queues.proofs.Walk.{walk_same, blocks_apart}

-- q is p with the room of the queue at i written, but for its length
pub record Written (p q : List ℕ) (i : ℕ) : Type 0 where
  pub long : length q ≡ length p
  pub other : (k : ℕ) → Outside (i + queue_oldest_field) (i + size p i / 4) k → word q k ≡ word p k
  pub queue : Queue q i

module _ (p q : List ℕ) (k i : ℕ) (S : Sound p) (H : Held p k i) (W : Written p q i) where
  pub tables : TablesSame p q
  tables = record { words = λ j l. let b = H.low in W.other j (inl (omega arith)); long = W.long }

  ends : upto q Heap ≡ upto p Heap
  ends = ap (λ (x : ℕ). heap_base + x) (tables.words heap_word (omega arith))

  -- every longword of another block
  pub block_same : (j : ℕ) → In j (blocks p Heap) → (j ≡ i → ⊥) → (w : ℕ) → j ≤ w → w < j + size p j / 4 → word q w ≡ word p w
  block_same j m n w a b = ⊎_elim
      (λ (l : j < i).
      let z = next_good p j (upto p Heap) ((S.tiled Heap).whole j m) in
      let y = blocks_apart p heap_base (upto p Heap) j i m H.there l in
      W.other w (inl (omega arith)))
      (λ (l : i ≤ j).
      let z = next_good p i (upto p Heap) ((S.tiled Heap).whole i H.there) in
      let o : i < j = omega arith in
      let y = blocks_apart p heap_base (upto p Heap) i j H.there m o in
      W.other w (inr (omega arith)))
      (lt_or_ge j i)

  -- every header
  header_same : (j f : ℕ) → In j (blocks p Heap) → f < header_width → word q (j + f) ≡ word p (j + f)
  header_same j f m l = ⊎_elim
      (λ (e : j ≡ i). W.other (j + f) (inl (omega arith)))
      (λ n. let g = (is_good p j (upto p Heap) ((S.tiled Heap).whole j m)).least in block_same j m n (j + f) (omega arith) (omega arith))
      (same_or_not j i)

  size_same : (j : ℕ) → In j (blocks p Heap) → size q j ≡ size p j
  size_same j m = ⊎_elim
      (λ (e : j ≡ i). W.other j (inl (omega arith)))
      (λ n. let g = (is_good p j (upto p Heap) ((S.tiled Heap).whole j m)).least in block_same j m n j (omega arith) (omega arith))
      (same_or_not j i)

  pub blocks_stay : blocks q Heap ≡ blocks p Heap
  blocks_stay = rw ends (walk_same p q heap_base (upto p Heap) size_same)

  good_same : (j : ℕ) → In j (blocks p Heap) → good q j (upto p Heap) ≡ good p j (upto p Heap)
  unfolding good
  good_same j m = rw (size_same j m)

  queue_same : (j : ℕ) → In j (blocks p Heap) → kind p j ≡ queue_kind → Queue q j
  queue_same j m z = ⊎_elim
      (λ (e : j ≡ i). rw e W.queue)
      (λ (n : j ≡ i → ⊥).
      let u = (S.tiled Heap).queue j m z in
      let l : 8 ≤ size p j / 4 = let y = u.long in let o = u.least in rw y (omega arith) in
      let a : queue_length q j ≡ queue_length p j = block_same j m n (j + queue_length_field) (omega arith) (omega arith) in
      let b : queue_oldest q j ≡ queue_oldest p j = block_same j m n (j + queue_oldest_field) (omega arith) (omega arith) in
      let c : queue_count q j ≡ queue_count p j = block_same j m n (j + queue_count_field) (omega arith) (omega arith) in
      let d : queue_zero q j ≡ queue_zero p j = block_same j m n (j + queue_zero_field) (omega arith) (omega arith) in
      record { least = rw a u.least; most = rw a u.most; long = rw (size_same j m, a) u.long; oldest = rw (b, a) u.oldest; held = rw (c, a) u.held; nought = rw d u.nought })
      (same_or_not j i)

  lives : Lives p q
  lives = lives_on p q tables

  heap_tiled : Tiled q Heap
  heap_tiled =
      let T = S.tiled Heap in
      let old : (j : ℕ) → In j (blocks q Heap) → In j (blocks p Heap) = λ j m. subst (In j) blocks_stay m in
      let K : (j : ℕ) → In j (blocks p Heap) → kind q j ≡ kind p j = λ j m. header_same j 1 m (omega arith) in
      let O : (j : ℕ) → In j (blocks p Heap) → holder q j ≡ holder p j = λ j m. header_same j 2 m (omega arith) in
      let B : (j : ℕ) → In j (blocks p Heap) → start q j ≡ start p j = λ j m. header_same j 3 m (omega arith) in
      record {
        whole = λ j m. rw ends (good_same j (old j m) ∙ T.whole j (old j m));
        fits = λ j m. rw (K j (old j m)) (T.fits j (old j m));
        starts_zero = λ j m. rw (K j (old j m), B j (old j m)) (T.starts_zero j (old j m));
        free_zero = λ j m e. rw (O j (old j m), B j (old j m)) (T.free_zero j (old j m) (sym (K j (old j m)) ∙ e));
        queue = λ j m e. queue_same j (old j m) (sym (K j (old j m)) ∙ e);
        lone = λ j m e n z. lone_same j (old j m) (sym (K j (old j m)) ∙ e) (rw ends at n) (rw ends at z);
        held = λ j m. rw (K j (old j m), O j (old j m)) (⊎_elim inl (λ x. inr (⊎_elim inl (λ y. inr (lives (holder p j) y)) x)) (T.held j (old j m)));
      }
    where
      lone_same : (j : ℕ) → In j (blocks p Heap) → kind p j ≡ 0 → next q j (upto p Heap) < upto p Heap → kind q (next q j (upto p Heap)) ≡ 0 → ⊥
      lone_same j m e n z =
          let x : next q j (upto p Heap) ≡ next p j (upto p Heap) = next_same p q j (upto p Heap) (size_same j m) in
          let y : next p j (upto p Heap) < upto p Heap = rw x at n in
          let w = next_in p heap_base (upto p Heap) j m y in
          (S.tiled Heap).lone j m e y (sym (header_same (next p j (upto p Heap)) 1 w (omega arith)) ∙ (rw x at z))

  transient_same : AreaSame p q Transient
  transient_same = record {
    starts = ends;
    stops = tables.words size_word (omega arith);
    same = λ j l m. let h = H.inside in W.other j (inr (omega arith));
  }

  matching : (t : Table) → MatchSame p q t
  matching Jobs = record {
    mask = mask_same p q tables Jobs;
    owners = owner_same p q tables Jobs;
    bases = base_same p q tables Jobs;
    walk = blocks_same p q Transient transient_same;
    kinds = kind_same p q Transient transient_same (S.tiled Transient);
    holders = holder_same p q Transient transient_same (S.tiled Transient);
  }
  matching Channels = record {
    mask = mask_same p q tables Channels;
    owners = owner_same p q tables Channels;
    bases = base_same p q tables Channels;
    walk = blocks_stay;
    kinds = λ j m. header_same j 1 m (omega arith);
    holders = λ j m. header_same j 2 m (omega arith);
  }

  tiled : (a : Area) → Tiled q a
  tiled Heap = heap_tiled
  tiled Transient = tiled_same p q Transient transient_same (S.tiled Transient) lives

  -- a sound picture stays sound
  pub writing_keeps_sound : Sound q
  writing_keeps_sound = record {
    sizes = sizes_same p q tables S.sizes;
    jobs = jobs_same p q tables S.jobs;
    channels = channels_same p q tables S.channels;
    tiled = tiled;
    matched = λ t. matched_same p q t (matching t) (S.matched t);
    current = current_same p q tables S.current;
  }
