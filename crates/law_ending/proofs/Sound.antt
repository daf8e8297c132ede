-- Ending a tree keeps a sound picture sound.
use Prim.Native.Nat.{ℕ, zero, suc, ◌+◌, ◌-◌, ◌*◌, ◌/◌, ◌%◌, ◌≤◌, ◌<◌}
use mathlib.Core.Path.{◌≡◌, refl, sym, ap, ◌∙◌, subst}
use mathlib.Core.Bool.{Bool, true, false, ◌&&◌, ◌||◌, not, cond}
use mathlib.Core.Logic.{⊎_elim, ◌⊎◌, inl, inr}
use mathlib.Core.List.{List}
use lib.ListN.{length}
use lib.Dec.{eqb, leb}
use lib.IntN.{pos}
use native.Mathlib.Omega.{arith}
use borrow.Author.Tests.{eq-eqb, ne_eqb, eqb-true, eqb-false, leb-true}
use Rattle.words.specs.Words.{word}
use Rattle.words.specs.Bits.{bit}
use Rattle.words.specs.Each.{In}
use Rattle.words.proofs.Tests.{both, false_true, lt_or_ge, otherwise}
use Rattle.picture.specs.Layout.{nobody, size_word, current_word, last_word, heap_word, heap_base, positions, width, first_record, from, upto}
use Rattle.picture.specs.Records.{field, number_field, owner_field, base_field, priority_field, accumulated_field, timeout_field, wait_field, key_field, ending_field, number, owner, base, priority, accumulated, timeout, waited_for, ending, used, ready}
use Rattle.picture.specs.Numbers.{tag, position, live}
use Rattle.picture.specs.declared.Table.{Table}
use Rattle.picture.specs.declared.Table.TheVariants.{Jobs, Channels}
use Rattle.picture.specs.declared.Area.{Area}
use Rattle.picture.specs.declared.Area.TheVariants.{Heap, Transient}
use Rattle.picture.proofs.Records.{used_below}
use Rattle.picture.proofs.Numbers.{Live, live_is, is_live}
use Rattle.blocks.specs.Header.{kind_field, holder_field, start_field, queue_length_field, queue_oldest_field, queue_count_field, queue_zero_field, size, kind, kind_of, queue_kind, job_kind, free, holder, start, queue_length, queue_oldest, queue_count, queue_zero, rounded}
use Rattle.blocks.specs.Walk.{good, next, starts, blocks}
use Rattle.headers.proofs.Header.{same_or_not}
use Rattle.law_areas.proofs.Row.{block_of}
use Rattle.sound_matching.specs.Match.{first, area_of, has_block}
use Rattle.sound_matching.proofs.Counts.{Matches}
use Rattle.sound_matching.proofs.Matched.{Matched}
use Rattle.sound_records.specs.Rules.{may_be_unowned}
use Rattle.picture.specs.Layout.{greatest_priority, hold}
use Rattle.picture.proofs.Timeout.{Timely, timely_zero, timeout_same, timeout_zero, ready_has, ready_by}
use Rattle.picture.proofs.Members.{spares_size, spares_heap, spares_last}
use Rattle.sound.specs.Sound.{sound}
use Rattle.sound_facts.proofs.Sound.{Sizes, Queue, Waits, Owned, Entries, Jobs_fine, Channels_fine, Fits, Tiled, Current, Sound}
use Rattle.sound_facts.proofs.View.{has_block_used, view, sound_again}
use Rattle.sound_facts.proofs.Sizes.{Fixed, sizes_kept}
use Rattle.freeing.specs.Sweep.{named, goes}
use Rattle.tree.specs.Tree.{tree}
use Rattle.law_owners.proofs.Owners.{owners_of}
use Rattle.law_owners.proofs.Members.{tree_unowned}
use Rattle.emptying.specs.Taken.{waits, channels_of}
use Rattle.ending.specs.Ended.{returned, ended}
use Rattle.law_ending.proofs.Taken.{going, Taken, taken_tables, taken_above, taken_from, taken_gains, taken_priority}
use Rattle.law_ending.proofs.Areas.{Kept, extra, returned_long, returned_low, area_kept}
use Rattle.law_ending.proofs.Owned.{tree_fits, channels_fit, named_is, is_named, not_named, owner_outside, block_goes}

-- a block in use that does not go is not the extra one, and its owner is not of the mask
pub not_going : (p : List ℕ) (m a i : ℕ) → free p i ≡ false → goes p m a i ≡ false → named m (holder p i) ≡ false
unfolding goes
not_going p m a i u g = go (eqb i a) (named m (holder p i)) (rw u at g)
  where
    go : (b c : Bool) → b || c ≡ false → c ≡ false
    go true c h = absurd (false_true (sym h))
    go false c h = h

-- a position that is and stays in use; one that goes
module _ (p : List ℕ) (S : Sound p) (t key : ℕ) (top : used p Jobs t ≡ true) (other : t ≡ 0 → ⊥) where
  m : ℕ
  m = tree p t

  c : ℕ
  c = channels_of p m

  a : ℕ
  a = base p Jobs t / 4

  y : List ℕ
  y = returned p m a

  q : List ℕ
  q = ended p t key

  long_y : heap_base ≤ length y
  unfolding y
  long_y = let l = S.sizes.least in rw (returned_long p S m a) (omega arith)

  pub ended_tables : Taken p (ended p t key) (tree p t) (channels_of p (tree p t)) key
  unfolding ended y m c a
  ended_tables = taken_from p y (ended p t key) m c key (returned_long p S m a) (returned_low p S m a) (taken_tables y m c key long_y (tree_fits p t) (channels_fit p m))

  T : Taken p q m c key
  unfolding q m c
  T = ended_tables

  pub ended_area : (r : Area) → Kept p (ended p t key) (from p r) (upto p r) (tree p t) (extra (base p Jobs t / 4) r)
  unfolding ended y m c a
  ended_area r = area_kept p S m a (ended p t key) (λ k l. taken_above y m c key long_y (tree_fits p t) (channels_fit p m) k l) r

  K : (r : Area) → Kept p q (from p r) (upto p r) m (extra a r)
  unfolding q m a
  K = ended_area

  -- an entry of q was one of p, and does not go
  was : (t' : Table) (k : ℕ) → used q t' k ≡ true → (used p t' k ≡ true) × (bit (going m c t') k ≡ false)
  was t' k u =
      let b : bit (going m c t') k ≡ false = otherwise (bit (going m c t') k) (λ h. false_true (sym (T.dies t' k h) ∙ u)) in
      (sym (T.stays t' k b) ∙ u, b)

  -- a live job that is not of the tree stays live
  live_stays : (n : ℕ) → live p Jobs n ≡ true → named m n ≡ false → live q Jobs n ≡ true
  live_stays n l h =
      let v = live_is p Jobs n l in
      let w = used_below p Jobs (position n) v.used in
      let b = not_named m n w h in
      is_live q Jobs n (record { used = T.stays Jobs (position n) b ∙ v.used; names = T.same Jobs (position n) number_field w (omega arith) b ∙ v.names })

  -- the areas stand where they did
  same_from : (r : Area) → from q r ≡ from p r
  same_from Heap = refl
  same_from Transient = rw (T.head heap_word (omega arith) (λ z. omega arith) (λ t. spares_heap t))

  same_upto : (r : Area) → upto q r ≡ upto p r
  same_upto Heap = rw (T.head heap_word (omega arith) (λ z. omega arith) (λ t. spares_heap t))
  same_upto Transient = T.head size_word (omega arith) (λ z. omega arith) (λ t. spares_size t)

  same_last : (t' : Table) → word q (last_word t') ≡ word p (last_word t')
  same_last Jobs = T.head (last_word Jobs) (omega arith) (λ z. omega arith) (λ t. spares_last t Jobs)
  same_last Channels = T.head (last_word Channels) (omega arith) (λ z. omega arith) (λ t. spares_last t Channels)

  sizes_again : Sizes q
  sizes_again = sizes_kept p q T.long (λ i (x : Fixed i). let l = x.low in T.head i (omega arith) x.not_current x.spared)
      (elim [ Jobs ↦ rw (same_last Jobs) (S.sizes.last Jobs) | Channels ↦ rw (same_last Channels) (S.sizes.last Channels) ])
      S.sizes

  has_block_was : (t' : Table) (k : ℕ) → has_block q t' k ≡ true → has_block p t' k ≡ true
  unfolding has_block
  has_block_was t' k h = let b = both (leb (first t') k) (used q t' k) h in rw (b.0, (was t' k b.1).0)

  has_block_stays : (t' : Table) (k : ℕ) → bit (going m c t') k ≡ false → has_block p t' k ≡ true → has_block q t' k ≡ true
  unfolding has_block
  has_block_stays t' k b h = let d = both (leb (first t') k) (used p t' k) h in rw (d.0, T.stays t' k b ∙ d.1)

  owned_stays : (t' : Table) (k : ℕ) → used p t' k ≡ true → bit (going m c t') k ≡ false → Owned p (may_be_unowned t') (owner p t' k) → Owned q (may_be_unowned t') (owner p t' k)
  unfolding m c
  owned_stays t' k u b o = ⊎_elim inl (λ l. inr (live_stays (owner p t' k) l (owner_outside p S t t' k u b l))) o

  -- the records of both tables
  entries_kept : (t' : Table) → ((k f : ℕ) → k < positions t' → f < width t' → used p t' k ≡ false → bit (going m c t') k ≡ false → field q t' k f ≡ 0) → word q (last_word t') ≡ word p (last_word t') → Entries p t' → Entries q t'
  entries_kept t' z l E = record {
    unused = λ k f h w u. unused_by k f h w u (bit (going m c t') k) refl;
    place = λ k u. let v = was t' k u in rw (T.same t' k number_field (used_below q t' k u) (omega arith) v.1) (E.place k v.0);
    tagged = λ k h. let u = has_block_used q t' k h in let v = was t' k u in rw (T.same t' k number_field (used_below q t' k u) (omega arith) v.1) (E.tagged k (has_block_was t' k h));
    once = λ i k g h e. let v = was t' i g in let w = was t' k h in E.once i k v.0 w.0 (rw (T.same t' i number_field (used_below q t' i g) (omega arith) v.1, T.same t' k number_field (used_below q t' k h) (omega arith) w.1) at e);
    owned = λ k u. let v = was t' k u in rw (T.same t' k owner_field (used_below q t' k u) (omega arith) v.1) (owned_stays t' k v.0 v.1 (E.owned k v.0));
    given = λ k u. let v = was t' k u in rw (T.same t' k number_field (used_below q t' k u) (omega arith) v.1, l) (E.given k v.0);
  }
    where
      unused_by : (k f : ℕ) → k < positions t' → f < width t' → used q t' k ≡ false → (b : Bool) → bit (going m c t') k ≡ b → field q t' k f ≡ 0
      unused_by k f h w u true b = T.blank t' k f h w b
      unused_by k f h w u false b = z k f h w (sym (T.stays t' k b) ∙ u) b

  -- a position out of use waits for nobody
  waits_used : (k : ℕ) → used p Jobs k ≡ false → waits p m k ≡ false
  unfolding waits
  waits_used k u = rw u

  not_waiting : (k : ℕ) → used p Jobs k ≡ true → bit m k ≡ false → (waited_for p k ≡ 0 → ⊥) → waits p m k ≡ false → named m (waited_for p k) ≡ false
  unfolding waits
  not_waiting k u b n h = rw (u, b, ne_eqb (waited_for p k) 0 n) at h

  job_unused : (k f : ℕ) → k < positions Jobs → f < width Jobs → used p Jobs k ≡ false → bit m k ≡ false → field q Jobs k f ≡ 0
  job_unused k f l h u b =
      let E = S.jobs.entries.unused k in
      let w = waits_used k u in
      ⊎_elim
      (λ (e : f ≡ timeout_field). subst (λ (g : ℕ). field q Jobs k g ≡ 0) (sym e) (T.frames k l b ∙ rw w (E timeout_field l (omega arith) u)))
      (λ (n₅ : f ≡ timeout_field → ⊥). ⊎_elim
      (λ (e : f ≡ wait_field). subst (λ (g : ℕ). field q Jobs k g ≡ 0) (sym e) (T.wait k l b ∙ rw w (E wait_field l (omega arith) u)))
      (λ (n₆ : f ≡ wait_field → ⊥). ⊎_elim
      (λ (e : f ≡ key_field). subst (λ (g : ℕ). field q Jobs k g ≡ 0) (sym e) (T.gets k l b ∙ rw w (E key_field l (omega arith) u)))
      (λ (n₇ : f ≡ key_field → ⊥). T.same_job k f l h n₅ n₆ n₇ b ∙ E f l h u)
      (same_or_not f key_field))
      (same_or_not f wait_field))
      (same_or_not f timeout_field)

  zero_stays : bit m 0 ≡ false
  unfolding m
  zero_stays = tree_unowned p (owners_of p S.jobs) t 0 (omega arith) S.jobs.zero_unowned (λ e. other (sym e))

  -- a job's timeout is 0 or what it was
  timeout_is : (k : ℕ) → k < positions Jobs → (timeout q k ≡ pos 0) ⊎ (timeout q k ≡ timeout p k)
  timeout_is k l = go (bit m k) refl
    where
      by : (w : Bool) → field q Jobs k timeout_field ≡ cond w 0 (field p Jobs k timeout_field) → (timeout q k ≡ pos 0) ⊎ (timeout q k ≡ timeout p k)
      by true e = inl (timeout_zero q k e)
      by false e = inr (timeout_same p q k e)

      go : (b : Bool) → bit m k ≡ b → (timeout q k ≡ pos 0) ⊎ (timeout q k ≡ timeout p k)
      go true b = inl (timeout_zero q k (T.blank Jobs k timeout_field l (omega arith) b))
      go false b = by (waits p m k) (T.frames k l b)

  waits_kept : (k : ℕ) → k < positions Jobs → (waited_for q k ≡ 0) ⊎ Waits q k
  waits_kept k l = go (bit m k) refl
    where
      still : bit m k ≡ false → waits p m k ≡ false → (used p Jobs k ≡ true) → (waited_for p k ≡ 0 → ⊥) → Waits p k → Waits q k
      still b w u n W =
          let e : waited_for q k ≡ waited_for p k = T.wait k l b ∙ rw w in
          record {
            alive = rw e (live_stays (waited_for p k) W.alive (not_waiting k u b n w));
            other = λ z. W.other (sym e ∙ z ∙ T.same Jobs k number_field l (omega arith) b);
            forever = timeout_same p q k (T.frames k l b ∙ rw w) ∙ W.forever;
          }

      by : bit m k ≡ false → (w : Bool) → waits p m k ≡ w → (u : Bool) → used p Jobs k ≡ u → (waited_for q k ≡ 0) ⊎ Waits q k
      by b true w u v = inl (T.wait k l b ∙ rw w)
      by b false w false v = inl (T.wait k l b ∙ rw w (S.jobs.entries.unused k wait_field l (omega arith) v))
      by b false w true v = ⊎_elim
          (λ e. inl (T.wait k l b ∙ rw w e))
          (λ W. ⊎_elim (λ (e : waited_for p k ≡ 0). inl (T.wait k l b ∙ rw w e)) (λ n. inr (still b w v n W)) (same_or_not (waited_for p k) 0))
          (S.jobs.waits k l)

      go : (b : Bool) → bit m k ≡ b → (waited_for q k ≡ 0) ⊎ Waits q k
      go true b = inl (T.blank Jobs k wait_field l (omega arith) b)
      go false b = by b (waits p m k) refl (used p Jobs k) refl

  ready_kept : (k : ℕ) → k < positions Jobs → bit m k ≡ false → ready p k ≡ true → ready q k ≡ true
  ready_kept k l b r =
      let d = ready_has p k r in
      ready_by q k (rw (taken_priority p q m c key T k l b) d.0) (⊎_elim (λ e. e) (λ e. e ∙ d.1) (timeout_is k l))

  jobs_kept : Jobs_fine q
  jobs_kept =
      let J = S.jobs in
      let first_of : (f : ℕ) → f ≤ base_field → field q Jobs 0 f ≡ field p Jobs 0 f = λ f h. T.same Jobs 0 f (omega arith) h zero_stays in
      record {
        entries = entries_kept Jobs job_unused (same_last Jobs) J.entries;
        zero_lives = T.stays Jobs 0 zero_stays ∙ J.zero_lives;
        zero_number = first_of number_field (omega arith) ∙ J.zero_number;
        zero_base = first_of base_field (omega arith) ∙ J.zero_base;
        zero_unowned = first_of owner_field (omega arith) ∙ J.zero_unowned;
        urgent = λ k l. urgent_by k l (bit m k) refl;
        gained = λ k l. gained_by k l (bit m k) refl;
        frames = λ k l. ⊎_elim (λ (e : timeout q k ≡ pos 0). subst Timely (sym e) timely_zero) (λ (e : timeout q k ≡ timeout p k). subst Timely (sym e) (J.frames k l)) (timeout_is k l);
        older = λ k u. let v = was Jobs k u in rw (T.same Jobs k owner_field (used_below q Jobs k u) (omega arith) v.1, T.same Jobs k number_field (used_below q Jobs k u) (omega arith) v.1) (J.older k v.0);
        waits = waits_kept;
        idle = λ k l. idle_by k l (bit m k) refl;
      }
    where
      urgent_by : (k : ℕ) → k < positions Jobs → (b : Bool) → bit m k ≡ b → priority q k ≤ greatest_priority
      urgent_by k l true b = rw (T.blank Jobs k priority_field l (omega arith) b) (omega arith)
      urgent_by k l false b = rw (taken_priority p q m c key T k l b) (S.jobs.urgent k l)

      gained_by : (k : ℕ) → k < positions Jobs → (b : Bool) → bit m k ≡ b → accumulated q k ≤ hold
      gained_by k l true b = rw (T.blank Jobs k accumulated_field l (omega arith) b) (omega arith)
      gained_by k l false b = rw (taken_gains p q m c key T k l b) (S.jobs.gained k l)

      idle_by : (k : ℕ) → k < positions Jobs → (b : Bool) → bit m k ≡ b → (accumulated q k ≡ 0) ⊎ (ready q k ≡ true)
      idle_by k l true b = inl (T.blank Jobs k accumulated_field l (omega arith) b)
      idle_by k l false b = ⊎_elim (λ e. inl (taken_gains p q m c key T k l b ∙ e)) (λ r. inr (ready_kept k l b r)) (S.jobs.idle k l)

  channels_kept : Channels_fine q
  channels_kept = record {
    entries = entries_kept Channels (λ k f l h u b. T.same_channel k f l h b ∙ S.channels.entries.unused k f l h u) (same_last Channels) S.channels.entries;
    one = λ k u. let v = was Channels k u in T.same_channel k ending_field (used_below q Channels k u) (omega arith) v.1 ∙ S.channels.one k v.0;
  }

  -- a block in use of q was one of p, with every longword
  record AsWas (r : Area) (i : ℕ) : Type 0 where
    there : In i (blocks p r)
    busy : free p i ≡ false
    left : goes p m (extra a r) i ≡ false
    same : (f : ℕ) → f < size p i / 4 → word q (i + f) ≡ word p (i + f)
    four : 4 ≤ size p i / 4

  block_in : (r : Area) (i : ℕ) → In i (blocks q r) → In i (starts q (from p r) (upto p r))
  block_in r i n = rw (same_from r, same_upto r) at n

  as_was : (r : Area) (i : ℕ) → In i (blocks q r) → (kind q i ≡ 0 → ⊥) → AsWas r i
  as_was r i n u =
      let o = (K r).only i (block_in r i n) (ne_eqb (kind q i) 0 u) in
      let B = block_of p (from p r) (upto p r) (S.tiled r).whole i o.0 in
      let l = B.least in
      record {
        there = o.0;
        busy = o.1.0;
        left = o.1.1;
        same = λ f h. (K r).keeps i o.0 o.1.0 o.1.1 (i + f) (omega arith) (omega arith);
        four = omega arith;
      }

  queue_kept : (i : ℕ) → Queue p i → ((f : ℕ) → f < size p i / 4 → word q (i + f) ≡ word p (i + f)) → size q i ≡ size p i → Queue q i
  queue_kept i u same e =
      let l : 8 ≤ size p i / 4 = let z = u.long in let o = u.least in rw z (omega arith) in
      let n = same queue_length_field (omega arith) in
      record {
        least = rw n u.least;
        most = rw n u.most;
        long = rw (e, n) u.long;
        oldest = rw (same queue_oldest_field (omega arith), n) u.oldest;
        held = rw (same queue_count_field (omega arith), n) u.held;
        nought = rw (same queue_zero_field (omega arith)) u.nought;
      }

  fits_free : (r : Area) → Fits r 0
  fits_free Heap = omega arith
  fits_free Transient = inl refl

  same_size : (r : Area) (i : ℕ) → AsWas r i → size q i ≡ size p i
  same_size r i w = let z : i + 0 ≡ i = omega arith in let f = w.four in rw z at (w.same 0 (omega arith))

  tiled_kept : (r : Area) → Tiled q r
  tiled_kept r =
      let P = (K r).blank (λ i n u. (S.tiled r).free_zero i n (eqb-true (kind p i) 0 u)) in
      record {
        whole = λ i n. rw (same_upto r) ((K r).tiled i (block_in r i n));
        fits = λ i n. ⊎_elim
            (λ (e : kind q i ≡ 0). subst (Fits r) (sym e) (fits_free r))
            (λ u. let w = as_was r i n u in let f = w.four in subst (Fits r) (sym (w.same kind_field (omega arith))) ((S.tiled r).fits i w.there))
            (same_or_not (kind q i) 0);
        starts_zero = λ i n. ⊎_elim
            (λ (e : kind q i ≡ 0). inr (P i (block_in r i n) (eq-eqb (kind q i) 0 e)).1)
            (λ u. let w = as_was r i n u in let f = w.four in rw (w.same kind_field (omega arith), w.same start_field (omega arith)) ((S.tiled r).starts_zero i w.there))
            (same_or_not (kind q i) 0);
        free_zero = λ i n e. P i (block_in r i n) (eq-eqb (kind q i) 0 e);
        queue = λ i n e. let w = as_was r i n (λ z. queued i e z) in let f = w.four in queue_kept i ((S.tiled r).queue i w.there (sym (w.same kind_field (omega arith)) ∙ e)) w.same (same_size r i w);
        lone = λ i n e l z. lone_by i n e (rw (same_upto r) at l) (rw (same_upto r) at z);
        held = λ i n. ⊎_elim
            inl
            (λ u. let w = as_was r i n u in let f = w.four in rw (w.same kind_field (omega arith), w.same holder_field (omega arith)) (held_by i w ((S.tiled r).held i w.there)))
            (same_or_not (kind q i) 0);
      }
    where
      queued : (i : ℕ) → kind q i ≡ queue_kind → kind q i ≡ 0 → ⊥
      queued i e z = omega arith

      lone_by : (i : ℕ) → In i (blocks q r) → kind q i ≡ 0 → next q i (upto p r) < upto p r → kind q (next q i (upto p r)) ≡ 0 → ⊥
      lone_by i n e l z = false_true (sym ((K r).apart i (block_in r i n) (eq-eqb (kind q i) 0 e) l) ∙ eq-eqb (kind q (next q i (upto p r))) 0 z)

      held_by : (i : ℕ) → AsWas r i → (kind p i ≡ 0) ⊎ (((kind p i ≡ job_kind) × (holder p i ≡ nobody)) ⊎ (live p Jobs (holder p i) ≡ true)) → (kind p i ≡ 0) ⊎ (((kind p i ≡ job_kind) × (holder p i ≡ nobody)) ⊎ (live q Jobs (holder p i) ≡ true))
      held_by i w o = ⊎_elim inl (λ x. inr (⊎_elim inl (λ l. inr (live_stays (holder p i) l (not_going p m (extra a r) i w.busy w.left))) x)) o

  -- an entry's block stays if the entry does, and the other way round
  own_goes : (t' : Table) (k i : ℕ) → In i (blocks p (area_of t')) → Matches p t' k i → goes p m (extra a (area_of t')) i ≡ bit (going m c t') k
  unfolding m c a
  own_goes t' k i n o = block_goes p S t top other t' k i n o

  kind_in_use : (t' : Table) (n : ℕ) → n ≡ kind_of t' → n ≡ 0 → ⊥
  kind_in_use Jobs n e z = omega arith
  kind_in_use Channels n e z = omega arith

  matched_kept : (t' : Table) → Matched q t'
  matched_kept t' = record {
    home = λ k l h.
        let x = was t' k (has_block_used q t' k h) in
        let o = (S.matched t').home k l (has_block_was t' k h) in
        let g = own_goes t' k o.0 o.1.0 o.1.1 ∙ x.1 in
        let u = ne_eqb (kind p o.0) 0 (kind_in_use t' (kind p o.0) o.1.1.sorts) in
        (o.0, (back o.0 ((K (area_of t')).stays o.0 o.1.0 u g), onto k o.0 l x.1 o.1.0 u g o.1.1));
    heir = λ i n e.
        let w = as_was (area_of t') i n (kind_in_use t' (kind q i) e) in
        let f = w.four in
        let o = (S.matched t').heir i w.there (sym (w.same kind_field (omega arith)) ∙ e) in
        (o.0, (o.1.0, onto o.0 i o.1.0 (sym (own_goes t' o.0 i w.there o.1.1) ∙ w.left) w.there w.busy w.left o.1.1));
    apart = λ j k i x y n v w. (S.matched t').apart j k i x y (as_was (area_of t') i n (kind_in_use t' (kind q i) v.sorts)).there (down j i n v) (down k i n w);
  }
    where
      back : (i : ℕ) → In i (starts q (from p (area_of t')) (upto p (area_of t'))) → In i (blocks q (area_of t'))
      back i n = rw (same_from (area_of t'), same_upto (area_of t')) n

      onto : (k i : ℕ) → k < positions t' → bit (going m c t') k ≡ false → In i (blocks p (area_of t')) → free p i ≡ false → goes p m (extra a (area_of t')) i ≡ false → Matches p t' k i → Matches q t' k i
      onto k i l b n u g o =
          let B = block_of p (from p (area_of t')) (upto p (area_of t')) (S.tiled (area_of t')).whole i n in
          let h = B.least in
          let keep = (K (area_of t')).keeps i n u g in
          record {
            has = has_block_stays t' k b o.has;
            sorts = keep (i + kind_field) (omega arith) (omega arith) ∙ o.sorts;
            place = T.same t' k base_field l (omega arith) b ∙ o.place;
            held = T.same t' k owner_field l (omega arith) b ∙ o.held ∙ sym (keep (i + holder_field) (omega arith) (omega arith));
          }

      down : (k i : ℕ) → In i (blocks q (area_of t')) → Matches q t' k i → Matches p t' k i
      down k i n o =
          let w = as_was (area_of t') i n (kind_in_use t' (kind q i) o.sorts) in
          let f = w.four in
          let u = has_block_used q t' k o.has in
          let x = was t' k u in
          let l = used_below q t' k u in
          record {
            has = has_block_was t' k o.has;
            sorts = sym (w.same kind_field (omega arith)) ∙ o.sorts;
            place = sym (T.same t' k base_field l (omega arith) x.1) ∙ o.place;
            held = sym (T.same t' k owner_field l (omega arith) x.1) ∙ o.held ∙ w.same holder_field (omega arith);
          }

  pub ended_facts : Sound (ended p t key)
  unfolding q
  ended_facts = record { sizes = sizes_again; jobs = jobs_kept; channels = channels_kept; tiled = tiled_kept; matched = matched_kept; current = inl T.current }

  -- no entry is new
  pub ended_is_no_newer : (t' : Table) (n : ℕ) → live (ended p t key) t' n ≡ true → live p t' n ≡ true
  unfolding q
  ended_is_no_newer t' n l =
      let v = live_is q t' n l in
      let w = was t' (position n) v.used in
      is_live p t' n (record { used = w.0; names = sym (T.same t' (position n) number_field (used_below q t' (position n) v.used) (omega arith) w.1) ∙ v.names })

-- ending the tree of a live job other than 0 keeps a sound picture sound
pub ending_keeps_sound : (p : List ℕ) (t key : ℕ) → sound p ≡ true → used p Jobs t ≡ true → (t ≡ 0 → ⊥) → sound (ended p t key) ≡ true
ending_keeps_sound p t key s u n = sound_again (ended p t key) (ended_facts p (view p s) t key u n)
