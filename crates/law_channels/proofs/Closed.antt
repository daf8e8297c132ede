-- A channel closed in a sound picture: the entry and its block are gone, all else stands.
use Prim.Native.Nat.{ℕ, ◌+◌, ◌-◌, ◌*◌, ◌/◌, ◌≤◌, ◌<◌}
use mathlib.Core.Path.{◌≡◌, refl, sym, ap, ◌∙◌, subst}
use mathlib.Core.Bool.{Bool, true, false, ◌&&◌}
use mathlib.Core.Logic.{⊎_elim, ◌⊎◌, inl, inr}
use mathlib.Core.List.{List}
use lib.ListN.{length}
use lib.Dec.{leb}
use native.Mathlib.Omega.{arith}
use borrow.Author.Tests.{ne_eqb}
use Rattle.words.specs.Words.{word}
use Rattle.words.specs.Bits.{bit}
use Rattle.words.specs.Each.{In}
use Rattle.words.proofs.Tests.{both, false_true, lt_or_ge}
use Rattle.picture.specs.Layout.{heap_base, heap_word, size_word, last_word, positions, width, from, upto, first_record, current_word}
use Rattle.picture.specs.Records.{slot, field, number, owner, base, ending, used, number_field, owner_field, ending_field, members}
use Rattle.picture.specs.Numbers.{tag, position, live}
use Rattle.picture.specs.declared.Table.{Table}
use Rattle.picture.specs.declared.Table.TheVariants.{Jobs, Channels}
use Rattle.picture.specs.declared.Area.{Area}
use Rattle.picture.specs.declared.Area.TheVariants.{Heap, Transient}
use Rattle.picture.proofs.Records.{slot_within, used_below, used_is}
use Rattle.picture.proofs.Numbers.{Live, live_is, is_live}
use Rattle.picture.proofs.Members.{Spares, holds_low, spares_past, spares_size, spares_current, spares_heap, spares_last, spares_other, members_same, jobs_apart}
use Rattle.blocks.specs.Header.{kind_field, kind, kind_of, queue_kind, free}
use Rattle.blocks.specs.Walk.{starts, blocks}
use Rattle.headers.specs.Header.{Outside}
use Rattle.sound_matching.specs.Match.{first, area_of, has_block}
use Rattle.sound_matching.proofs.Counts.{Matches}
use Rattle.sound_matching.proofs.Matched.{Matched}
use Rattle.masks.specs.Masks.{without_bit}
use Rattle.masks.proofs.Masks.{without_bit_here, without_bit_other}
use Rattle.freeing.specs.Sweep.{goes, swept}
use Rattle.law_freeing.specs.Swept.{Swept}
use Rattle.law_freeing.proofs.Alone.{the_block_at_a_goes}
use Rattle.sound.specs.Sound.{sound}
use Rattle.sound_facts.proofs.Sound.{Sizes, Owned, Entries, Jobs_fine, Channels_fine, Sound}
use Rattle.sound_facts.proofs.View.{view, sound_again, has_block_used}
use Rattle.sound_facts.proofs.Same.{used_same, has_block_same, Lives, owned_kept, starts_between}
use Rattle.sound_facts.proofs.Ages.{Ages}
use Rattle.sound_facts.proofs.Jobs.{JobsSame, jobs_live, jobs_age, jobs_kept, current_kept}
use Rattle.sound_facts.proofs.Sizes.{Fixed, sizes_kept}
use Rattle.rooms.proofs.Sizes.{Lies, areas_lie_in_a_sound_picture}
use Rattle.law_blocks.proofs.Tables.{TablesSame, mask_same}
use Rattle.law_blocks.proofs.Change.{Change, from_same, upto_same, change_then, change_tiled, change_standing, change_homes}
use Rattle.law_blocks.proofs.Placing.{None, Only}
use Rattle.law_blocks.proofs.Freeing.{swept_facts, giving_back_keeps_the_tables, giving_back_is_a_change}
use Rattle.law_blocks.proofs.Matching.{Still, Stands, Rematched, still_matched}
use Rattle.channels.specs.Effects.{queue_of, forgotten, closed}
use Rattle.channels.proofs.Found.{Held, live_queue, live_below}
use Rattle.law_channels.proofs.Forgotten.{Forgotten, forgotten_is}

module _ (p : List ℕ) (n : ℕ) (s : sound p ≡ true) (l : live p Channels n ≡ true) where
  S : Sound p
  S = view p s

  pub lies : (a : Area) → Lies p a
  lies = areas_lie_in_a_sound_picture p s

  abbrev k : ℕ
  k = position n

  abbrev at : ℕ
  at = queue_of p (position n)

  abbrev r : List ℕ
  r = swept p (from p Heap) (upto p Heap) 0 (queue_of p (position n))

  abbrev q : List ℕ
  q = closed p (position n)

  H : Held p k at
  H = live_queue p n s l

  there : k < positions Channels
  there = live_below p n l

  -- first the block
  block_tables : TablesSame p r
  block_tables = giving_back_keeps_the_tables p Heap at (S.tiled Heap) (lies Heap)

  whole : heap_base ≤ length r
  whole = let m = S.sizes.least in rw block_tables.long (omega arith)

  -- then the entry
  F : Forgotten r q Channels k
  unfolding closed
  F = forgotten_is r Channels k there whole

  areas : (j : ℕ) → heap_base ≤ j → word q j ≡ word r j
  areas j h = let w = slot_within Channels k there in F.other j (inr (omega arith)) (spares_past Channels j (omega arith))

  low : (j : ℕ) → j < first_record Channels → Spares Channels j → word q j ≡ word p j
  low j h m = F.other j (inl (omega arith)) m ∙ block_tables.words j (omega arith)

  pub closed_change : Change p q Heap None (Only at)
  closed_change =
      let z = low heap_word (omega arith) (spares_heap Channels) in
      change_then p r q Heap None (Only at) (giving_back_is_a_change p Heap at (S.tiled Heap) (lies Heap)) lies
      (from_same p q z) (upto_same p q z (low size_word (omega arith) (spares_size Channels))) areas

  pub jobs_same : JobsSame p q
  jobs_same = record {
    fields = λ j f a b. low (slot Jobs j + f) (omega arith) (spares_past Channels (slot Jobs j + f) (omega arith));
    mask = members_same p q Jobs (λ j h. let l = holds_low Jobs j h in low j (omega arith) (spares_other Channels Jobs jobs_apart j h));
    last = low (last_word Jobs) (omega arith) (spares_last Channels Jobs);
    current = low current_word (omega arith) (spares_current Channels);
  }

  lives : Lives p q
  lives = jobs_live p q jobs_same

  -- the other channels
  pub field_old : (j f : ℕ) → j < positions Channels → f < width Channels → (j ≡ k → ⊥) → field q Channels j f ≡ field p Channels j f
  field_old j f a b m = F.other (slot Channels j + f) (away (lt_or_ge j k)) (spares_past Channels (slot Channels j + f) (omega arith)) ∙ block_tables.words (slot Channels j + f) (let w = slot_within Channels j a in omega arith)
    where
      away : (j < k) ⊎ (k ≤ j) → Outside (slot Channels k) (slot Channels k + width Channels) (slot Channels j + f)
      away (inl x) = inl (omega arith)
      away (inr x) = inr (omega arith)

  mask_here : members q Channels ≡ without_bit (members p Channels) k
  mask_here = F.mask ∙ ap (λ (x : ℕ). without_bit x k) (mask_same p r block_tables Channels)

  pub used_gone : used q Channels k ≡ false
  used_gone = used_is q Channels k there ∙ ap (λ (x : ℕ). bit x k) mask_here ∙ without_bit_here (members p Channels) k

  used_other : (j : ℕ) → j < positions Channels → (j ≡ k → ⊥) → used q Channels j ≡ used p Channels j
  used_other j a m = used_is q Channels j a ∙ ap (λ (x : ℕ). bit x j) mask_here ∙ without_bit_other (members p Channels) k j m ∙ sym (used_is p Channels j a)

  still_old : (j : ℕ) → used q Channels j ≡ true → (j ≡ k → ⊥) × (used p Channels j ≡ true)
  still_old j u =
      let m : j ≡ k → ⊥ = λ e. false_true (sym used_gone ∙ ap (used q Channels) (sym e) ∙ u) in
      (m, sym (used_other j (used_below q Channels j u) m) ∙ u)

  entries : Entries q Channels
  unfolding has_block
  entries =
      let E = S.channels.entries in
      let w = low (last_word Channels) (omega arith) (spares_last Channels Channels) in
      let num : (j : ℕ) → used q Channels j ≡ true → number q Channels j ≡ number p Channels j = λ j u. field_old j number_field (used_below q Channels j u) (omega arith) (still_old j u).0 in
      record {
        unused = λ j f a b u. unused_now j f a b u;
        place = λ j u. rw (num j u) (E.place j (still_old j u).1);
        tagged = λ j c. let u = has_block_used q Channels j c in rw (num j u) (E.tagged j (rw ((both (leb (first Channels) j) (used q Channels j) c).0, (still_old j u).1)));
        once = λ i j u v e. E.once i j (still_old i u).1 (still_old j v).1 (rw (num i u, num j v) at e);
        owned = λ j u. rw (field_old j owner_field (used_below q Channels j u) (omega arith) (still_old j u).0) (owned_kept p q false (owner p Channels j) lives (E.owned j (still_old j u).1));
        given = λ j u. rw (num j u, w) (E.given j (still_old j u).1);
      }
    where
      unused_now : (j f : ℕ) → j < positions Channels → f < width Channels → used q Channels j ≡ false → field q Channels j f ≡ 0
      unused_now j f a b u = go (lt_or_ge j k) (lt_or_ge k j)
        where
          old : (j ≡ k → ⊥) → field q Channels j f ≡ 0
          old m = field_old j f a b m ∙ S.channels.entries.unused j f a b (sym (used_other j a m) ∙ u)

          go : (j < k) ⊎ (k ≤ j) → (k < j) ⊎ (j ≤ k) → field q Channels j f ≡ 0
          go (inl x) y = old (λ e. omega arith)
          go (inr x) (inl y) = old (λ e. omega arith)
          go (inr x) (inr y) = let e : j ≡ k = omega arith in rw e (F.its_fields f b)

  channels : Channels_fine q
  channels = record { entries = entries; one = λ j u. field_old j ending_field (used_below q Channels j u) (omega arith) (still_old j u).0 ∙ S.channels.one j (still_old j u).1 }

  -- entries and blocks
  abbrev NoPair : ℕ → ℕ → Type 0
  NoPair j i = ⊥

  job_has_block : (j : ℕ) → has_block q Jobs j ≡ has_block p Jobs j
  job_has_block j = has_block_same p q Jobs jobs_same.mask j

  still_job : (j : ℕ) → j < positions Jobs → has_block p Jobs j ≡ true → Still p q Jobs j
  still_job j a c = record { before = c; now_too = job_has_block j ∙ c; base_as_was = jobs_same.fields j 2 a (omega arith); owner_as_was = jobs_same.fields j 1 a (omega arith) }

  has_block_back : (j : ℕ) → has_block q Channels j ≡ true → has_block p Channels j ≡ true
  unfolding has_block
  has_block_back j c = rw ((both (leb (first Channels) j) (used q Channels j) c).0, (still_old j (has_block_used q Channels j c)).1)

  still_channel : (j : ℕ) → j < positions Channels → (j ≡ k → ⊥) → has_block p Channels j ≡ true → Still p q Channels j
  unfolding has_block
  still_channel j a m c = record {
    before = c;
    now_too = rw ((both (leb (first Channels) j) (used p Channels j) c).0, used_other j a m ∙ has_block_used p Channels j c);
    base_as_was = field_old j 2 a (omega arith) m;
    owner_as_was = field_old j 1 a (omega arith) m;
  }

  -- the block that is given back is no queue any more
  gone : In at (blocks q Heap) → kind q at ≡ queue_kind → ⊥
  gone m z =
      let h = H.low in
      let w = starts_between r q (from p Heap) (upto p Heap) (λ j a b. areas j (omega arith)) in
      let v : In at (starts r (from p Heap) (upto p Heap)) = rw (closed_change.ends Heap, w) at m in
      let y : kind r at ≡ queue_kind = sym (areas (at + kind_field) (omega arith)) ∙ z in
      let o = (swept_facts p Heap at (S.tiled Heap) (lies Heap)).only at v (ne_eqb (kind r at) 0 (λ e. omega arith)) in
      false_true (sym o.1.1 ∙ the_block_at_a_goes p at o.1.0)

  rematched : (t : Table) → Rematched p q t NoPair
  rematched Jobs = record {
    entries = λ j a c. inl (still_job j a (sym (job_has_block j) ∙ c));
    homes = λ j i h m o. ⊎_elim (λ b. b) (λ (g : (Heap ≡ Transient) × Only at i). absurd (elsewhere g.0)) (change_homes p q Heap None (Only at) closed_change lies S.tiled Jobs i m o.sorts);
    standing = λ i m z. ⊎_elim inl (λ (g : (Heap ≡ Transient) × None i). absurd g.1) (change_standing p q Heap None (Only at) closed_change lies S.tiled Jobs i m z);
    heirs = λ j i a b o. still_job j a o.has;
    new_matches = λ j i x. absurd x;
    new_block = λ j i x. absurd x;
    once = λ j m i x. absurd x;
  }
    where
      elsewhere : Heap ≡ Transient → ⊥
      elsewhere e = let z : ◌≡◌ {A = ℕ} 0 1 = cc in omega arith
  rematched Channels = record {
    entries = λ j a c. inl (still_channel j a (still_old j (has_block_used q Channels j c)).0 (has_block_back j c));
    homes = λ j i h m o. ⊎_elim (λ b. b) (λ (g : (Heap ≡ Heap) × Only at i). absurd ((still_old j (has_block_used q Channels j h.now_too)).0 (sole j i (used_below p Channels j (has_block_used p Channels j h.before)) g.1 o)))
        (change_homes p q Heap None (Only at) closed_change lies S.tiled Channels i m o.sorts);
    standing = λ i m z. ⊎_elim inl (λ (g : (Heap ≡ Heap) × None i). absurd g.1) (change_standing p q Heap None (Only at) closed_change lies S.tiled Channels i m z);
    heirs = λ j i a b o. still_channel j a (λ e. gone_by j i e b o) o.has;
    new_matches = λ j i x. absurd x;
    new_block = λ j i x. absurd x;
    once = λ j m i x. absurd x;
  }
    where
      -- only the channel that is closed has that block
      sole : (j i : ℕ) → j < positions Channels → i ≡ at → Matches p Channels j i → j ≡ k
      sole j i a e o = (S.matched Channels).apart j k at a there H.there (subst (Matches p Channels j) e o) H.own

      gone_by : (j i : ℕ) → j ≡ k → Stands p q Channels i → Matches p Channels j i → ⊥
      gone_by j i e b o =
          let x : i ≡ at = let u = o.place in let v = H.own.place in let w : base p Channels j ≡ base p Channels k = ap (base p Channels) e in omega arith in
          gone (subst (λ (y : ℕ). In y (blocks q Heap)) x b.now_too) (subst (λ (y : ℕ). kind q y ≡ queue_kind) x (b.kind_as_was ∙ o.sorts))

  pub closed_sound : sound (closed p (position n)) ≡ true
  closed_sound = sound_again q (record {
    sizes = sizes_kept p q (F.long ∙ block_tables.long) (λ i (x : Fixed i). let l = x.low in low i (omega arith) (x.spared Channels))
        (elim [ Jobs ↦ rw jobs_same.last (S.sizes.last Jobs) | Channels ↦ rw (low (last_word Channels) (omega arith) (spares_last Channels Channels)) (S.sizes.last Channels) ])
        S.sizes;
    jobs = jobs_kept p q jobs_same S.jobs;
    channels = channels;
    tiled = change_tiled p q Heap None (Only at) closed_change lies S.tiled lives (λ i x. absurd x);
    matched = λ t. still_matched p q t NoPair (rematched t) (S.matched t);
    current = current_kept p q jobs_same S.current;
  })

  pub closed_ages : (t : Table) → Ages p (closed p (position n)) t
  closed_ages Jobs = jobs_age p q jobs_same
  closed_ages Channels = record {
    rises = rw (low (last_word Channels) (omega arith) (spares_last Channels Channels)) (omega arith);
    newer = λ m h.
        let v = live_is q Channels m h in
        let o = still_old (position m) v.used in
        inl (is_live p Channels m (record { used = o.1; names = sym (field_old (position m) 0 (used_below q Channels (position m) v.used) (omega arith) o.0) ∙ v.names }));
  }
