-- $1 keeps a sound picture sound, and the number that it gives has a new tag.
use Prim.Native.Nat.{ℕ, ◌-◌, ◌≤◌, ◌<◌}
use mathlib.Core.Path.{◌≡◌, refl, sym, ap, ◌∙◌, subst}
use mathlib.Core.Bool.{Bool, true, false}
use mathlib.Core.Logic.{⊎_elim, ◌⊎◌, inl, inr}
use mathlib.Core.List.{List}
use lib.Dec.{leb}
use native.Mathlib.Omega.{arith}
use borrow.Author.Tests.{le-leb, eqb-true}
use Rattle.words.specs.Words.{word}
use Rattle.words.specs.Each.{In}
use Rattle.words.proofs.Tests.{both}
use Rattle.picture.specs.Layout.{nobody, current_word, positions, width}
use Rattle.picture.specs.Records.{field, number, priority, accumulated, timeout, waited_for, used, ready, accumulated_field, base_field, number_field, owner_field, priority_field, timeout_field, wait_field, ending_field, members}
use Rattle.picture.specs.Records as records
use Rattle.picture.specs.Numbers.{tag, position, live}
use Rattle.picture.specs.declared.Table.{Table}
use Rattle.picture.specs.declared.Table.TheVariants.{Jobs, Channels}
use Rattle.picture.specs.declared.Area.{Area}
use Rattle.picture.specs.declared.Area.TheVariants.{Heap, Transient}
use Rattle.picture.proofs.Records.{used_below}
use Rattle.picture.proofs.Numbers.{Live, live_is}
use Rattle.blocks.specs.Header.{kind, kind_of, job_kind}
use Rattle.blocks.specs.Walk.{blocks}
use Rattle.sound_matching.specs.Match.{first, area_of, has_block}
use Rattle.sound_matching.proofs.Counts.{Matches}
use Rattle.sound_matching.proofs.Matched.{Matched}
use Rattle.headers.proofs.Header.{same_or_not}
use Rattle.picture.specs.Layout.{greatest_priority, hold}
use Rattle.picture.proofs.Timeout.{Timely, timely_zero, timeout_same, timeout_zero, ready_same}
use Rattle.picture.proofs.Members.{spares_current}
use Rattle.sound.specs.Sound.{sound}
use Rattle.sound_facts.proofs.Sound.{Sizes, Waits, Owned, Entries, Jobs_fine, Channels_fine, Current, Sound}
use Rattle.sound_facts.proofs.View.{sound_again, has_block_used}
use Rattle.sound_facts.proofs.Same.{used_same, has_block_same, Lives, EntriesSame, entries_same}
use Rattle.sound_facts.proofs.Ages.{Ages, ages_still}
use Rattle.sound_facts.proofs.Sizes.{Fixed, sizes_kept}
use Rattle.rooms.specs.Room.{header_byte}
use Rattle.calls.specs.Outcome.{Outcome}
use Rattle.calls.specs.Call.{outcome}
use Rattle.calls.specs.Registers.{A1}
use Rattle.entering.specs.Entry.{next_tag}
use Rattle.law_entering.proofs.Written.{Entered}
use Rattle.law_entering.proofs.Kept.{number_tag, field_old, other_table_mask, other_table_last, other_table_field, used_here, another, new_or_old, still_used, lives_in_both, entering_ages, entering_keeps_the_records}
use Rattle.law_blocks.proofs.Moved.{Fine}
use Rattle.law_blocks.proofs.Change.{Change, change_tiled, change_standing, change_homes}
use Rattle.law_blocks.proofs.Placing.{None, Only}
use Rattle.law_blocks.proofs.Matching.{Still, Stands, Rematched, still_matched}
use Rattle.creating.specs.Create.{created, create}
use Rattle.law_creating.proofs.Ways.{Checked, create_ways}
use Rattle.law_creating.proofs.Made as the

no_job : Channels ≡ Jobs → ⊥
no_job e = let z : ◌≡◌ {A = ℕ} 0 1 = cc in omega arith

elsewhere : Transient ≡ Heap → ⊥
elsewhere e = let z : ◌≡◌ {A = ℕ} 0 1 = cc in omega arith

module _ (p d : List ℕ) (h : sound p ≡ true) (c : Checked p d) where
  abbrev q : List ℕ
  q = created p d

  abbrev k : ℕ
  k = the.place p d h c

  abbrev at : ℕ
  at = the.at p d h c

  abbrev o : ℕ
  o = the.owner p d h c

  S : Sound p
  S = the.S p d h c

  E : Entered p q Jobs k (next_tag p Jobs) o (header_byte at)
  E = the.made_entry p d h c

  there : k < positions Jobs
  there = the.place_there p d h c

  vacant : used p Jobs k ≡ false
  vacant = the.place_vacant p d h c

  lives : Lives p q
  lives = lives_in_both p q Jobs k (next_tag p Jobs) o (header_byte at) E there vacant Jobs

  old : (j f : ℕ) → j < positions Jobs → f < width Jobs → (j ≡ k → ⊥) → field q Jobs j f ≡ field p Jobs j f
  old = field_old p q Jobs k (next_tag p Jobs) o (header_byte at) E there vacant

  apart : (j : ℕ) → used p Jobs j ≡ true → j ≡ k → ⊥
  apart = another p q Jobs k (next_tag p Jobs) o (header_byte at) E there vacant

  cases : (j : ℕ) → used q Jobs j ≡ true → (j ≡ k) ⊎ ((j ≡ k → ⊥) × (used p Jobs j ≡ true))
  cases = new_or_old p q Jobs k (next_tag p Jobs) o (header_byte at) E there vacant

  -- a fact of every job's record: it holds where the fields are 0, and where they are as they were
  each : (P : ℕ → Type 0) (j : ℕ) → P k → ((j ≡ k → ⊥) → P j) → P j
  each P j here other = ⊎_elim (λ (e : j ≡ k). subst P (sym e) here) other (same_or_not j k)

  zero : (f : ℕ) → base_field < f → f < width Jobs → field q Jobs k f ≡ 0
  zero f l m = E.its_rest f l m

  not_zero : 0 ≡ k → ⊥
  not_zero = apart 0 S.jobs.zero_lives

  owned : Owned q true o
  owned = ⊎_elim (λ e. inl (refl, e)) (λ e. inr (lives o e)) (the.owner_nobody_or_live p d h c)

  sizes : Sizes q
  sizes = sizes_kept p q E.long (λ i (x : Fixed i). let l = x.low in the.made_low p d h c i (omega arith) (x.spared Jobs) (x.no_tag Jobs))
      (elim [ Jobs ↦ rw E.last (the.tag_left p d h c) | Channels ↦ rw (other_table_last p q Jobs k (next_tag p Jobs) o (header_byte at) E there vacant Channels no_job) (S.sizes.last Channels) ])
      S.sizes

  ready_old : (j : ℕ) → j < positions Jobs → (j ≡ k → ⊥) → ready q j ≡ ready p j
  ready_old j l n = ready_same p q j (old j priority_field l (omega arith) n) (timeout_same p q j (old j timeout_field l (omega arith) n))

  jobs : Jobs_fine q
  jobs =
      let J = S.jobs in
      record {
        entries = entering_keeps_the_records p q Jobs k (next_tag p Jobs) o (header_byte at) E there vacant (omega arith) J.entries (the.tag_left p d h c) owned;
        zero_lives = still_used p q Jobs k (next_tag p Jobs) o (header_byte at) E there vacant 0 J.zero_lives;
        zero_number = old 0 number_field (omega arith) (omega arith) not_zero ∙ J.zero_number;
        zero_base = old 0 base_field (omega arith) (omega arith) not_zero ∙ J.zero_base;
        zero_unowned = old 0 owner_field (omega arith) (omega arith) not_zero ∙ J.zero_unowned;
        urgent = λ j l. each (λ x. priority q x ≤ greatest_priority) j (rw (zero priority_field (omega arith) (omega arith)) (omega arith)) (λ n. rw (old j priority_field l (omega arith) n) (J.urgent j l));
        gained = λ j l. each (λ x. accumulated q x ≤ hold) j (rw (zero accumulated_field (omega arith) (omega arith)) (omega arith)) (λ n. rw (old j accumulated_field l (omega arith) n) (J.gained j l));
        frames = λ j l. each (λ x. Timely (timeout q x)) j (subst Timely (sym (timeout_zero q k (zero timeout_field (omega arith) (omega arith)))) timely_zero) (λ n. subst Timely (sym (timeout_same p q j (old j timeout_field l (omega arith) n))) (J.frames j l));
        older = λ j u. ⊎_elim
            (λ (e : j ≡ k). subst (λ (x : ℕ). (records.owner q Jobs x ≡ nobody) ⊎ (tag (records.owner q Jobs x) < tag (number q Jobs x))) (sym e) new_older)
            (λ (v : (j ≡ k → ⊥) × (used p Jobs j ≡ true)). let l = used_below p Jobs j v.1 in rw (old j owner_field l (omega arith) v.0, old j number_field l (omega arith) v.0) (J.older j v.1))
            (cases j u);
        waits = λ j l. each (λ x. (waited_for q x ≡ 0) ⊎ Waits q x) j (inl (zero wait_field (omega arith) (omega arith))) (λ n. ⊎_elim
            (λ (e : waited_for p j ≡ 0). inl (old j wait_field l (omega arith) n ∙ e))
            (λ (w : Waits p j). inr (record {
              alive = rw (old j wait_field l (omega arith) n) (lives (waited_for p j) w.alive);
              other = λ e. w.other (sym (old j wait_field l (omega arith) n) ∙ e ∙ old j number_field l (omega arith) n);
              forever = timeout_same p q j (old j timeout_field l (omega arith) n) ∙ w.forever;
            }))
            (J.waits j l));
        idle = λ j l. each (λ x. (accumulated q x ≡ 0) ⊎ (ready q x ≡ true)) j (inl (zero accumulated_field (omega arith) (omega arith))) (λ n. rw (old j accumulated_field l (omega arith) n, ready_old j l n) (J.idle j l));
      }
    where
      new_older : (records.owner q Jobs k ≡ nobody) ⊎ (tag (records.owner q Jobs k) < tag (number q Jobs k))
      new_older = rw (E.its_owner, E.its_number, number_tag (next_tag p Jobs) k (omega (arith, there))) (⊎_elim
          inl
          (λ (e : live p Jobs o ≡ true).
          let v = live_is p Jobs o e in
          let g = S.jobs.entries.given (position o) v.used in
          let z : tag (number p Jobs (position o)) ≡ tag o = ap tag v.names in
          inr (omega arith))
          (the.owner_nobody_or_live p d h c))

  channel_mask : members q Channels ≡ members p Channels
  channel_mask = other_table_mask p q Jobs k (next_tag p Jobs) o (header_byte at) E there vacant Channels no_job

  pub channel_field : (j f : ℕ) → j < positions Channels → f < width Channels → field q Channels j f ≡ field p Channels j f
  channel_field = other_table_field p q Jobs k (next_tag p Jobs) o (header_byte at) E there vacant Channels no_job

  channels : Channels_fine q
  channels =
      let C = S.channels in
      let u : (j : ℕ) → used q Channels j ≡ used p Channels j = used_same p q Channels channel_mask in
      record {
        entries = entries_same p q Channels
            (record {
              mask = channel_mask;
              last = other_table_last p q Jobs k (next_tag p Jobs) o (header_byte at) E there vacant Channels no_job;
              numbers = λ j l. channel_field j number_field l (omega arith);
              owners = λ j l. channel_field j owner_field l (omega arith);
            })
            lives
            (λ j f l m v. channel_field j f l m ∙ C.entries.unused j f l m (sym (u j) ∙ v))
            C.entries;
        one = λ j v. channel_field j ending_field (used_below q Channels j v) (omega arith) ∙ C.one j (sym (u j) ∙ v);
      }

  current : Current q
  current =
      let w : word q current_word ≡ word p current_word = the.made_low p d h c current_word (omega arith) (spares_current Jobs) (λ e. omega arith) in
      ⊎_elim
      (λ e. inl (w ∙ e))
      (λ (e : (live p Jobs (word p current_word) ≡ true) × (ready p (position (word p current_word)) ≡ true)).
      let v = live_is p Jobs (word p current_word) e.0 in
      let l = used_below p Jobs (position (word p current_word)) v.used in
      inr (rw w (lives (word p current_word) e.0, ready_old (position (word p current_word)) l (apart (position (word p current_word)) v.used) ∙ e.1)))
      S.current

  fine : (i : ℕ) → i ≡ at → Fine q Transient i
  fine i e = rw e (record {
    fits = inr (the.at_kind p d h c);
    starts_zero = inl (the.at_kind p d h c);
    queue = λ z. let y = the.at_kind p d h c in absurd (omega arith);
    held = rw (the.at_holder p d h c) (⊎_elim (λ x. inl (the.at_kind p d h c, x)) (λ x. inr (lives o x)) (the.owner_nobody_or_live p d h c));
  })

  -- the new entry and the new block
  abbrev Pair : Table → ℕ → ℕ → Type 0
  Pair t j x = (t ≡ Jobs) × ((j ≡ k) × (x ≡ at))

  still : (t : Table) (j : ℕ) → j < positions t → has_block p t j ≡ true → Still p q t j
  unfolding has_block
  still Jobs j l x =
      let u = has_block_used p Jobs j x in
      let n = apart j u in
      record {
        before = x;
        now_too = rw ((both (leb (first Jobs) j) (used p Jobs j) x).0, still_used p q Jobs k (next_tag p Jobs) o (header_byte at) E there vacant j u);
        base_as_was = old j base_field l (omega arith) n;
        owner_as_was = old j owner_field l (omega arith) n;
      }
  still Channels j l x = record { before = x; now_too = has_block_same p q Channels channel_mask j ∙ x; base_as_was = channel_field j base_field l (omega arith); owner_as_was = channel_field j owner_field l (omega arith) }

  entries_by : (t : Table) (j : ℕ) → j < positions t → has_block q t j ≡ true → Still p q t j ⊎ ((i : ℕ) × Pair t j i)
  unfolding has_block
  entries_by Jobs j l x = ⊎_elim
      (λ (e : j ≡ k). inr (at, (refl, (e, refl))))
      (λ (v : (j ≡ k → ⊥) × (used p Jobs j ≡ true)). inl (still Jobs j l (rw ((both (leb (first Jobs) j) (used q Jobs j) x).0, v.1))))
      (cases j (has_block_used q Jobs j x))
  entries_by Channels j l x = inl (still Channels j l (sym (has_block_same p q Channels channel_mask j) ∙ x))

  new_block : (t : Table) (i : ℕ) → (Transient ≡ area_of t) × (i ≡ at) → (j : ℕ) × Pair t j i
  new_block Jobs i e = (k, (refl, (refl, e.1)))
  new_block Channels i e = absurd (elsewhere e.0)

  pair : Matches q Jobs k at
  unfolding has_block
  pair = record {
    has = rw (le-leb 1 k (let n = not_zero in omega arith), used_here p q Jobs k (next_tag p Jobs) o (header_byte at) E there vacant);
    sorts = the.at_kind p d h c;
    place = E.its_base;
    held = E.its_owner ∙ sym (the.at_holder p d h c);
  }

  rematched : (t : Table) → Rematched p q t (Pair t)
  rematched t = record {
    entries = entries_by t;
    homes = λ j i s m w. ⊎_elim (λ b. b) (λ (g : (Transient ≡ area_of t) × None i). absurd g.1) (change_homes p q Transient (Only at) None (the.made_change p d h c) (the.lies p d h c) S.tiled t i m w.sorts);
    standing = λ i m z. ⊎_elim inl (λ n. inr (new_block t i n)) (change_standing p q Transient (Only at) None (the.made_change p d h c) (the.lies p d h c) S.tiled t i m z);
    heirs = λ j i l b w. still t j l w.has;
    new_matches = λ j i n. own t j i n;
    new_block = λ j i n m z. taken t i n.0 n.1.1 z;
    once = λ j x i a b. a.1.0 ∙ sym b.1.0;
  }
    where
      own : (t : Table) (j i : ℕ) → Pair t j i → (j < positions t) × (In i (blocks q (area_of t)) × Matches q t j i)
      own Jobs j i n = rw (n.1.0, n.1.1) (there, (the.at_there p d h c, pair))
      own Channels j i n = absurd (no_job n.0)

      taken : (t : Table) (i : ℕ) → t ≡ Jobs → i ≡ at → kind p i ≡ kind_of t → ⊥
      taken Jobs i e x z = let f : kind p at ≡ 0 = eqb-true _ _ (the.at_free p d h c) in let y : kind p at ≡ job_kind = rw x at z in omega arith
      taken Channels i e x z = no_job e

  pub created_sound : sound (created p d) ≡ true
  created_sound = sound_again (created p d) (record {
    sizes = sizes;
    jobs = jobs;
    channels = channels;
    tiled = change_tiled p q Transient (Only at) None (the.made_change p d h c) (the.lies p d h c) S.tiled lives fine;
    matched = λ t. still_matched p q t (Pair t) (rematched t) (S.matched t);
    current = current;
  })

  created_ages : (t : Table) → Ages p (created p d) t
  created_ages = entering_ages p q Jobs k (next_tag p Jobs) o (header_byte at) E there vacant (omega arith)

pub create_keeps_sound : (p d : List ℕ) → sound p ≡ true → sound (outcome create p d).picture ≡ true
create_keeps_sound p d h = create_ways (λ (o : Outcome). sound o.picture ≡ true) p d (λ k. h) (λ c. created_sound p d h c)

pub create_ages : (p d : List ℕ) → sound p ≡ true → (t : Table) → Ages p (outcome create p d).picture t
create_ages p d h t = create_ways (λ (o : Outcome). Ages p o.picture t) p d (λ k. ages_still p t) (λ c. created_ages p d h c t)
