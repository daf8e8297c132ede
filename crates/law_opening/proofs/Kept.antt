-- Opening a channel keeps a sound picture sound, and the number that it gives has a new tag.
use Prim.Native.Nat.{ℕ, ◌+◌, ◌≤◌, ◌<◌}
use mathlib.Core.Path.{◌≡◌, refl, sym, ap, ◌∙◌}
use mathlib.Core.Bool.{true, false}
use mathlib.Core.Logic.{⊎_elim, ◌⊎◌, inl, inr}
use mathlib.Core.List.{List}
use lib.Dec.{leb}
use native.Mathlib.Omega.{arith}
use borrow.Author.Tests.{le-leb, eqb-true}
use Rattle.words.specs.Words.{word}
use Rattle.words.specs.Each.{In}
use Rattle.words.proofs.Tests.{both, false_true}
use Rattle.picture.specs.Layout.{last_word, positions, width, first_record}
use Rattle.picture.specs.Records.{slot, field, used, base_field, owner_field, ending_field, number_field, members}
use Rattle.picture.specs.Numbers.{live}
use Rattle.picture.specs.declared.Table.{Table}
use Rattle.picture.specs.declared.Table.TheVariants.{Jobs, Channels}
use Rattle.picture.specs.declared.Area.TheVariants.{Heap, Transient}
use Rattle.picture.proofs.Records.{used_below}
use Rattle.picture.proofs.Members.{Spares, holds_low, members_same}
use Rattle.blocks.specs.Header.{kind, kind_of, queue_kind}
use Rattle.blocks.specs.Walk.{blocks}
use Rattle.sound_matching.specs.Match.{first, area_of, has_block}
use Rattle.sound_matching.proofs.Counts.{Matches}
use Rattle.sound_areas.specs.Rules.{longest_queue}
use Rattle.sound.specs.Sound.{sound}
use Rattle.sound_facts.proofs.Sound.{Entries, Channels_fine, Sound}
use Rattle.sound_facts.proofs.View.{sound_again, has_block_used}
use Rattle.sound_facts.proofs.Same.{used_same, has_block_same, live_same, Lives, entries_same}
use Rattle.sound_facts.proofs.Ages.{Ages, ages_same, ages_then}
use Rattle.sound_facts.proofs.Jobs.{JobsSame, jobs_live, jobs_age, jobs_kept, current_kept}
use Rattle.sound_facts.proofs.Sizes.{Fixed, sizes_kept}
use Rattle.rooms.specs.Room.{header_byte}
use Rattle.rooms.proofs.Room.{has_room}
use Rattle.entering.specs.Entry.{has_position, has_tag, next_tag}
use Rattle.law_entering.proofs.Written.{Entered}
use Rattle.law_entering.proofs.Kept.{field_old, used_here, another, new_or_old, still_used, lives_in_both, entering_ages, entering_keeps_the_records}
use Rattle.law_blocks.proofs.Moved.{Fine}
use Rattle.law_blocks.proofs.Change.{change_tiled, change_standing, change_homes}
use Rattle.law_blocks.proofs.Placing.{None, Only}
use Rattle.law_blocks.proofs.Matching.{Still, Rematched, still_matched}
use Rattle.opening.specs.Effects.{queue_bytes, opened}
use Rattle.law_opening.proofs.Opened as the

no_channel : Jobs ≡ Channels → ⊥
no_channel x = let z : ◌≡◌ {A = ℕ} 0 1 = cc in omega arith

elsewhere : Heap ≡ Transient → ⊥
elsewhere x = let z : ◌≡◌ {A = ℕ} 0 1 = cc in omega arith

module _ (p : List ℕ) (o n : ℕ) (h : sound p ≡ true) (fp : has_position p Channels ≡ true) (tg : has_tag p Channels ≡ true) (rm : has_room p Heap (queue_bytes n) ≡ true)
    (lives-owner : live p Jobs o ≡ true) (some : 1 ≤ n) (most : n ≤ longest_queue) where
  abbrev q : List ℕ
  q = opened p o n

  abbrev e : List ℕ
  e = the.e p o n h fp tg rm

  abbrev k : ℕ
  k = the.k p o n h fp tg rm

  abbrev at : ℕ
  at = the.at p o n h fp tg rm

  abbrev g : ℕ
  g = next_tag p Channels

  S : Sound p
  S = the.S p o n h fp tg rm

  E : Entered p e Channels k g o (header_byte at)
  E = the.entry p o n h fp tg rm

  there : k < positions Channels
  there = the.there p o n h fp tg rm

  vacant : used p Channels k ≡ false
  vacant = the.vacant p o n h fp tg rm

  J : JobsSame p q
  J = the.jobs_same p o n h fp tg rm

  lives : Lives p q
  lives = jobs_live p q J

  -- from the entry to its last longword
  step : (j : ℕ) → (j ≡ slot Channels k + ending_field → ⊥) → word q j ≡ word e j
  step = the.q_other p o n h fp tg rm

  mask_step : members q Channels ≡ members e Channels
  mask_step = members_same e q Channels (λ j x. let l = holds_low Channels j x in step j (λ y. omega arith))

  last_step : word q (last_word Channels) ≡ word e (last_word Channels)
  last_step = step (last_word Channels) (λ x. omega arith)

  field_step : (j f : ℕ) → f ≤ base_field → field q Channels j f ≡ field e Channels j f
  field_step j f l = step (slot Channels j + f) (λ x. omega arith)

  field_else : (j f : ℕ) → f < width Channels → (j ≡ k → ⊥) → field q Channels j f ≡ field e Channels j f
  field_else j f l m = step (slot Channels j + f) (λ x. m (omega arith))

  used_step : (j : ℕ) → used q Channels j ≡ used e Channels j
  used_step = used_same e q Channels mask_step

  -- the records of channels
  e_lives : Lives p e
  e_lives = lives_in_both p e Channels k g o (header_byte at) E there vacant Jobs

  e_entries : Entries e Channels
  e_entries = entering_keeps_the_records p e Channels k g o (header_byte at) E there vacant (omega arith) S.channels.entries (the.tag_left p o n h fp tg rm) (inr (e_lives o lives-owner))

  lives_step : Lives e q
  lives_step m x = live_same e q Jobs (members_same e q Jobs (λ j x. let l = holds_low Jobs j x in step j (λ y. omega arith))) (λ j l. step (slot Jobs j + number_field) (λ y. omega arith)) m ∙ x

  used_new : used q Channels k ≡ true
  used_new = used_step k ∙ used_here p e Channels k g o (header_byte at) E there vacant

  entries : Entries q Channels
  entries = entries_same e q Channels
      (record { mask = mask_step; last = last_step; numbers = λ j l. field_step j number_field (omega arith); owners = λ j l. field_step j owner_field (omega arith) })
      lives_step
      (λ j f l m u. field_else j f m (λ x. false_true (sym u ∙ ap (used q Channels) x ∙ used_new)) ∙ e_entries.unused j f l m (sym (used_step j) ∙ u))
      e_entries

  cases : (j : ℕ) → used q Channels j ≡ true → (j ≡ k) ⊎ ((j ≡ k → ⊥) × (used p Channels j ≡ true))
  cases j u = new_or_old p e Channels k g o (header_byte at) E there vacant j (sym (used_step j) ∙ u)

  pub old : (j f : ℕ) → j < positions Channels → f < width Channels → (j ≡ k → ⊥) → field q Channels j f ≡ field p Channels j f
  old j f l m x = field_else j f m x ∙ field_old p e Channels k g o (header_byte at) E there vacant j f l m x

  channels : Channels_fine q
  channels = record {
    entries = entries;
    one = λ j u. ⊎_elim
        (λ (x : j ≡ k). rw x (the.q_one p o n h fp tg rm))
        (λ (v : (j ≡ k → ⊥) × (used p Channels j ≡ true)). old j ending_field (used_below p Channels j v.1) (omega arith) v.0 ∙ S.channels.one j v.1)
        (cases j u);
  }

  -- the new block
  fine : (i : ℕ) → i ≡ at → Fine q Heap i
  fine i x = rw x (record {
    fits = let z = the.at_kind p o n h fp tg rm in omega arith;
    starts_zero = inr (the.at_start p o n h fp tg rm);
    queue = λ z. the.at_queue p o n h fp tg rm some most;
    held = inr (rw (the.at_holder p o n h fp tg rm) (lives o lives-owner));
  })

  -- the new entry and the new block
  abbrev Pair : Table → ℕ → ℕ → Type 0
  Pair t j x = (t ≡ Channels) × ((j ≡ k) × (x ≡ at))

  has_block_there : (j : ℕ) → has_block q Channels j ≡ true → used p Channels j ≡ true → has_block p Channels j ≡ true
  unfolding has_block
  has_block_there j c u = rw ((both (leb (first Channels) j) (used q Channels j) c).0, u)

  still : (t : Table) (j : ℕ) → j < positions t → has_block p t j ≡ true → Still p q t j
  unfolding has_block
  still Channels j l x =
      let u = has_block_used p Channels j x in
      let m = another p e Channels k g o (header_byte at) E there vacant j u in
      record {
        before = x;
        now_too = rw ((both (leb (first Channels) j) (used p Channels j) x).0, used_step j ∙ still_used p e Channels k g o (header_byte at) E there vacant j u);
        base_as_was = old j base_field l (omega arith) m;
        owner_as_was = old j owner_field l (omega arith) m;
      }
  still Jobs j l x = record { before = x; now_too = has_block_same p q Jobs J.mask j ∙ x; base_as_was = J.fields j base_field l (omega arith); owner_as_was = J.fields j owner_field l (omega arith) }

  entries_by : (t : Table) (j : ℕ) → j < positions t → has_block q t j ≡ true → Still p q t j ⊎ ((i : ℕ) × Pair t j i)
  entries_by Channels j l x = ⊎_elim
      (λ (y : j ≡ k). inr (at, (refl, (y, refl))))
      (λ (v : (j ≡ k → ⊥) × (used p Channels j ≡ true)). inl (still Channels j l (has_block_there j x v.1)))
      (cases j (has_block_used q Channels j x))
  entries_by Jobs j l x = inl (still Jobs j l (sym (has_block_same p q Jobs J.mask j) ∙ x))

  new_block : (t : Table) (i : ℕ) → (Heap ≡ area_of t) × (i ≡ at) → (j : ℕ) × Pair t j i
  new_block Channels i x = (k, (refl, (refl, x.1)))
  new_block Jobs i x = absurd (elsewhere x.0)

  pub pair : Matches q Channels k at
  unfolding has_block
  pair = record {
    has = rw (le-leb 0 k (omega arith), used_new);
    sorts = the.at_kind p o n h fp tg rm;
    place = field_step k base_field (omega arith) ∙ E.its_base;
    held = field_step k owner_field (omega arith) ∙ E.its_owner ∙ sym (the.at_holder p o n h fp tg rm);
  }

  rematched : (t : Table) → Rematched p q t (Pair t)
  rematched t = record {
    entries = entries_by t;
    homes = λ j i s m w. ⊎_elim (λ b. b) (λ (x : (Heap ≡ area_of t) × None i). absurd x.1) (change_homes p q Heap (Only at) None (the.change p o n h fp tg rm) (the.lies p o n h fp tg rm) S.tiled t i m w.sorts);
    standing = λ i m z. ⊎_elim inl (λ x. inr (new_block t i x)) (change_standing p q Heap (Only at) None (the.change p o n h fp tg rm) (the.lies p o n h fp tg rm) S.tiled t i m z);
    heirs = λ j i l b w. still t j l w.has;
    new_matches = λ j i x. own t j i x;
    new_block = λ j i x m z. taken t i x.0 x.1.1 z;
    once = λ j x i a b. a.1.0 ∙ sym b.1.0;
  }
    where
      own : (t : Table) (j i : ℕ) → Pair t j i → (j < positions t) × (In i (blocks q (area_of t)) × Matches q t j i)
      own Channels j i x = rw (x.1.0, x.1.1) (there, (the.at_there p o n h fp tg rm, pair))
      own Jobs j i x = absurd (no_channel x.0)

      taken : (t : Table) (i : ℕ) → t ≡ Channels → i ≡ at → kind p i ≡ kind_of t → ⊥
      taken Channels i x y z = let f : kind p at ≡ 0 = eqb-true _ _ (the.at_free p o n h fp tg rm) in let w : kind p at ≡ queue_kind = rw y at z in omega arith
      taken Jobs i x y z = no_channel x

  low : (j : ℕ) → j < first_record Channels → Spares Channels j → (j ≡ last_word Channels → ⊥) → word q j ≡ word p j
  low = the.q_low p o n h fp tg rm

  pub opened_sound : sound (opened p o n) ≡ true
  opened_sound = sound_again q (record {
    sizes = sizes_kept p q (the.q_long p o n h fp tg rm) (λ i (x : Fixed i). let l = x.low in low i (omega arith) (x.spared Channels) (x.no_tag Channels))
        (elim [ Jobs ↦ rw J.last (S.sizes.last Jobs) | Channels ↦ rw (last_step, E.last) (the.tag_left p o n h fp tg rm) ])
        S.sizes;
    jobs = jobs_kept p q J S.jobs;
    channels = channels;
    tiled = change_tiled p q Heap (Only at) None (the.change p o n h fp tg rm) (the.lies p o n h fp tg rm) S.tiled lives fine;
    matched = λ t. still_matched p q t (Pair t) (rematched t) (S.matched t);
    current = current_kept p q J S.current;
  })

  pub opened_ages : (t : Table) → Ages p (opened p o n) t
  opened_ages Jobs = jobs_age p q J
  opened_ages Channels = ages_then p e q Channels (entering_ages p e Channels k g o (header_byte at) E there vacant (omega arith) Channels) (ages_same e q Channels last_step mask_step (λ j l. field_step j number_field (omega arith)))
