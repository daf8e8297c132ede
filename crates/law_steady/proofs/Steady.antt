-- A picture that differs from a sound one only in longword 1 and in fields 3 to 7 of job records in use is sound again,
-- once those fields and longword 1 are shown to be fine. It serves the calls $8 to $B, pick and tick.
use Prim.Native.Nat.{ℕ, ◌+◌, ◌*◌, ◌%◌, ◌≤◌, ◌<◌}
use mathlib.Core.Path.{◌≡◌, refl, sym, ap, ◌∙◌, subst}
use mathlib.Core.Bool.{Bool, true, false, ◌&&◌}
use mathlib.Core.Logic.{⊎_elim, ◌⊎◌, inl, inr}
use mathlib.Core.List.{List}
use native.Mathlib.Omega.{arith}
use lib.ListN.{length}
use lib.Dec.{leb, eqb}
use Rattle.words.specs.Words.{word}
use Rattle.picture.specs.Layout.{nobody, size_word, current_word, last_word, heap_word, heap_base, positions, width, first_record, from, upto}
use Rattle.picture.specs.Records.{slot, field, number, owner, base, priority, accumulated, timeout, waited_for, ending, used, ready, base_field, number_field, owner_field, accumulated_field, ending_field, priority_field, timeout_field, wait_field, members}
use Rattle.picture.specs.Numbers.{tag, position, live}
use Rattle.picture.proofs.Records.{used_below}
use Rattle.picture.specs.declared.Table.{Table}
use Rattle.picture.specs.declared.Table.TheVariants.{Jobs, Channels}
use Rattle.picture.specs.declared.Area.{Area}
use Rattle.picture.specs.declared.Area.TheVariants.{Heap, Transient}
use Rattle.sound_matching.specs.Match.{area_of}
use Rattle.sound_matching.proofs.Matched.{Matched}
use Rattle.picture.specs.Layout.{greatest_priority, hold}
use Rattle.picture.proofs.Timeout.{Timely, timeout_same, ready_same}
use Rattle.picture.proofs.Members.{Holds, holds_low, spares_current, members_same}
use Rattle.sound_facts.proofs.Sound.{Sizes, Waits, Entries, Jobs_fine, Channels_fine, Tiled, Current, Sound}
use Rattle.sound_facts.proofs.Same.{Lives, used_same, live_same, EntriesSame, entries_same, AreaSame, blocks_same, kind_same, holder_same, tiled_same, MatchSame, matched_same}
use Rattle.sound_facts.proofs.Ages.{Ages, ages_same}
use Rattle.sound_facts.proofs.Sizes.{Fixed, sizes_kept}

-- the first of the fields that change: priority, accumulated, timeout, waited-for, delivered
abbrev pub first_turning : ℕ
first_turning = 3

-- q differs from p only in longword 1 and in those fields of job records in use
pub record Steady (p q : List ℕ) : Type 0 where
  pub long : length q ≡ length p
  pub before : (i : ℕ) → i < first_record Jobs → (i ≡ current_word → ⊥) → word q i ≡ word p i
  pub fields : (k f : ℕ) → k < positions Jobs → f < first_turning → field q Jobs k f ≡ field p Jobs k f
  pub unused : (k f : ℕ) → k < positions Jobs → f < width Jobs → used p Jobs k ≡ false → field q Jobs k f ≡ field p Jobs k f
  pub after : (i : ℕ) → first_record Channels ≤ i → word q i ≡ word p i

-- what soundness asks of those fields of the record of position k
pub record Turning (q : List ℕ) (k : ℕ) : Type 0 where
  pub urgent : priority q k ≤ greatest_priority
  pub gained : accumulated q k ≤ hold
  pub frames : Timely (timeout q k)
  pub waits : (waited_for q k ≡ 0) ⊎ Waits q k
  pub idle : (accumulated q k ≡ 0) ⊎ (ready q k ≡ true)

-- what is left to show of q
pub record Left (q : List ℕ) : Type 0 where
  pub each : (k : ℕ) → k < positions Jobs → Turning q k
  pub current : Current q

-- the record of position k is the same
abbrev pub Alike : List ℕ → List ℕ → ℕ → Type 0
Alike p q k = (f : ℕ) → f < width Jobs → field q Jobs k f ≡ field p Jobs k f

module _ (p q : List ℕ) (s : Steady p q) where
  mask : (t : Table) → members q t ≡ members p t
  mask t = members_same p q t (λ j h. s.before j (holds_low t j h) (λ e. spares_current t (subst (Holds t) e h)))

  last : (t : Table) → word q (last_word t) ≡ word p (last_word t)
  last Jobs = s.before (last_word Jobs) (omega arith) (λ e. omega arith)
  last Channels = s.before (last_word Channels) (omega arith) (λ e. omega arith)

  pub steady_size : word q size_word ≡ word p size_word
  steady_size = s.before size_word (omega arith) (λ e. omega arith)

  pub steady_heap : word q heap_word ≡ word p heap_word
  steady_heap = s.before heap_word (omega arith) (λ e. omega arith)

  -- number, owner and base of every entry are the same
  pub steady_field : (t : Table) (k f : ℕ) → k < positions t → f < first_turning → field q t k f ≡ field p t k f
  steady_field Jobs k f l m = s.fields k f l m
  steady_field Channels k f l m = s.after (slot Channels k + f) (omega arith)

  pub steady_used : (t : Table) (k : ℕ) → used q t k ≡ used p t k
  steady_used t k = used_same p q t (mask t) k

  pub steady_live : (t : Table) (n : ℕ) → live q t n ≡ live p t n
  steady_live t n = live_same p q t (mask t) (λ k l. steady_field t k number_field l (omega arith)) n

  lives : Lives p q
  lives n h = steady_live Jobs n ∙ h

  entries : (t : Table) → EntriesSame p q t
  entries t = record {
    mask = mask t;
    last = last t;
    numbers = λ k l. steady_field t k number_field l (omega arith);
    owners = λ k l. steady_field t k owner_field l (omega arith);
  }

  heap_on : (i : ℕ) → heap_base ≤ i → word q i ≡ word p i
  heap_on i l = s.after i (omega arith)

  area : (a : Area) → AreaSame p q a
  area Heap = record { starts = refl; stops = rw steady_heap; same = λ i l m. heap_on i (omega arith) }
  area Transient = record { starts = rw steady_heap; stops = steady_size; same = λ i l m. heap_on i (omega arith) }

  -- the last tags given and the live numbers are the same
  pub steady_ages : (t : Table) → Ages p q t
  steady_ages t = ages_same p q t (last t) (mask t) (λ k l. steady_field t k number_field l (omega arith))

  -- a job whose wait and timeout are the same waits as well as it did
  pub waits_kept : (k : ℕ) → k < positions Jobs → waited_for q k ≡ waited_for p k → timeout q k ≡ timeout p k → (waited_for p k ≡ 0) ⊎ Waits p k → (waited_for q k ≡ 0) ⊎ Waits q k
  waits_kept k l w t = ⊎_elim
      (λ e. inl (w ∙ e))
      (λ (x : Waits p k). inr (record {
        alive = rw w (lives (waited_for p k) x.alive);
        other = λ e. x.other (sym w ∙ e ∙ s.fields k number_field l (omega arith));
        forever = t ∙ x.forever;
      }))

  -- a record that is the same is as fine as it was
  pub alike_turning : (k : ℕ) → k < positions Jobs → Alike p q k → Turning p k → Turning q k
  alike_turning k l a T = record {
    urgent = rw (a priority_field (omega arith)) T.urgent;
    gained = rw (a accumulated_field (omega arith)) T.gained;
    frames = subst Timely (sym (timeout_same p q k (a timeout_field (omega arith)))) T.frames;
    waits = waits_kept k l (a wait_field (omega arith)) (timeout_same p q k (a timeout_field (omega arith))) T.waits;
    idle = rw (a accumulated_field (omega arith), ready_same p q k (a priority_field (omega arith)) (timeout_same p q k (a timeout_field (omega arith)))) T.idle;
  }

  module _ (S : Sound p) where
    sizes : Sizes q
    sizes = sizes_kept p q s.long (λ i (x : Fixed i). s.before i x.low x.not_current) (λ t. rw (last t) (S.sizes.last t)) S.sizes

    was_used : (t : Table) (k : ℕ) → used q t k ≡ true → used p t k ≡ true
    was_used t k u = sym (steady_used t k) ∙ u

    jobs_blank : (k f : ℕ) → k < positions Jobs → f < width Jobs → used q Jobs k ≡ false → field q Jobs k f ≡ 0
    jobs_blank k f l m u =
        let v = sym (steady_used Jobs k) ∙ u in
        s.unused k f l m v ∙ S.jobs.entries.unused k f l m v

    channels_blank : (k f : ℕ) → k < positions Channels → f < width Channels → used q Channels k ≡ false → field q Channels k f ≡ 0
    channels_blank k f l m u = s.after (slot Channels k + f) (omega arith) ∙ S.channels.entries.unused k f l m (sym (steady_used Channels k) ∙ u)

    jobs : Left q → Jobs_fine q
    jobs L =
        let J = S.jobs in
        record {
          entries = entries_same p q Jobs (entries Jobs) lives jobs_blank J.entries;
          zero_lives = steady_used Jobs 0 ∙ J.zero_lives;
          zero_number = s.fields 0 number_field (omega arith) (omega arith) ∙ J.zero_number;
          zero_base = s.fields 0 base_field (omega arith) (omega arith) ∙ J.zero_base;
          zero_unowned = s.fields 0 owner_field (omega arith) (omega arith) ∙ J.zero_unowned;
          urgent = λ k l. (L.each k l).urgent;
          gained = λ k l. (L.each k l).gained;
          frames = λ k l. (L.each k l).frames;
          older = λ k u. older k (was_used Jobs k u);
          waits = λ k l. (L.each k l).waits;
          idle = λ k l. (L.each k l).idle;
        }
      where
        older : (k : ℕ) → used p Jobs k ≡ true → (owner q Jobs k ≡ nobody) ⊎ (tag (owner q Jobs k) < tag (number q Jobs k))
        older k u = let l = used_below p Jobs k u in rw (s.fields k number_field l (omega arith), s.fields k owner_field l (omega arith)) (S.jobs.older k u)

    channels : Channels_fine q
    channels = record {
      entries = entries_same p q Channels (entries Channels) lives channels_blank S.channels.entries;
      one = λ k u. s.after (slot Channels k + ending_field) (omega arith) ∙ S.channels.one k (was_used Channels k u);
    }

    matched : (t : Table) → Matched q t
    matched t =
        let a = area (area_of t) in
        let T = S.tiled (area_of t) in
        matched_same p q t
        (record {
          mask = mask t;
          owners = λ k l. steady_field t k owner_field l (omega arith);
          bases = λ k l. steady_field t k base_field l (omega arith);
          walk = blocks_same p q (area_of t) a;
          kinds = kind_same p q (area_of t) a T;
          holders = holder_same p q (area_of t) a T;
        })
        (S.matched t)

    -- sound again
    pub steady_sound : Left q → Sound q
    steady_sound L = record {
      sizes = sizes;
      jobs = jobs L;
      channels = channels;
      tiled = λ a. tiled_same p q a (area a) (S.tiled a) lives;
      matched = matched;
      current = L.current;
    }

    -- what soundness says of those fields
    pub sound_turning : (k : ℕ) → k < positions Jobs → Turning p k
    sound_turning k l = let J = S.jobs in record { urgent = J.urgent k l; gained = J.gained k l; frames = J.frames k l; waits = J.waits k l; idle = J.idle k l }

    -- sound again where each record is the same or fine
    pub steady_sound_by : ((k : ℕ) → k < positions Jobs → Alike p q k ⊎ Turning q k) → Current q → Sound q
    steady_sound_by h c = steady_sound (record { each = λ k l. ⊎_elim (λ a. alike_turning k l a (sound_turning k l)) (λ t. t) (h k l); current = c })

-- nothing changes; two changes in a row
pub steady_still : (p : List ℕ) → Steady p p
steady_still p = record { long = refl; before = λ i l n. refl; fields = λ k f l m. refl; unused = λ k f l m u. refl; after = λ i l. refl }

pub steady_then : (p q r : List ℕ) → Steady p q → Steady q r → Steady p r
steady_then p q r s t = record {
  long = t.long ∙ s.long;
  before = λ i l n. t.before i l n ∙ s.before i l n;
  fields = λ k f l m. t.fields k f l m ∙ s.fields k f l m;
  unused = λ k f l m u. t.unused k f l m (steady_used p q s Jobs k ∙ u) ∙ s.unused k f l m u;
  after = λ i l. t.after i l ∙ s.after i l;
}
