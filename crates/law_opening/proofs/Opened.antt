-- A channel opened in a sound picture: its entry, its block, and what has changed.
use Prim.Native.Nat.{ℕ, ◌+◌, ◌/◌, ◌%◌, ◌≤◌, ◌<◌}
use mathlib.Core.Path.{◌≡◌, sym, ◌∙◌, subst}
use mathlib.Core.Bool.{true, false}
use mathlib.Core.Logic.{inl, inr}
use mathlib.Core.List.{List}
use lib.ListN.{length, length-set}
use lib.Seq.{get_or-set_same, get_or-set_other}
use native.Mathlib.Omega.{arith}
use borrow.Author.Tests.{ltb-true}
use Rattle.words.specs.Words.{word}
use Rattle.words.specs.Each.{In}
use Rattle.words.proofs.Tests.{false_true}
use Rattle.picture.specs.Layout.{heap_base, heap_word, size_word, last_word, greatest_tag, positions, from, upto, first_record, current_word}
use Rattle.picture.specs.Records.{slot, used, ending_field}
use Rattle.picture.specs.Numbers.{free_position}
use Rattle.picture.specs.declared.Table.TheVariants.{Jobs, Channels}
use Rattle.picture.specs.declared.Area.{Area}
use Rattle.picture.specs.declared.Area.TheVariants.{Heap}
use Rattle.picture.proofs.Records.{slot_within}
use Rattle.picture.proofs.Members.{Holds, Spares, holds_low, spares_past, spares_size, spares_current, spares_heap, spares_last, spares_other, members_same, jobs_apart}
use Rattle.blocks.specs.Header.{header_width, kind_field, holder_field, start_field, queue_length_field, queue_oldest_field, queue_count_field, queue_zero_field, queue_bytes_field, with_queue_length, size, kind, queue_kind, free, holder, start, queue_length}
use Rattle.blocks.specs.Walk.{starts, blocks}
use Rattle.blocks.proofs.Starts.{starts_in}
use Rattle.headers.specs.Header.{Outside}
use Rattle.placing.specs.Place.{placed}
use Rattle.law_placing.specs.Placed.{Placed}
use Rattle.placing.proofs.Chosen.{Chosen}
use Rattle.sound_areas.specs.Rules.{longest_queue}
use Rattle.sound.specs.Sound.{sound}
use Rattle.sound_facts.proofs.Sound.{Queue, Sound}
use Rattle.sound_facts.proofs.View.{view}
use Rattle.sound_facts.proofs.Same.{starts_between, within}
use Rattle.rooms.specs.Room.{spot, header_byte}
use Rattle.rooms.proofs.Room.{has_room, spot_is_free_and_enough}
use Rattle.rooms.proofs.Sizes.{Lies, areas_lie_in_a_sound_picture}
use Rattle.entering.specs.Entry.{has_position, has_tag, next_tag, entered}
use Rattle.law_entering.proofs.Written.{Entered, entered_is, entering_keeps_the_areas, entered_after}
use Rattle.entering.proofs.Vacant.{free_position_is_free}
use Rattle.law_blocks.proofs.Tables.{TablesSame}
use Rattle.law_blocks.proofs.Change.{Change, from_same, upto_same, change_then}
use Rattle.law_blocks.proofs.Placing.{None, Only, placed_facts, placing_keeps_the_tables, placing_is_a_change}
use Rattle.opening.specs.Effects.{queue_bytes, queued, channelled, opened}
use Rattle.sound_facts.proofs.Jobs.{JobsSame}
use Rattle.law_opening.proofs.Room.{room_walk, change_room}

units : (n : ℕ) → queue_bytes n % 16 ≡ 0
units n = omega arith

least : (n : ℕ) → 16 ≤ queue_bytes n
least n = omega arith

module _ (p : List ℕ) (o n : ℕ) (h : sound p ≡ true) (free-place : has_position p Channels ≡ true) (tagged : has_tag p Channels ≡ true) (room : has_room p Heap (queue_bytes n) ≡ true) where
  pub S : Sound p
  S = view p h

  pub lies : (a : Area) → Lies p a
  lies = areas_lie_in_a_sound_picture p h

  abbrev pub k : ℕ
  k = free_position p Channels

  abbrev pub at : ℕ
  at = spot p Heap (queue_bytes n)

  abbrev r₀ : List ℕ
  r₀ = placed p (spot p Heap (queue_bytes n)) (queue_bytes n) queue_kind o 0

  abbrev r : List ℕ
  r = with_queue_length (placed p (spot p Heap (queue_bytes n)) (queue_bytes n) queue_kind o 0) (spot p Heap (queue_bytes n)) n

  abbrev pub e : List ℕ
  e = entered r Channels (free_position p Channels) (next_tag p Channels) o (header_byte (spot p Heap (queue_bytes n)))

  abbrev pub q : List ℕ
  q = opened p o n

  pub there : k < positions Channels
  unfolding has_position
  there = ltb-true (free_position p Channels) (positions Channels) free-place

  pub vacant : used p Channels k ≡ false
  vacant = free_position_is_free p Channels there

  pub tag_left : next_tag p Channels ≤ greatest_tag
  unfolding has_tag
  tag_left = let l = ltb-true (word p (last_word Channels)) greatest_tag tagged in omega arith

  -- first the block
  B : Placed p r₀ (from p Heap) (upto p Heap) at (queue_bytes n) queue_kind o 0
  B = placed_facts p Heap (queue_bytes n) queue_kind o 0 (S.tiled Heap) (lies Heap) room (units n) (least n) (λ z. omega arith)

  C : Chosen p (from p Heap) (upto p Heap) (queue_bytes n) at
  C = spot_is_free_and_enough p Heap (queue_bytes n) room

  pub at_free : free p at ≡ true
  at_free = C.is_free

  at_behind : heap_base ≤ at
  at_behind = (starts_in p (from p Heap) (upto p Heap) at C.there).0

  block_tables : TablesSame p r₀
  block_tables = placing_keeps_the_tables p Heap (queue_bytes n) queue_kind o 0 (S.tiled Heap) (lies Heap) room (units n) (least n) (λ z. omega arith)

  at_ends : at + queue_bytes n / 4 ≤ upto p Heap
  at_ends = subst (λ (x : ℕ). at + x / 4 ≤ upto p Heap) B.its_size (within r₀ at (upto p Heap) (B.tiled at B.there) (starts_in r₀ (from p Heap) (upto p Heap) at B.there).1)

  at_inside : at + queue_bytes_field ≤ length r₀
  at_inside = let b = at_ends in let g = (lies Heap).inside in rw B.as_long (omega arith)

  -- then its length
  length_other : (j : ℕ) → (j ≡ at + queue_length_field → ⊥) → word r j ≡ word r₀ j
  length_other j m = get_or-set_other r₀ (at + queue_length_field) j n 0 m

  length_there : word r (at + queue_length_field) ≡ n
  length_there = get_or-set_same r₀ (at + queue_length_field) n 0 (let l = at_inside in omega arith)

  r_tables : TablesSame p r
  r_tables = record { words = λ j l. let b = at_behind in length_other j (λ z. omega arith) ∙ block_tables.words j l; long = simp length-set block_tables.long }

  r_begins : (b : Area) → from r b ≡ from p b
  r_begins = from_same p r (r_tables.words heap_word (omega arith))

  r_ends : (b : Area) → upto r b ≡ upto p b
  r_ends = upto_same p r (r_tables.words heap_word (omega arith)) (r_tables.words size_word (omega arith))

  vacated : In at (blocks p Heap) → free p at ≡ false → ⊥
  vacated m f = false_true (sym f ∙ at_free)

  outside_room : (j : ℕ) → Outside (at + header_width) (at + size r₀ at / 4) j → word r j ≡ word r₀ j
  outside_room j (inl l) = length_other j (λ z. omega arith)
  outside_room j (inr l) = let z = B.its_size in length_other j (λ y. let x : at + queue_bytes n / 4 ≤ j = subst (λ (t : ℕ). at + t / 4 ≤ j) z l in omega arith)

  placing_change : Change p r₀ Heap (Only at) None
  placing_change = placing_is_a_change p Heap (queue_bytes n) queue_kind o 0 (S.tiled Heap) (lies Heap) room (units n) (least n) (λ z. omega arith)

  r_change : Change p r Heap (Only at) None
  r_change = change_room p r₀ r Heap (Only at) None placing_change at B.there vacated outside_room r_begins r_ends

  r_walk : starts r (from p Heap) (upto p Heap) ≡ starts r₀ (from p Heap) (upto p Heap)
  r_walk = room_walk p r₀ r Heap (Only at) None placing_change at B.there vacated outside_room r_begins r_ends

  -- then the entry, and its last longword
  whole : heap_base ≤ length r
  whole = let m = S.sizes.least in rw r_tables.long (omega arith)

  pub entry : Entered p e Channels k (next_tag p Channels) o (header_byte at)
  entry = entered_after p r e Channels k (next_tag p Channels) o (header_byte at) r_tables (entered_is r Channels k (next_tag p Channels) o (header_byte at) there whole)

  e_long : length e ≡ length p
  e_long = entry.long

  pub q_other : (j : ℕ) → (j ≡ slot Channels k + ending_field → ⊥) → word q j ≡ word e j
  unfolding opened channelled queued
  q_other j m = get_or-set_other e (slot Channels k + ending_field) j 1 0 m

  pub q_one : word q (slot Channels k + ending_field) ≡ 1
  unfolding opened channelled queued
  q_one = get_or-set_same e (slot Channels k + ending_field) 1 0 (let w = slot_within Channels k there in let m = S.sizes.least in rw e_long (omega arith))

  pub q_long : length q ≡ length p
  unfolding opened channelled queued
  q_long = simp length-set e_long

  q_areas : (j : ℕ) → heap_base ≤ j → word q j ≡ word r j
  q_areas j l = let w = slot_within Channels k there in q_other j (λ z. omega arith) ∙ entering_keeps_the_areas r Channels k (next_tag p Channels) o (header_byte at) there whole j l

  pub q_low : (j : ℕ) → j < first_record Channels → Spares Channels j → (j ≡ last_word Channels → ⊥) → word q j ≡ word p j
  q_low j l a b = q_other j (λ z. omega arith) ∙ entry.other j (omega arith) (inl (omega arith)) a b

  pub change : Change p q Heap (Only at) None
  change =
      let z = q_low heap_word (omega arith) (spares_heap Channels) (λ x. omega arith) in
      change_then p r q Heap (Only at) None r_change lies (from_same p q z) (upto_same p q z (q_low size_word (omega arith) (spares_size Channels) (λ x. omega arith))) q_areas

  pub jobs_same : JobsSame p q
  jobs_same = record {
    fields = λ j f a b. q_low (slot Jobs j + f) (omega arith) (spares_past Channels (slot Jobs j + f) (omega arith)) (λ x. omega arith);
    mask = members_same p q Jobs (λ j x. let l = holds_low Jobs j x in q_low j (omega arith) (spares_other Channels Jobs jobs_apart j x) (λ z. spares_last Jobs Channels (subst (Holds Jobs) z x)));
    last = q_low (last_word Jobs) (omega arith) (spares_last Channels Jobs) (λ x. omega arith);
    current = q_low current_word (omega arith) (spares_current Channels) (λ x. omega arith);
  }

  -- its block in the picture that is left
  pub at_there : In at (blocks q Heap)
  at_there =
      let w = starts_between r q (from p Heap) (upto p Heap) (λ j l m. q_areas j l) in
      rw (change.ends Heap, w, r_walk) B.there

  in_block : (j : ℕ) → (j ≡ at + queue_length_field → ⊥) → at ≤ j → word q j ≡ word r₀ j
  in_block j m l = let b = at_behind in q_areas j (omega arith) ∙ length_other j m

  pub at_kind : kind q at ≡ queue_kind
  at_kind = in_block (at + kind_field) (λ z. omega arith) (omega arith) ∙ B.its_kind

  pub at_holder : holder q at ≡ o
  at_holder = in_block (at + holder_field) (λ z. omega arith) (omega arith) ∙ B.its_owner

  pub at_start : start q at ≡ 0
  at_start = in_block (at + start_field) (λ z. omega arith) (omega arith) ∙ B.its_start

  pub at_room : (f : ℕ) → queue_oldest_field ≤ f → f < queue_bytes_field → word q (at + f) ≡ 0
  at_room f a b = in_block (at + f) (λ z. omega arith) (omega arith) ∙ B.its_room (at + f) (omega arith) (omega arith)

  pub at_queue : 1 ≤ n → n ≤ longest_queue → Queue q at
  at_queue a b =
      let z : queue_length q at ≡ n = (let x = at_behind in q_areas (at + queue_length_field) (omega arith)) ∙ length_there in
      record {
        least = rw z a;
        most = rw z b;
        long = rw z (in_block at (λ x. omega arith) (omega arith) ∙ B.its_size);
        oldest = rw (z, at_room queue_oldest_field (omega arith) (omega arith)) a;
        held = rw (z, at_room queue_count_field (omega arith) (omega arith)) (omega arith);
        nought = at_room queue_zero_field (omega arith) (omega arith);
      }
