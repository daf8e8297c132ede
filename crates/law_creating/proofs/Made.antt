-- A job made in a sound picture: its entry, its block, and what has changed.
use Prim.Native.Nat.{ℕ, ◌+◌, ◌-◌, ◌%◌, ◌≤◌, ◌<◌}
use mathlib.Core.Path.{◌≡◌, refl, ◌∙◌}
use mathlib.Core.Bool.{true, false}
use mathlib.Core.Logic.{◌⊎◌, inl, inr}
use mathlib.Core.List.{List}
use lib.ListN.{length}
use native.Mathlib.Omega.{arith}
use borrow.Author.Tests.{ltb-true}
use Rattle.words.specs.Words.{word}
use Rattle.words.specs.Each.{In}
use Rattle.picture.specs.Layout.{nobody, heap_base, heap_word, size_word, last_word, greatest_tag, positions, from, upto, first_job}
use Rattle.picture.specs.Records.{used}
use Rattle.picture.specs.Numbers.{live, free_position}
use Rattle.picture.specs.declared.Table.{Table}
use Rattle.picture.specs.declared.Table.TheVariants.{Jobs, Channels}
use Rattle.picture.specs.declared.Area.{Area}
use Rattle.picture.specs.declared.Area.TheVariants.{Heap, Transient}
use Rattle.picture.proofs.Members.{Spares, spares_size, spares_heap}
use Rattle.blocks.specs.Header.{kind_field, holder_field, start_field, kind, job_kind, free, holder, start}
use Rattle.blocks.specs.Walk.{blocks}
use Rattle.blocks.proofs.Starts.{starts_in}
use Rattle.placing.specs.Place.{placed}
use Rattle.placing.proofs.Chosen.{Chosen}
use Rattle.law_placing.specs.Placed.{Placed}
use Rattle.sound.specs.Sound.{sound}
use Rattle.sound_facts.proofs.Sound.{Sound, Sizes}
use Rattle.sound_facts.proofs.View.{view}
use Rattle.sound_facts.proofs.Same.{starts_between}
use Rattle.rooms.specs.Room.{block_length, spot, header_byte}
use Rattle.rooms.proofs.Room.{spot_is_free_and_enough}
use Rattle.rooms.proofs.Sizes.{Lies, areas_lie_in_a_sound_picture}
use Rattle.calls.specs.Registers.{D1, D2, D3, A1}
use Rattle.entering.specs.Entry.{has_position, has_tag, next_tag}
use Rattle.law_entering.proofs.Written.{Entered, entered_is, entering_keeps_the_areas, entered_after}
use Rattle.entering.proofs.Vacant.{free_position_is_free}
use Rattle.law_entering.proofs.Kept.{low_other}
use Rattle.law_blocks.proofs.Tables.{TablesSame}
use Rattle.law_blocks.proofs.Change.{Change, from_same, upto_same, change_then}
use Rattle.law_blocks.proofs.Placing.{None, Only, placed_facts, placing_keeps_the_tables, placing_is_a_change}
use Rattle.creating.specs.Create.{owner_found, owner_in, job_length, created}
use Rattle.creating.proofs.Ways.{found_each}
use Rattle.law_creating.proofs.Ways.{Checked}

length_in_units : (n : ℕ) → block_length n % 16 ≡ 0
length_in_units n = omega arith

length_at_least_16 : (n : ℕ) → 16 ≤ block_length n
length_at_least_16 n = omega arith

module _ (p d : List ℕ) (h : sound p ≡ true) (c : Checked p d) where
  pub S : Sound p
  S = view p h

  pub lies : (a : Area) → Lies p a
  lies = areas_lie_in_a_sound_picture p h

  -- its position, tag, owner and block
  abbrev pub place : ℕ
  place = free_position p Jobs

  abbrev pub owner : ℕ
  owner = owner_in (owner_found p (D1 d))

  abbrev pub at : ℕ
  at = spot p Transient (job_length d)

  abbrev pub made : List ℕ
  made = created p d

  abbrev r : List ℕ
  r = placed p (spot p Transient (job_length d)) (job_length d) job_kind (owner_in (owner_found p (D1 d))) (A1 d)

  pub place_there : free_position p Jobs < positions Jobs
  unfolding has_position
  place_there = ltb-true (free_position p Jobs) (positions Jobs) c.place

  pub place_vacant : used p Jobs place ≡ false
  place_vacant = free_position_is_free p Jobs place_there

  pub tag_left : next_tag p Jobs ≤ greatest_tag
  unfolding has_tag
  tag_left = let l = ltb-true (word p (last_word Jobs)) greatest_tag c.tagged in omega arith

  -- the owner is nobody or live
  pub owner_nobody_or_live : (owner ≡ nobody) ⊎ (live p Jobs owner ≡ true)
  owner_nobody_or_live = found_each p (D1 d) (λ f. (owner_in f ≡ nobody) ⊎ (live p Jobs (owner_in f) ≡ true)) (λ _. inl refl) (λ _ l. inr l) (λ _ _. inl refl)

  -- first the block
  pub block_facts : Placed p r (from p Transient) (upto p Transient) at (job_length d) job_kind owner (A1 d)
  block_facts = placed_facts p Transient (job_length d) job_kind owner (A1 d) (S.tiled Transient) (lies Transient) c.room (length_in_units (D2 d + D3 d)) (length_at_least_16 (D2 d + D3 d)) (λ e. omega arith)

  block_tables : TablesSame p r
  block_tables = placing_keeps_the_tables p Transient (job_length d) job_kind owner (A1 d) (S.tiled Transient) (lies Transient) c.room (length_in_units (D2 d + D3 d)) (length_at_least_16 (D2 d + D3 d)) (λ e. omega arith)

  block_change : Change p r Transient (Only at) None
  block_change = placing_is_a_change p Transient (job_length d) job_kind owner (A1 d) (S.tiled Transient) (lies Transient) c.room (length_in_units (D2 d + D3 d)) (length_at_least_16 (D2 d + D3 d)) (λ e. omega arith)

  whole : heap_base ≤ length r
  whole = let m = S.sizes.least in rw block_tables.long (omega arith)

  -- then the entry
  pub made_entry : Entered p made Jobs place (next_tag p Jobs) owner (header_byte at)
  unfolding created
  made_entry = entered_after p r made Jobs place (next_tag p Jobs) owner (header_byte at) block_tables (entered_is r Jobs place (next_tag p Jobs) owner (header_byte at) place_there whole)

  pub made_areas : (j : ℕ) → heap_base ≤ j → word made j ≡ word r j
  unfolding created
  made_areas = entering_keeps_the_areas r Jobs place (next_tag p Jobs) owner (header_byte at) place_there whole

  pub made_low : (j : ℕ) → j < first_job → Spares Jobs j → (j ≡ last_word Jobs → ⊥) → word made j ≡ word p j
  made_low = low_other p made Jobs place (next_tag p Jobs) owner (header_byte at) made_entry place_there place_vacant

  pub made_change : Change p made Transient (Only at) None
  made_change =
      let z = made_low heap_word (omega arith) (spares_heap Jobs) (λ e. omega arith) in
      change_then p r made Transient (Only at) None block_change lies (from_same p made z) (upto_same p made z (made_low size_word (omega arith) (spares_size Jobs) (λ e. omega arith))) made_areas

  -- its block in the picture that is made
  at_behind : heap_base ≤ at
  at_behind =
      let b = starts_in p (from p Transient) (upto p Transient) at (spot_is_free_and_enough p Transient (job_length d) c.room).there in
      let l = (lies Transient).behind in
      omega (arith, b.0)

  pub at_free : free p at ≡ true
  at_free = (spot_is_free_and_enough p Transient (job_length d) c.room).is_free

  pub at_there : In at (blocks made Transient)
  at_there =
      let w = starts_between r made (from p Transient) (upto p Transient) (λ j l m. made_areas j (let y = (lies Transient).behind in omega arith)) in
      rw (made_change.begins Transient, made_change.ends Transient, w) block_facts.there

  pub at_kind : kind made at ≡ job_kind
  at_kind = let l = at_behind in made_areas (at + kind_field) (omega arith) ∙ block_facts.its_kind

  pub at_holder : holder made at ≡ owner
  at_holder = let l = at_behind in made_areas (at + holder_field) (omega arith) ∙ block_facts.its_owner

  pub at_start : start made at ≡ A1 d
  at_start = let l = at_behind in made_areas (at + start_field) (omega arith) ∙ block_facts.its_start
