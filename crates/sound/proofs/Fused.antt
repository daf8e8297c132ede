-- What the test computes is soundness: from either all the rules follow.
use Prim.Native.Nat.{ℕ, ◌<◌}
use mathlib.Core.Path.{◌≡◌}
use mathlib.Core.Bool.{true}
use mathlib.Core.Logic.{⊎_elim}
use mathlib.Core.List.{List}
use native.Mathlib.Omega.{arith}
use lib.Dec.{leb}
use borrow.Author.Tests.{eqb-true, eqb-false, ne_eqb, leb-true, not-true}
use Rattle.words.specs.Each.{In}
use Rattle.words.proofs.Tests.{both, either, same_test}
use Rattle.words.proofs.Each.{all_at}
use Rattle.picture.specs.Layout.{positions, upto}
use Rattle.picture.specs.declared.Table.{Table}
use Rattle.picture.specs.declared.Table.TheVariants.{Jobs, Channels}
use Rattle.picture.specs.declared.Area.{Area}
use Rattle.picture.specs.declared.Area.TheVariants.{Heap, Transient}
use Rattle.blocks.specs.Header.{kind, kind_of, job_kind, queue_kind, free}
use Rattle.blocks.specs.Walk.{blocks}
use Rattle.sound_matching.specs.Match.{area_of, block_matched}
use Rattle.sound_entries.specs.Entries.{record_fine}
use Rattle.sound_entries.proofs.Rules.{Entry, Job, Channel, job_is, is_job, channel_is, is_channel}
use Rattle.sound_walks.proofs.Rules.{Block}
use Rattle.sound_areas.specs.Rules.{kind_fits, holder_live}
use Rattle.sound.specs.Rule.{Rule}
use Rattle.sound.specs.Sound.{sound}
use Rattle.sound.specs.Test.{half_fine, tested}
use Rattle.sound.proofs.Holds.{Holds, sound_holds, sound_by}
use Rattle.sound_whole.proofs.Whole.{Whole, whole_is, is_whole}
use Rattle.sound.proofs.Halves.{Half, half_is, is_half, half_by, half_blocks, half_entries, half_held, half_block}

module _ (p : List ℕ) where
  -- a block of another kind is nobody's
  other_kind_matched : (t : Table) (i : ℕ) → (kind p i ≡ kind_of t → ⊥) → block_matched p t i ≡ true
  unfolding block_matched
  other_kind_matched t i n = rw (ne_eqb (kind p i) (kind_of t) n)

  no_job : (i : ℕ) → kind_fits p Heap i ≡ true → kind p i ≡ job_kind → ⊥
  unfolding kind_fits
  no_job i h = eqb-false (kind p i) job_kind (not-true _ h)

  no_queue : (i : ℕ) → kind_fits p Transient i ≡ true → kind p i ≡ queue_kind → ⊥
  unfolding kind_fits
  no_queue i h q = ⊎_elim
      (λ (e : free p i ≡ true). let z = eqb-true (kind p i) 0 e in omega arith)
      (λ (e : leb job_kind (kind p i) ≡ true). let z = leb-true job_kind (kind p i) e in omega arith)
      (either _ _ h)

  -- the table whose blocks lie in an area
  abbrev table_in : Area → Table
  table_in Heap = Channels
  table_in Transient = Jobs

  -- what the test says, rule by rule
  module _ (w : Whole p) (h : (t : Table) → Half p t) where
    job : (k : ℕ) → k < positions Jobs → Job p k
    job k l = job_is p k ((h Jobs).records k l)

    channel : (k : ℕ) → k < positions Channels → Channel p k
    channel k l = channel_is p k ((h Channels).records k l)

    entry : (t : Table) (k : ℕ) → k < positions t → Entry p t k
    entry Jobs k l = (job k l).entry
    entry Channels k l = (channel k l).entry

    block : (a : Area) (i : ℕ) → In i (blocks p a) → Block p (table_in a) (upto p a) i
    block Heap = half_block p Channels (h Channels)
    block Transient = half_block p Jobs (h Jobs)

    fits : (a : Area) (i : ℕ) → In i (blocks p a) → kind_fits p a i ≡ true
    fits Heap i m = (block Heap i m).fits
    fits Transient i m = (block Transient i m).fits

    blocks_in : (t : Table) (a : Area) (i : ℕ) → In i (blocks p a) → block_matched p t i ≡ true
    blocks_in Jobs Heap i m = other_kind_matched Jobs i (no_job i (fits Heap i m))
    blocks_in Jobs Transient i m = all_at (block_matched p Jobs) (blocks p Transient) (half_blocks p Jobs (h Jobs)) i m
    blocks_in Channels Heap i m = all_at (block_matched p Channels) (blocks p Heap) (half_blocks p Channels (h Channels)) i m
    blocks_in Channels Transient i m = other_kind_matched Channels i (no_queue i (fits Transient i m))

    held : (a : Area) (i : ℕ) → In i (blocks p a) → holder_live p i ≡ true
    held Heap = half_held p Channels (h Channels) (λ k l. (entry Channels k l).owner)
    held Transient = half_held p Jobs (h Jobs) (λ k l. (entry Jobs k l).owner)

    by_name : (r : Rule) → Holds p r
    by_name Rule.size_stated = w.size
    by_name Rule.seven_zero = w.nought
    by_name Rule.heap_stated = w.heap
    by_name Rule.zero_base = λ k l. (job k l).base
    by_name Rule.priority_within = λ k l. (job k l).priority
    by_name Rule.accumulated_within = λ k l. (job k l).accumulated
    by_name Rule.timeout_within = λ k l. (job k l).timeout
    by_name Rule.ends_in_one = λ k l. (channel k l).ending
    by_name (Rule.blank t) = λ k l. (entry t k l).unused
    by_name (Rule.positioned t) = λ k l. (entry t k l).place
    by_name Rule.zero_exists = λ k l. (job k l).nought
    by_name (Rule.tag_within t) = λ k l. (entry t k l).tagged
    by_name (Rule.tag_once t) = λ k l. (entry t k l).once
    by_name Rule.length_whole = λ a i m. (block a i m).size
    by_name Rule.kind_known = λ a i m. (block a i m).known
    by_name Rule.start_zero = λ a i m. (block a i m).start
    by_name Rule.free_blank = λ a i m. (block a i m).free
    by_name Rule.queue_room = λ a i m. (block a i m).queue
    by_name Rule.tiles = λ a i m. (block a i m).tile
    by_name Rule.untouched = λ a i m. (block a i m).lone
    by_name Rule.kind_fits = fits
    by_name (Rule.block_matched t) = blocks_in t
    by_name (Rule.entry_matched t) = half_entries p t (h t)
    by_name (Rule.owner_live t) = λ k l. (entry t k l).owner
    by_name Rule.holder_live = held
    by_name Rule.owner_older = λ k l. (job k l).older
    by_name Rule.zero_unowned = λ k l. (job k l).unowned
    by_name (Rule.tag_given t) = λ k l. (entry t k l).given
    by_name (Rule.last_within t) = w.last t
    by_name Rule.current_ready = w.current
    by_name Rule.wait_allowed = λ k l. (job k l).waits
    by_name Rule.idle_zero = λ k l. (job k l).idle

  tested_sound : tested p ≡ true → sound p ≡ true
  unfolding tested
  tested_sound h =
      let a = both _ _ h in
      let b = both _ _ a.1 in
      sound_by p (by_name (whole_is p a.0) (elim [ Jobs ↦ half_is p Jobs b.0 | Channels ↦ half_is p Channels b.1 ]))

  -- what soundness says, in the test's parts
  module _ (h : (r : Rule) → Holds p r) where
    entry_by : (t : Table) (k : ℕ) → k < positions t → Entry p t k
    entry_by t k l = record {
      unused = h (Rule.blank t) k l;
      place = h (Rule.positioned t) k l;
      tagged = h (Rule.tag_within t) k l;
      once = h (Rule.tag_once t) k l;
      owner = h (Rule.owner_live t) k l;
      given = h (Rule.tag_given t) k l;
    }

    job_by : (k : ℕ) → k < positions Jobs → Job p k
    job_by k l = record {
      entry = entry_by Jobs k l;
      nought = h Rule.zero_exists k l;
      base = h Rule.zero_base k l;
      unowned = h Rule.zero_unowned k l;
      priority = h Rule.priority_within k l;
      accumulated = h Rule.accumulated_within k l;
      timeout = h Rule.timeout_within k l;
      older = h Rule.owner_older k l;
      waits = h Rule.wait_allowed k l;
      idle = h Rule.idle_zero k l;
    }

    record_by : (t : Table) (k : ℕ) → k < positions t → record_fine p t k ≡ true
    record_by Jobs k l = is_job p k (job_by k l)
    record_by Channels k l = is_channel p k (record { entry = entry_by Channels k l; ending = h Rule.ends_in_one k l })

    block_by : (t : Table) (i : ℕ) → In i (blocks p (area_of t)) → Block p t (upto p (area_of t)) i
    block_by t i m = record {
      size = h Rule.length_whole (area_of t) i m;
      tile = h Rule.tiles (area_of t) i m;
      known = h Rule.kind_known (area_of t) i m;
      fits = h Rule.kind_fits (area_of t) i m;
      start = h Rule.start_zero (area_of t) i m;
      free = h Rule.free_blank (area_of t) i m;
      lone = h Rule.untouched (area_of t) i m;
      queue = h Rule.queue_room (area_of t) i m;
    }

    half : (t : Table) → half_fine p t ≡ true
    half t = is_half p t (half_by p t (record_by t) (block_by t) (h (Rule.block_matched t) (area_of t)) (h (Rule.entry_matched t)) (h Rule.holder_live (area_of t)))

    whole_by : Whole p
    whole_by = record { size = h Rule.size_stated; nought = h Rule.seven_zero; heap = h Rule.heap_stated; last = λ t. h (Rule.last_within t); current = h Rule.current_ready }

  sound_tested : sound p ≡ true → tested p ≡ true
  unfolding tested
  sound_tested s = let h = sound_holds p s in rw (is_whole p (whole_by h), half h Jobs, half h Channels)

  -- the test is soundness
  pub tested_is : tested p ≡ sound p
  tested_is = same_test (tested p) (sound p) tested_sound sound_tested
