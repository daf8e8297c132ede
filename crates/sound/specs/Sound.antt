-- Document 01 (rule 16): "A picture is sound if ..": every rule holds.
use Rattle.std.specs.Prelude.{ℕ, Bool, true, ◌&&◌, List, [], ◌∷◌}
use Rattle.words.specs.Each.{every, all}
use Rattle.picture.specs.Layout.{positions, upto}
use Rattle.picture.specs.declared.Table.{Table}
use Rattle.picture.specs.declared.Table.TheVariants.{Jobs, Channels}
use Rattle.picture.specs.declared.Area.{Area}
use Rattle.picture.specs.declared.Area.TheVariants.{Heap, Transient}
use Rattle.blocks.specs.Walk.{blocks}
use Rattle.sound_matching.specs.Match.{block_matched, entry_matched}
use Rattle.sound_records.specs.Rules.{zero_base, priority_within, accumulated_within, timeout_within, ends_in_one, blank, positioned, zero_exists, tag_within, tag_once, owner_live, owner_older, zero_unowned, tag_given, wait_allowed, idle_zero}
use Rattle.sound_areas.specs.Rules.{length_whole, kind_known, start_zero, free_blank, queue_room, tiles, untouched, kind_fits, holder_live}
use Rattle.sound_whole.specs.Whole.{size_stated, seven_zero, heap_stated, last_within, current_ready}
use Rattle.sound.specs.Rule.{Rule, rules}

-- a test is one of the picture as a whole, of each record of a table, or of each block of both areas
pub data Test : Type 0 where
  whole : (List ℕ → Bool) → Test
  each_record : Table → (List ℕ → ℕ → Bool) → Test
  each_block : (List ℕ → Area → ℕ → Bool) → Test

abbrev pub passes : List ℕ → Test → Bool
passes p (whole f) = f p
passes p (each_record t f) = every (f p) (positions t)
passes p (each_block f) = all (f p Heap) (blocks p Heap) && all (f p Transient) (blocks p Transient)

-- the test of each rule
abbrev pub test : Rule → Test
test Rule.size_stated = whole size_stated
test Rule.seven_zero = whole seven_zero
test Rule.heap_stated = whole heap_stated
test Rule.zero_base = each_record Jobs zero_base
test Rule.priority_within = each_record Jobs priority_within
test Rule.accumulated_within = each_record Jobs accumulated_within
test Rule.timeout_within = each_record Jobs timeout_within
test Rule.ends_in_one = each_record Channels ends_in_one
test (Rule.blank t) = each_record t (λ (p : List ℕ) (k : ℕ). blank p t k)
test (Rule.positioned t) = each_record t (λ (p : List ℕ) (k : ℕ). positioned p t k)
test Rule.zero_exists = each_record Jobs zero_exists
test (Rule.tag_within t) = each_record t (λ (p : List ℕ) (k : ℕ). tag_within p t k)
test (Rule.tag_once t) = each_record t (λ (p : List ℕ) (k : ℕ). tag_once p t k)
test Rule.length_whole = each_block (λ (p : List ℕ) (a : Area) (i : ℕ). length_whole p i)
test Rule.kind_known = each_block (λ (p : List ℕ) (a : Area) (i : ℕ). kind_known p i)
test Rule.start_zero = each_block (λ (p : List ℕ) (a : Area) (i : ℕ). start_zero p i)
test Rule.free_blank = each_block (λ (p : List ℕ) (a : Area) (i : ℕ). free_blank p i)
test Rule.queue_room = each_block (λ (p : List ℕ) (a : Area) (i : ℕ). queue_room p i)
test Rule.tiles = each_block (λ (p : List ℕ) (a : Area) (i : ℕ). tiles p (upto p a) i)
test Rule.untouched = each_block (λ (p : List ℕ) (a : Area) (i : ℕ). untouched p (upto p a) i)
test Rule.kind_fits = each_block kind_fits
test (Rule.block_matched t) = each_block (λ (p : List ℕ) (a : Area) (i : ℕ). block_matched p t i)
test (Rule.entry_matched t) = each_record t (λ (p : List ℕ) (k : ℕ). entry_matched p t k)
test (Rule.owner_live t) = each_record t (λ (p : List ℕ) (k : ℕ). owner_live p t k)
test Rule.holder_live = each_block (λ (p : List ℕ) (a : Area) (i : ℕ). holder_live p i)
test Rule.owner_older = each_record Jobs owner_older
test Rule.zero_unowned = each_record Jobs zero_unowned
test (Rule.tag_given t) = each_record t (λ (p : List ℕ) (k : ℕ). tag_given p t k)
test (Rule.last_within t) = whole (λ (p : List ℕ). last_within p t)
test Rule.current_ready = whole current_ready
test Rule.wait_allowed = each_record Jobs wait_allowed
test Rule.idle_zero = each_record Jobs idle_zero

-- all rules of a list hold
abbrev pub all_hold : List ℕ → List Rule → Bool
all_hold p [] = true
all_hold p (r ∷ l) = passes p (test r) && all_hold p l

-- rules 16 and 59: the picture is sound
unfoldable pub sound : List ℕ → Bool
sound p = all_hold p rules
