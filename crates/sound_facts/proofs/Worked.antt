-- Worked examples compute soundness: to unfold `computed` is to unfold every rule and what the rules look at.
use Prim.Native.Nat.{ℕ}
use mathlib.Core.Bool.{Bool}
use mathlib.Core.List.{List}
use Rattle.picture.specs.Records.{all_zero, members, used, ready}
use Rattle.picture.specs.Numbers.{live}
use Rattle.blocks.specs.Walk.{good, next, starts_within, starts}
use Rattle.sound_matching.specs.Match.{has_block, pair, block_matched, matches, entry_matched}
use Rattle.sound_records.specs.Rules.{zero_base, priority_within, accumulated_within, timeout_within, ends_in_one, blank, positioned, zero_exists, tag_within, tags_differ, tag_once, owner_live, owner_older, zero_unowned, tag_given, wait_allowed, idle_zero}
use Rattle.sound_areas.specs.Rules.{length_whole, kind_known, start_zero, free_blank, queue_room, tiles, untouched, kind_fits, holder_live}
use Rattle.sound_whole.specs.Whole.{size_stated, seven_zero, heap_stated, last_within, current_ready}
use Rattle.sound.specs.Sound.{sound}

unfoldable pub computed : List ℕ → Bool
unfolding sound size_stated seven_zero heap_stated last_within current_ready zero_base priority_within accumulated_within timeout_within ends_in_one blank positioned zero_exists tag_within tags_differ tag_once owner_live owner_older zero_unowned tag_given wait_allowed idle_zero length_whole kind_known start_zero free_blank queue_room tiles untouched kind_fits holder_live has_block pair block_matched matches entry_matched all_zero used ready live starts starts_within next good members
computed p = sound p
