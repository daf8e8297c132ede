-- The desk bench's helper, computed.
use mathlib.Core.Path.{refl}
use Rattle.words.specs.Words.{clear}
use Rattle.picture.specs.Records.{with_members}
use Rattle.picture.specs.Numbers.{entry_at, free_position}
use Rattle.sound_facts.proofs.Worked.{computed}
use Rattle.headers.specs.Header.{header}
use Rattle.placing.specs.Place.{fits, chosen, split, placed, answer, longer, longest}
use Rattle.freeing.specs.Sweep.{goes, freed, absorbed, joined, run, swept}
use Rattle.masks.specs.Masks.{with_bit, without, mask, lowest_clear}
use Rattle.calls.specs.Call.{outcome}
use Rattle.calls.specs.Registers.{meant}
use Rattle.memory.specs.Memory.{longest_room}
use Rattle.entering.specs.Entry.{has_position, has_tag, recorded, counted, entered}
use Rattle.creating.specs.Create.{owner_found, created, job_registers, create}
use Rattle.tree.specs.Tree.{climbs, in_tree, tree}
use Rattle.emptying.specs.Each.{each}
use Rattle.emptying.specs.Taken.{waits, woken, blanked, emptied, channel_goes, channels_of, taken}
use Rattle.ending.specs.Ended.{returned, ended}
use Rattle.ending.specs.Remove.{removal, force_remove}
use Rattle.traps.specs.Traps.{trap_one, call_named}
use Rattle.manager.specs.Door.{checked, called}
use Rattle.fresh.specs.Fresh.{fresh}
use Rattle.turns.specs.Fields.{set_each}
use Rattle.turns.specs.Pick.{preferred, chosen_below, chosen_job, accumulated_after, turn_given, picked, picked_number, picked_key}
use Rattle.manager.specs.Turn.{pick_picture}
use Rattle.law_bench.specs.Table.{Helper}

pub helper : Helper
unfolding computed fresh clear lowest_clear free_position header fits chosen split placed longer longest with_bit without mask entry_at answer meant longest_room has_position has_tag recorded counted entered owner_found created job_registers create goes freed absorbed joined run swept climbs in_tree tree each waits woken blanked emptied channel_goes channels_of taken returned ended removal force_remove trap_one call_named checked called outcome with_members preferred chosen_below chosen_job accumulated_after turn_given picked picked_number picked_key set_each pick_picture
helper = record {
  calls = ((refl, (refl, refl)), ((refl, (refl, refl)), ((refl, (refl, refl)), ((refl, (refl, refl)), tt))));
  desk_told = refl;
  nobody_told = refl;
  job_zero_left = refl;
}
