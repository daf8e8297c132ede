-- The desk bench's table, computed.
use mathlib.Core.Path.{refl}
use Rattle.words.specs.Words.{clear}
use Rattle.picture.specs.Records.{with_members}
use Rattle.picture.specs.Numbers.{entry_at, free_position}
use Rattle.sound_facts.proofs.Worked.{computed}
use Rattle.headers.specs.Header.{header}
use Rattle.placing.specs.Place.{fits, chosen, split, placed, answer, longer, longest}
use Rattle.masks.specs.Masks.{with_bit, lowest_clear}
use Rattle.calls.specs.Call.{outcome}
use Rattle.calls.specs.Registers.{meant}
use Rattle.memory.specs.Memory.{longest_room, length_good, room_registers, taken, take}
use Rattle.entering.specs.Entry.{has_position, has_tag, recorded, counted, entered}
use Rattle.creating.specs.Create.{owner_found, created, job_registers, create}
use Rattle.effects.specs.Effects.{naming, prioritized}
use Rattle.jobs.specs.Calls.{set_priority}
use Rattle.opening.specs.Calls.{open_channel}
use Rattle.traps.specs.Traps.{trap_one, trap_two, call_named}
use Rattle.manager.specs.Door.{checked, called}
use Rattle.names.specs.Names.{key_of, good, number_in, letter, pipe, digit, number, numbered, named}
use Rattle.fresh.specs.Fresh.{fresh}
use Rattle.turns.specs.Fields.{set_each}
use Rattle.turns.specs.Pick.{preferred, chosen_below, chosen_job, accumulated_after, turn_given, picked, picked_number, picked_key}
use Rattle.manager.specs.Turn.{pick_answer, pick_picture}
use Rattle.law_picks.specs.Bench.{set_up}
use Rattle.law_bench.specs.Table.{picks, Table}
use Rattle.law_bench.proofs.Helper.{helper}

pub table : Table
unfolding computed fresh clear lowest_clear free_position header fits chosen split placed longer longest with_bit entry_at answer meant longest_room length_good room_registers taken take has_position has_tag recorded counted entered owner_found created job_registers create naming prioritized set_priority open_channel trap_one trap_two call_named checked called key_of number_in letter pipe digit number numbered good named outcome with_members set_up picks preferred chosen_below chosen_job accumulated_after turn_given picked picked_number picked_key set_each pick_answer pick_picture
table = record {
  calls = ((refl, (refl, refl)), ((refl, (refl, refl)), ((refl, (refl, refl)), ((refl, (refl, refl)), ((refl, (refl, refl)), ((refl, (refl, refl)), ((refl, (refl, refl)), ((refl, (refl, refl)), ((refl, (refl, refl)), ((refl, (refl, refl)), ((refl, (refl, refl)), ((refl, (refl, refl)), tt))))))))))));
  picked = refl;
  ready_sound = refl;
  full_sound = refl;
  helper = helper;
}
