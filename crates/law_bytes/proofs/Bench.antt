-- A worked example: from the session's fresh picture, a queue of 8 is opened, 8 and 2 are sent, and one byte is fetched.
use Prim.Native.Nat.{ℕ}
use mathlib.Core.Path.{◌≡◌, refl}
use mathlib.Core.Bool.{true}
use mathlib.Core.List.{List, [], ◌∷◌}
use Rattle.words.specs.Words.{clear}
use Rattle.picture.specs.Records.{with_members}
use Rattle.picture.specs.Numbers.{live, entry_at, free_position}
use Rattle.picture.specs.declared.Table.TheVariants.{Channels}
use Rattle.sound_facts.proofs.Worked.{computed}
use Rattle.headers.specs.Header.{header}
use Rattle.placing.specs.Place.{fits, chosen, split, placed, answer}
use Rattle.fresh.specs.Fresh.{fresh}
use Rattle.masks.specs.Masks.{with_bit, lowest_clear}
use Rattle.calls.specs.Call.{outcome}
use Rattle.calls.specs.Registers.{meant}
use Rattle.entering.specs.Entry.{has_position, has_tag, recorded, counted, entered}
use Rattle.names.specs.Names.{key_of, good, number_in, letter, pipe, digit, number, numbered, named}
use Rattle.opening.specs.Effects.{queued, channelled, opened, channel_registers}
use Rattle.opening.specs.Calls.{open_channel}
use Rattle.queues.specs.Bytes.{weight, byte_at, with_byte_at}
use Rattle.queues.specs.Ring as ring
use Rattle.channels.specs.Effects.{immediate}
use Rattle.channels.specs.Calls.{fetch, send}
use Rattle.traps.specs.Traps.{trap_two, trap_three, call_named}
use Rattle.manager.specs.Door.{checked, called}
use Rattle.law_queues.specs.Lists.{bytes_at}
use Rattle.law_promises.specs.History.{Event, trap, run}
use Rattle.law_bytes.specs.Order.{fetched_from, sent_to}

-- PIPE_8 is opened for job 0; the channel's number is 65,536
abbrev opening : Event
opening = trap 2 (0x1 ∷ 0 ∷ 0 ∷ 0 ∷ 0 ∷ 0 ∷ 0 ∷ 0 ∷ []) (80 ∷ 73 ∷ 80 ∷ 69 ∷ 95 ∷ 56 ∷ [])

abbrev sending : ℕ → Event
sending b = trap 3 (0x5 ∷ b ∷ 0 ∷ 0 ∷ 65536 ∷ 0 ∷ 0 ∷ 0 ∷ []) []

abbrev fetching : Event
fetching = trap 3 (0x1 ∷ 0 ∷ 0 ∷ 0 ∷ 65536 ∷ 0 ∷ 0 ∷ 0 ∷ []) []

abbrev events : List Event
events = opening ∷ sending 8 ∷ sending 258 ∷ fetching ∷ []

record Example : Type 0 where
  lives : live (run events (fresh 1024 256)) Channels 65536 ≡ true
  were_sent : sent_to 65536 events (fresh 1024 256) ≡ 8 ∷ 2 ∷ []
  were_fetched : fetched_from 65536 events (fresh 1024 256) ≡ 8 ∷ []
  wait : bytes_at (run events (fresh 1024 256)) 65536 ≡ 2 ∷ []

example : Example
unfolding computed fresh called checked call_named trap_two trap_three outcome open_channel meant entry_at key_of good number_in letter pipe digit number numbered named has_position has_tag free_position lowest_clear with_bit with_members fits chosen split placed answer header clear queued channelled opened channel_registers recorded counted entered fetch send immediate weight byte_at with_byte_at ring.round ring.index ring.waits ring.full ring.oldest_byte ring.fetched ring.sent ring.contents
example = record { lives = refl; were_sent = refl; were_fetched = refl; wait = refl }
