-- The statements of specs/Positions.antt.
use Prim.Native.Nat.{ℕ}
use mathlib.Core.Path.{◌≡◌, ap, ◌∙◌}
use mathlib.Core.Bool.{true}
use mathlib.Core.List.{List}
use native.Mathlib.Omega.{arith}
use borrow.Author.Tests.{ltb-true}
use Rattle.words.specs.Signed.{bits}
use Rattle.picture.specs.Keys.{done}
use Rattle.picture.specs.Layout.{positions}
use Rattle.picture.specs.Numbers.{position, free_position}
use Rattle.picture.specs.declared.Table.{Table}
use Rattle.picture.specs.declared.Table.TheVariants.{Jobs, Channels}
use Rattle.picture.specs.declared.Area.TheVariants.{Transient}
use Rattle.picture.proofs.Records.{positions_named}
use Rattle.sound.specs.Sound.{sound}
use Rattle.sound_facts.proofs.View.{view}
use Rattle.calls.specs.Outcome.{Outcome}
use Rattle.calls.specs.Registers.{D1, A0, meant}
use Rattle.rooms.specs.Room.{spot}
use Rattle.entering.specs.Entry.{has_position, next_tag, next_number}
use Rattle.creating.specs.Create.{job_length}
use Rattle.manager.specs.Door.{with_key}
use Rattle.law_entering.proofs.Kept.{number_position}
use Rattle.law_creating.proofs.Ways as creating
use Rattle.law_creating.proofs.Ways.{create_where_done}
use Rattle.law_creating.proofs.New.{new_number_in_D1}
use Rattle.law_opening.proofs.Ways as opening
use Rattle.law_opening.proofs.Ways.{open_channel_where_done}
use Rattle.law_opening.proofs.Queues.{new_number_in_A0}
use Rattle.law_promises.proofs.Done.{where_a_job_is_made, where_a_channel_is_opened}
use Rattle.law_promises.proofs.History.{run_keeps_sound}
use Rattle.law_positions.specs.Positions.{walked_to, TheMaskSaysIt, ANewJobStandsThere, ANewChannelStandsThere}
use Rattle.law_positions.proofs.Walked.{free_position_walked_to}

pub the_mask_says_it : TheMaskSaysIt
the_mask_says_it p s events t = free_position_walked_to _ (view _ (run_keeps_sound events p s)) t

-- the new number's position
stands : (p : List ℕ) (t : Table) → sound p ≡ true → has_position p t ≡ true → position (next_number p t) ≡ walked_to p t
unfolding has_position
stands p t s h =
    let l = ltb-true (free_position p t) (positions t) h in
    let m = positions_named t in
    number_position (next_tag p t) (free_position p t) (omega arith) ∙ free_position_walked_to p (view p s) t

pub a_new_job_stands_there : ANewJobStandsThere
a_new_job_stands_there p d name e = where_a_job_is_made p d name (λ (o : Outcome). position (D1 o.registers) ≡ walked_to p Jobs) e (λ l s. create_where_done (λ (o : Outcome). position (D1 (with_key o).registers) ≡ walked_to p Jobs) p d (λ (c : creating.Checked p d).
    ap position (new_number_in_D1 (next_number p Jobs) (spot p Transient (job_length d)) (bits done) d l) ∙ stands p Jobs s c.place))

pub a_new_channel_stands_there : ANewChannelStandsThere
a_new_channel_stands_there p d name e = where_a_channel_is_opened p d name (λ (o : Outcome). position (A0 o.registers) ≡ walked_to p Channels) e (λ l s. open_channel_where_done (λ (o : Outcome). position (A0 (with_key o).registers) ≡ walked_to p Channels) p d name (λ (c : opening.Checked p d name).
    ap position (new_number_in_A0 (meant p (D1 d)) (next_number p Channels) (bits done) d l) ∙ stands p Channels s c.place))
