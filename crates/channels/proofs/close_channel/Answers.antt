use Rattle.picture.specs.declared.Area.TheVariants.{Heap}
use Rattle.sound.proofs.Room.{sound_tables}
use Rattle.rooms.proofs.Sizes.{areas_lie_in_a_sound_picture}
use mathlib.Core.Path.{sym, ◌∙◌}
use Rattle.calls.proofs.Outcome.{meets_refuse, meets_succeed}
use Rattle.calls.specs.Call.{outcome}
use Rattle.channels.proofs.Found.{channel_named}
use Rattle.channels.specs.Calls.{close_channel}
use Rattle.channels.proofs.close_channel.Goals as goal

pub returns-in_default : goal.returns-in_default
unfolding close_channel outcome
returns-in_default c = meets_refuse _ _ _ _ (rw (sym c.channel_named.ensures ∙ c.in_default.is))

pub remove_channel-requires : goal.remove_channel-requires
remove_channel-requires c = ((sound_tables c.args.p.now c.requires, (channel_named _ _ _ (sym c.channel_named.ensures ∙ c.in-Some.is)).below), (areas_lie_in_a_sound_picture c.args.p.now c.requires Heap).small)

pub returns : goal.returns
unfolding close_channel outcome
returns c =
    let f = (channel_named _ _ _ (sym c.channel_named.ensures ∙ c.in-Some.is)) in
    rw c.remove_channel.ensures (meets_succeed _ _ _ (rw f.finds))
