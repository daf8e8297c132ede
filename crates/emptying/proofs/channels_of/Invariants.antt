use Rattle.emptying.specs.Taken.{channel_goes}
use Rattle.emptying.proofs.channels_of.Given as goal

abbrev pub ghost-positions_passing : goal.ghost-positions_passing
ghost-positions_passing a = channel_goes a.passes.0.now a.passes.1.now
