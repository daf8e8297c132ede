use Rattle.channels.specs.Effects.{closed}
use Rattle.channels.proofs.remove_channel.Goals as goal

pub returns : goal.returns
unfolding closed
returns c = rw (c.forget.ensures, c.sweep.ensures, c.area_upto-upto.ensures.0, c.area_from-from.ensures.0, c.queue_at-block.ensures.0)
