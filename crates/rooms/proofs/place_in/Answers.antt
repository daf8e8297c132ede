use Rattle.rooms.proofs.place_in.Goals as goal

pub returns : goal.returns
returns c = rw (c.area_from-base.ensures.0, c.area_upto-e.ensures.0) at c.place.ensures
