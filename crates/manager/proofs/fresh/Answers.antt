use mir.Syntax.{w32}
use mir.ValLaws.{to_z-of_z}
use Rattle.manager.proofs.fresh.Goals as goal

pub returns : goal.returns
returns c = rw (to_z-of_z w32 c.key_of.result (record { sfits = c.key_of.type_inv }), c.key_of.ensures) c.make_fresh.ensures
