use Rattle.manager.proofs.Door.{called_otherwise, called_with_eight, meets_equal, meets_with_key}
use Rattle.calls.proofs.Outcome.{meets_refuse}
use Rattle.words.specs.Words.{put}
use mir.ValLaws.{to_z-of_z}
use mir.Syntax.{w32}
use Rattle.manager.proofs.call.Goals as goal

pub returns-then-d-ne-REGISTERS : goal.returns-then-d-ne-REGISTERS
returns-then-d-ne-REGISTERS c = meets_refuse _ _ _ _ (called_otherwise _ _ _ _ c.if-d-ne-REGISTERS.true)

pub returns : goal.returns
returns c =
    let k = c.key_of-key in
    let z = to_z-of_z w32 k.result (record { sfits = k.type_inv }) in
    rw (z, c.put.ensures, c.bits_of.ensures)
    (meets_equal _ _ _ _ _ (called_with_eight _ _ _ _ c.if-d-ne-REGISTERS.false) (rw (z, k.ensures) (meets_with_key _ _ _ _ c.answer_call.ensures)))
