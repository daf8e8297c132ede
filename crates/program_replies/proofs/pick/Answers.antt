use Rattle.std.proofs.Common.{[], ◌∷◌, w32, arith}
use mir.ValLaws.{to_z-of_z}
use Rattle.words.specs.Signed.{bits}
use Rattle.manager.specs.Turn.{pick_answer, pick_picture}
use Rattle.program_replies.proofs.Replies.{put_there}
use Rattle.program_replies.proofs.pick.Goals as goal

pub returns : goal.returns
returns c =
    let t = c.pick-picked in
    rw (c.bits_of.ensures, to_z-of_z w32 t.result.key (record { sfits = t.type_inv.1.1.1.0.1 }), t.ensures.0, t.ensures.1) (put_there ((pick_answer c.args.p.now).number ∷ bits (pick_answer c.args.p.now).key ∷ []) (pick_picture c.args.p.now) c.args.registers.now (omega (arith, c.requires)))
