use Rattle.std.proofs.Common.{[], ◌∷◌, w32, arith}
use mir.ValLaws.{to_z-of_z}
use Rattle.words.specs.Signed.{bits}
use Rattle.manager.specs.Turn.{tick_key, ticking}
use Rattle.program_replies.proofs.Replies.{put_there}
use Rattle.program_replies.proofs.tick.Goals as goal

pub returns : goal.returns
returns c =
    let t = c.tick-key in
    rw (c.bits_of.ensures, to_z-of_z w32 t.result (record { sfits = t.type_inv }), t.ensures.0, t.ensures.1) (put_there (bits (tick_key c.args.p.now) ∷ []) (ticking c.args.p.now) c.args.registers.now (omega (arith, c.requires)))
