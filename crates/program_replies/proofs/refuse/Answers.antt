use Rattle.std.proofs.Common.{[], ◌∷◌, arith}
use Rattle.words.specs.Signed.{bits}
use Rattle.picture.specs.Keys.{bad_parameter}
use Rattle.program_replies.proofs.Replies.{put_there}
use Rattle.program_replies.proofs.refuse.Goals as goal

pub returns : goal.returns
returns c q = rw c.bits_of.ensures (put_there (bits bad_parameter ∷ []) q c.args.registers.now (omega (arith, c.requires)))
