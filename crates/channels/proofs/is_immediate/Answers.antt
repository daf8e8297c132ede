use Rattle.words.specs.Words.{word}
use Prim.Native.Nat.{◌%◌}
use native.Mathlib.Omega.{arith}
use Rattle.channels.proofs.Timeout.{low_half_zero}
use Rattle.channels.specs.Effects.{immediate}
use Rattle.channels.proofs.is_immediate.Goals as goal

pub returns : goal.returns
unfolding immediate
returns c = rw (c.low_half.ensures, c.word.ensures) (low_half_zero (word c.args.d.now 3 % 65536) (omega arith))
