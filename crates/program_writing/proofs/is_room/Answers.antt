use Prim.Native.Nat.{◌+◌}
use mathlib.Core.Path.{sym}
use borrow.Author.Tests.{lt-leb}
use Rattle.program_writing.proofs.Writer.{room_same}
use native.Mathlib.Omega.{arith}
use Rattle.program_writing.proofs.is_room.Goals as goal

-- `program_writing::is_room` meets its contract: a sum is within a length where the difference allows it. Assumes nothing.
pub returns-then-length-count : goal.returns-then-length-count
returns-then-length-count c = let a = c.args in sym (lt-leb (a.place + a.count) a.length (omega arith))

pub returns : goal.returns
returns c = room_same _ _ _ c.if-length-count.false
