use native.Mathlib.Omega.{arith}
use Rattle.queues.proofs.Bytes.{byte_put}
use Rattle.queues.proofs.write_byte.Goals as goal

pub returns : goal.returns
returns c = rw (c.put.ensures, c.from_be_bytes.ensures, c.to_be_bytes-bytes.ensures) (byte_put c.args.p.now c.args.i c.args.j _ c.word.ensures c.args.b (omega arith) c.requires.1)
