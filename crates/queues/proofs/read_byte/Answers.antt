use Rattle.queues.proofs.Bytes.{byte_read}
use Rattle.queues.proofs.read_byte.Goals as goal

pub returns : goal.returns
returns c = rw (c.from.ensures, c.to_be_bytes-bytes.ensures) (byte_read c.args.p.now c.args.i c.args.j _ c.word.ensures)
