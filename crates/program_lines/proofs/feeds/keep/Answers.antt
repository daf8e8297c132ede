use Rattle.std.proofs.Common.{arith}
use Rattle.std.proofs.lemmas.List.{drop-drop}
use Rattle.program_lines.proofs.Ends.{stores_first}
use Rattle.program_lines.proofs.feeds.keep.Goals as goal

pub returns-clause-line_after : goal.returns-clause-line_after
returns-clause-line_after c = rw (c.copy_from_slice.ensures.after, drop-drop) (stores_first _ c.args.place _ c.args.part.now (omega arith))
