use mathlib.Core.Path.{ap, ◌∙◌}
use mir.Syntax.{w32}
use mir.ValLaws.{to_z-of_z}
use Rattle.words.specs.Signed.{bits}
use Rattle.calls.proofs.put_timeout.Goals as goal

pub returns : goal.returns
returns c = rw (c.put_field.ensures, c.bits_of.ensures ∙ ap bits (to_z-of_z w32 c.args.timeout c.ranges.timeout))
