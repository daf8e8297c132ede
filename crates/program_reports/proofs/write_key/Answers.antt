use Rattle.program_reports.proofs.Lines.{key_behind}
use mathlib.Core.Path.{◌∙◌}
use Rattle.words.specs.Signed.{bits}
use mir.Syntax.{w32}
use mir.ValLaws.{to_z-of_z}
use Rattle.program_reports.proofs.write_key.Goals as goal

pub returns : goal.returns
returns c =
    let w = c.write_answer in
    key_behind _ _ _ _ (bits c.args.key) _ c.requires (c.bits_of.ensures ∙ rw (to_z-of_z w32 c.args.key c.ranges.key)) w.ensures.text_after w.ensures.value
