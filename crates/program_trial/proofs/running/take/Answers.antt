use Rattle.program_writing.proofs.Writer.{past_inside}
use Rattle.program_trial.proofs.running.take.Goals as goal

pub returns-then-character-ne10 : goal.returns-then-character-ne10
returns-then-character-ne10 c = rw c.write_character.ensures.value (past_inside c.args.line.now c.args.kept 1 c.requires)
