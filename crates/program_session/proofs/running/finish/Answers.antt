use Rattle.program_session.proofs.Known.{known_gives, known_picture}
use Rattle.program_session.proofs.running.finish.Goals as goal

pub write_piece-requires : goal.write_piece-requires
write_piece-requires c = known_gives _ _ _ c.requires.known _ _ c.answer_last-used.ensures.puts

pub returns : goal.returns
returns c = known_picture _ _ _ c.requires.known _ _ c.answer_last-used.ensures.leaves
