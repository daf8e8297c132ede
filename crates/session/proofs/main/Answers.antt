use Rattle.std.proofs.Common.{refl, replicate, ◌∙◌, arith}
use Rattle.program_session.proofs.First.{fresh_is_first}
use Rattle.session.proofs.main.Goals as goal

pub answer_all-requires : goal.answer_all-requires
answer_all-requires c = record { p_value = c.fresh.ensures.1 ∙ fresh_is_first (replicate 1024 0) refl; roomy = record { for_line = refl; for_answer = omega arith } }
