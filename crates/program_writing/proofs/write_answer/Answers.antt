use mathlib.Core.Path.{ap, ◌∙◌}
use Rattle.program_writing.specs.Texts.{with_answer}
use Rattle.program_writing.proofs.Writer.{past_same, length_with_words}
use lib.ListN.{length}
use Rattle.program_writing.proofs.write_answer.Goals as goal

pub returns : goal.returns
unfolding with_answer
returns c =
    let a = c.args in
    let e = ap length c.write_words-end.ensures.text_after ∙ length_with_words a.text.now a.place a.words.now in
    record { value = rw (← c.write_words-end.ensures.value) (c.write_character.ensures.value ∙ past_same a.text.now _ _ _ e); text_after = c.write_character.ensures.text_after ∙ rw (c.write_words-end.ensures.text_after, c.write_words-end.ensures.value) }
