use Rattle.std.proofs.Common.{sym, ◌∙◌}
use Rattle.program_fields.proofs.Meaning.{told_none, told_nothing, told_numbers}
use Rattle.program_fields.proofs.asking.read_field.Goals as goal

pub returns-then-is_none-clause-told : goal.returns-then-is_none-clause-told
returns-then-is_none-clause-told g c = told_none _ _ _ _ _ (sym c.is_none.ensures ∙ c.if-is_none.true)

pub returns-in_err-count-clause-told : goal.returns-in_err-count-clause-told
returns-in_err-count-clause-told g c =
    rw (c.from_residual.ensures, ← c.WIDTH.ensures) (told_nothing _ _ _ _ _ (sym c.is_none.ensures ∙ c.if-is_none.false) (sym c.count_in.ensures.value ∙ c.in_err-count.was))

pub returns-clause-told : goal.returns-clause-told
returns-clause-told g c =
    told_numbers _ _ _ _ _ _ _ (sym c.is_none.ensures ∙ c.if-is_none.false) (rw c.WIDTH.ensures at (sym c.count_in.ensures.value ∙ c.in_ok-count.was)) c.read_numbers.ensures
