use mathlib.Core.Path.{sym, ◌∙◌}
use Rattle.calls.proofs.Found.{job_found}
use Rattle.creating.proofs.Ways.{found_live}
use Rattle.creating.proofs.owner_for.Goals as goal

pub returns : goal.returns
returns c = sym (found_live _ _ (sym c.is_negative.ensures ∙ c.if-is_negative.false) (job_found _ _ _ (sym c.entry_at.ensures ∙ c.in-Some.is)).lives)
