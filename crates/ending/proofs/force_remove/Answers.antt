use mathlib.Core.Path.{sym, ◌∙◌}
use Rattle.calls.proofs.Found.{job_found}
use Rattle.calls.proofs.Outcome.{meets_refuse, meets_succeed}
use Rattle.sound.proofs.Room.{sound_tables}
use Rattle.ending.proofs.Calls.{areas_within, force_remove_no_job, force_remove_job_0, force_remove_ends}
use Rattle.ending.proofs.force_remove.Goals as goal

pub returns-in_default : goal.returns-in_default
returns-in_default c = meets_refuse _ _ _ _ (force_remove_no_job c.args.p.now c.args.d.now (rw (c.number_meant.ensures, c.word.ensures) at (sym c.entry_at.ensures ∙ c.in_default.is)))

pub returns-then-t-eq0 : goal.returns-then-t-eq0
returns-then-t-eq0 c = meets_refuse _ _ _ _ (force_remove_job_0 c.args.p.now c.args.d.now c.in-Some.t (rw (c.number_meant.ensures, c.word.ensures) at (sym c.entry_at.ensures ∙ c.in-Some.is)) c.if-t-eq0.true)

pub end_tree-requires : goal.end_tree-requires
end_tree-requires c = ((sound_tables c.args.p.now c.requires, (job_found _ _ _ (rw (c.number_meant.ensures, c.word.ensures) at (sym c.entry_at.ensures ∙ c.in-Some.is))).within), areas_within c.args.p.now c.requires)

pub returns : goal.returns
returns c = meets_succeed _ _ _ (force_remove_ends c.args.p.now c.args.d.now c.in-Some.t (rw (c.number_meant.ensures, c.word.ensures) at (sym c.entry_at.ensures ∙ c.in-Some.is)) c.if-t-eq0.false _ _ (c.end_tree.ensures ∙ rw c.word-2.ensures) c.clear.ensures)
