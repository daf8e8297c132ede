use Rattle.jobs.proofs.Ways.{set_priority_lost, set_priority_bad, set_priority_done}
use Rattle.jobs.proofs.Found.{found, lost}
use mathlib.Core.Path.{◌∙◌}
use Rattle.jobs.proofs.set_priority.Goals as goal

pub returns-in_default : goal.returns-in_default
returns-in_default c = set_priority_lost _ _ (lost c.args.p.now c.args.d.now _ _ _ c.word.ensures c.number_meant-number.ensures c.entry_at.ensures c.in_default.is)

pub returns-then-priority-gt-GREATEST_PRIORITY : goal.returns-then-priority-gt-GREATEST_PRIORITY
returns-then-priority-gt-GREATEST_PRIORITY c = set_priority_bad _ _ _ _ (found c.args.p.now c.args.d.now _ _ _ c.word.ensures c.number_meant-number.ensures c.entry_at.ensures _ c.in-Some.is) _ c.word-priority.ensures c.if-priority-gt-GREATEST_PRIORITY.true

pub put_priority-requires : goal.put_priority-requires
put_priority-requires c = (found c.args.p.now c.args.d.now _ _ _ c.word.ensures c.number_meant-number.ensures c.entry_at.ensures _ c.in-Some.is).below

pub name_job-requires : goal.name_job-requires
name_job-requires c = (found c.args.p.now c.args.d.now _ _ _ c.word.ensures c.number_meant-number.ensures c.entry_at.ensures _ c.in-Some.is).below

pub returns : goal.returns
returns c = set_priority_done _ _ _ _ (found c.args.p.now c.args.d.now _ _ _ c.word.ensures c.number_meant-number.ensures c.entry_at.ensures _ c.in-Some.is) _ c.word-priority.ensures _ _ c.if-priority-gt-GREATEST_PRIORITY.false (c.put_nobody.ensures ∙ rw c.put_priority.ensures) c.name_job.ensures
