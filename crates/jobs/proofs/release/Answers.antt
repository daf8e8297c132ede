use Rattle.jobs.proofs.Ways.{release_lost, release_done}
use Rattle.jobs.proofs.Found.{found, lost}
use mathlib.Core.Path.{◌∙◌}
use Rattle.jobs.proofs.release.Goals as goal

pub returns-in_default : goal.returns-in_default
returns-in_default c = release_lost _ _ (lost c.args.p.now c.args.d.now _ _ _ c.word.ensures c.number_meant-number.ensures c.entry_at.ensures c.in_default.is)

pub put_release-requires : goal.put_release-requires
put_release-requires c = (found c.args.p.now c.args.d.now _ _ _ c.word.ensures c.number_meant-number.ensures c.entry_at.ensures _ c.in-Some.is).below

pub name_job-requires : goal.name_job-requires
name_job-requires c = (found c.args.p.now c.args.d.now _ _ _ c.word.ensures c.number_meant-number.ensures c.entry_at.ensures _ c.in-Some.is).below

pub returns : goal.returns
returns c = release_done _ _ _ _ (found c.args.p.now c.args.d.now _ _ _ c.word.ensures c.number_meant-number.ensures c.entry_at.ensures _ c.in-Some.is) _ _ (c.put_nobody.ensures ∙ rw c.put_release.ensures) c.name_job.ensures
