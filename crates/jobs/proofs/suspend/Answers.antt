use Rattle.jobs.proofs.Ways.{suspend_lost, suspend_bad, suspend_done}
use Rattle.timeouts.specs.Timeout.{timeout_in}
use Rattle.jobs.proofs.Found.{found, lost}
use mathlib.Core.Path.{ap, ◌∙◌}
use mir.Syntax.{w32}
use mir.ValLaws.{to_z-of_z}
use Rattle.jobs.proofs.suspend.Goals as goal

pub returns-in_default : goal.returns-in_default
returns-in_default c = suspend_lost _ _ (lost c.args.p.now c.args.d.now _ _ _ c.word.ensures c.number_meant-number.ensures c.entry_at.ensures c.in_default.is)

pub returns-then-not-is_suspension-word : goal.returns-then-not-is_suspension-word
returns-then-not-is_suspension-word c = suspend_bad _ _ _ _ (found c.args.p.now c.args.d.now _ _ _ c.word.ensures c.number_meant-number.ensures c.entry_at.ensures _ c.in-Some.is) _ _ _ (c.timeout_in-t.ensures ∙ ap timeout_in c.word-2.ensures) c.is_suspension.ensures c.word-3.ensures c.if-not-is_suspension-word.true-raw

pub put_suspension-requires : goal.put_suspension-requires
put_suspension-requires c = (found c.args.p.now c.args.d.now _ _ _ c.word.ensures c.number_meant-number.ensures c.entry_at.ensures _ c.in-Some.is).below

pub name_job-requires : goal.name_job-requires
name_job-requires c = (found c.args.p.now c.args.d.now _ _ _ c.word.ensures c.number_meant-number.ensures c.entry_at.ensures _ c.in-Some.is).below

pub returns : goal.returns
returns c = suspend_done _ _ _ _ (found c.args.p.now c.args.d.now _ _ _ c.word.ensures c.number_meant-number.ensures c.entry_at.ensures _ c.in-Some.is) _ _ _ (c.timeout_in-t.ensures ∙ ap timeout_in c.word-2.ensures) c.is_suspension.ensures c.word-3.ensures _ _ c.if-not-is_suspension-word.false-raw (c.put_nobody.ensures ∙ (let v = c.value_of in rw (c.put_suspension.ensures, to_z-of_z w32 v.result (record { sfits = v.type_inv }), v.ensures))) c.name_job.ensures
