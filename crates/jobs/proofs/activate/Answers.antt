use Rattle.jobs.proofs.Ways.{activate_lost, activate_active, activate_bad, activate_bad_wait, activate_done}
use Rattle.timeouts.specs.Timeout.{timeout_in}
use Rattle.jobs.proofs.Found.{found, lost}
use mathlib.Core.Path.{ap, ◌∙◌}
use Rattle.jobs.proofs.activate.Goals as goal

pub returns-in_default : goal.returns-in_default
returns-in_default c = activate_lost _ _ (lost c.args.p.now c.args.d.now _ _ _ c.word.ensures c.number_meant-number.ensures c.entry_at.ensures c.in_default.is)

pub is_active-requires : goal.is_active-requires
is_active-requires c = (found c.args.p.now c.args.d.now _ _ _ c.word.ensures c.number_meant-number.ensures c.entry_at.ensures _ c.in-Some.is).below

pub returns-then-is_active : goal.returns-then-is_active
returns-then-is_active c = activate_active _ _ _ _ (found c.args.p.now c.args.d.now _ _ _ c.word.ensures c.number_meant-number.ensures c.entry_at.ensures _ c.in-Some.is) _ c.is_active.ensures c.if-is_active.true

pub returns-then-not-priority : goal.returns-then-not-priority
returns-then-not-priority c = activate_bad _ _ _ _ (found c.args.p.now c.args.d.now _ _ _ c.word.ensures c.number_meant-number.ensures c.entry_at.ensures _ c.in-Some.is) _ c.is_active.ensures _ c.word-priority.ensures c.if-is_active.false c.if-not-priority.true-raw

pub returns-then-not-is_wait_good : goal.returns-then-not-is_wait_good
returns-then-not-is_wait_good c = activate_bad_wait _ _ _ _ (found c.args.p.now c.args.d.now _ _ _ c.word.ensures c.number_meant-number.ensures c.entry_at.ensures _ c.in-Some.is) _ c.is_active.ensures _ c.word-priority.ensures c.if-is_active.false _ _ (c.timeout_in-t.ensures ∙ ap timeout_in c.word-2.ensures) c.is_wait_good.ensures c.if-not-priority.false-raw c.if-not-is_wait_good.true-raw

pub put_priority-requires : goal.put_priority-requires
put_priority-requires c = (found c.args.p.now c.args.d.now _ _ _ c.word.ensures c.number_meant-number.ensures c.entry_at.ensures _ c.in-Some.is).below

pub name_job-requires : goal.name_job-requires
name_job-requires c = (found c.args.p.now c.args.d.now _ _ _ c.word.ensures c.number_meant-number.ensures c.entry_at.ensures _ c.in-Some.is).below

pub returns : goal.returns
returns c = activate_done _ _ _ _ (found c.args.p.now c.args.d.now _ _ _ c.word.ensures c.number_meant-number.ensures c.entry_at.ensures _ c.in-Some.is) _ c.is_active.ensures _ c.word-priority.ensures c.if-is_active.false _ _ (c.timeout_in-t.ensures ∙ ap timeout_in c.word-2.ensures) c.is_wait_good.ensures c.if-not-priority.false-raw _ _ c.if-not-is_wait_good.false-raw (c.put_nobody.ensures ∙ rw (c.put_wait.ensures, c.put_priority.ensures, c.position_of-c.ensures.0, c.caller_of.ensures)) c.name_job.ensures
