use mathlib.Core.Path.{◌∙◌}
use mir.Syntax.{w32}
use mir.ValLaws.{to_z-of_z}
use Rattle.turns.specs.Pick.{turn_given}
use Rattle.turns.proofs.Pick.{nobody_picked, job_picked}
use Rattle.turns.proofs.pick_turn.Goals as goal

pub returns-then-m-eq-JOBS : goal.returns-then-m-eq-JOBS
returns-then-m-eq-JOBS c =
    let d = nobody_picked c.args.p.now c.chosen_job-m.result (rw c.new-tables.ensures at c.chosen_job-m.ensures.0) c.if-m-eq-JOBS.true in
    record { p_after = c.put.ensures ∙ d.0; value = d.1 }

pub returns : goal.returns
unfolding turn_given
returns c =
    let k = c.signed_of-key in
    let d = job_picked c.args.p.now c.chosen_job-m.result (rw c.new-tables.ensures at c.chosen_job-m.ensures.0) c.if-m-eq-JOBS.false in
    record { p_after = rw (c.put-2.ensures, c.put_field.ensures, c.give_gains.ensures, c.field_of-number.ensures, c.new-tables.ensures) d.0; value = rw (c.field_of-number.ensures, to_z-of_z w32 k.result (record { sfits = k.type_inv }) ∙ k.ensures, c.field_of.ensures, c.new-tables.ensures) d.1 }
