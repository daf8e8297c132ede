use mathlib.Core.Path.{◌≡◌, ◌∙◌}
use mathlib.Core.Bool.{true, false}
use native.Mathlib.Omega.{arith}
use lib.IntN.{pos}
use lib.ListN.{length, take, length-take}
use Prim.Native.Nat.{◌≤◌}
use Rattle.picture.specs.Layout.{positions}
use Rattle.picture.specs.declared.Table.TheVariants.{Jobs}
use mir.Syntax.{w32}
use mir.ValLaws.{to_z-of_z}
use Rattle.words.specs.Signed.{eq_z}
use Rattle.words.proofs.Signed.{bits_same, bits_differ}
use Rattle.program_reports.proofs.Reported.{count_within, reported_refused, reported_told}
use Rattle.program_reports.proofs.write_report.Goals as goal

pub returns-then-report-ne-DONE : goal.returns-then-report-ne-DONE
returns-then-report-ne-DONE c =
    let w = c.write_key in
    let k = c.report_lent-lent in
    let f : eq_z k.result.report.key (pos 0) ≡ false = bits_differ k.result.report.key (pos 0) (record { sfits = k.type_inv.1.1.0.1.1.0.1 }) (record { sfits = omega arith }) c.if-report-ne-DONE.true in
    (omega (arith, w.ensures.0), w.ensures.1 ∙ rw (reported_refused _ _ _ k.ensures.0 f, to_z-of_z w32 k.result.report.key (record { sfits = k.type_inv.1.1.0.1.1.0.1 })))

pub shared_ref_as_front-write_lines : goal.shared_ref_as_front-write_lines
shared_ref_as_front-write_lines c =
    let k = c.report_lent-lent in
    let l = count_within _ _ _ k.ensures.0 in
    omega arith

pub write_lines-requires : goal.write_lines-requires
write_lines-requires c =
    let k = c.report_lent-lent in
    let l = count_within _ _ _ k.ensures.0 in
    let n : length (take k.result.report.count k.result.lines) ≤ positions Jobs = rw (length-take k.result.report.count k.result.lines) (omega arith) in
    omega (arith, c.requires)

pub returns : goal.returns
returns c =
    let w = c.write_lines in
    let k = c.report_lent-lent in
    let l = count_within _ _ _ k.ensures.0 in
    let f : eq_z k.result.report.key (pos 0) ≡ true = bits_same k.result.report.key (pos 0) (record { sfits = k.type_inv.1.1.0.1.1.0.1 }) (record { sfits = omega arith }) c.if-report-ne-DONE.false in
    let n : length (take k.result.report.count k.result.lines) ≤ positions Jobs = rw (length-take k.result.report.count k.result.lines) (omega arith) in
    (omega (arith, w.ensures.0), w.ensures.1 ∙ rw (reported_told _ _ _ k.ensures.0 f _ _ (omega arith) k.ensures.1))
