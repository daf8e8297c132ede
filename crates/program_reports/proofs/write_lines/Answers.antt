use Prim.Native.Nat.{◌+◌, ◌≤◌}
use mathlib.Core.Path.{◌≡◌, refl, ◌∙◌}
use lib.ListN.{length, get_or}
use mathlib.Core.Bool.{false}
use Rattle.report_lines.specs.declared.JobLine.{JobLine}
use Rattle.report_table.specs.Longwords.{line_longwords}
use Rattle.program_reports.proofs.Lines.{goes_none, goes_on, place_behind}
use native.Mathlib.Omega.{arith}
use Rattle.program_reports.proofs.write_lines.Goals as goal

abbrev zero_line : JobLine
zero_line = record { number = 0; owner = 0; depth = 0; priority = 0; suspended = false }

pub loop-line-init : goal.loop-line-init
loop-line-init c = (omega arith, refl, refl)

pub loop-line-preserved : goal.loop-line-preserved
loop-line-preserved c =
    let v = c.loop-line in
    let l = get_or c.args.lines.now v.line-index zero_line in
    let room : v.place + 41 ≤ length v.out = omega (arith, v.invariant.0, v.invariant.1, c.requires, c.loop-line-test.true) in
    let ws : c.longwords_of.result ≡ line_longwords l = c.longwords_of.ensures in
    let r : c.write_answer-place.result ≡ v.place + 41 = place_behind v.out v.place l c.longwords_of.result c.write_answer-place.result room ws c.write_answer-place.ensures.value in
    (omega (arith, v.invariant.0), c.write_answer-place.auto.text ∙ v.invariant.1, goes_on _ v.out c.write_answer-place.new.text v.place c.write_answer-place.result c.args.lines.now v.line-index zero_line c.longwords_of.result c.loop-line-test.true room ws c.write_answer-place.ensures.text_after r v.invariant.2)

pub returns : goal.returns
returns c =
    let v = c.loop-line in
    (omega (arith, v.invariant.0), goes_none _ v.out v.place c.args.lines.now v.line-index c.loop-line-test.false v.invariant.2)
