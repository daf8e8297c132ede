use Rattle.std.proofs.Common.{ℕ, eqb, ◌≡◌, ◌∙◌, arith}
use mathlib.Core.Path.{ap}
use Rattle.words.specs.Each.{every}
use Rattle.picture.specs.Layout.{width}
use Rattle.picture.specs.Records.{field, all_zero}
use Rattle.sound_records.proofs.is_all_zero.Goals as goal

pub returns : goal.returns
unfolding all_zero
returns g c =
    let a = c.args in
    let e : c.loop-f.f ≡ width a.t = omega (arith, c.requires.1, c.loop-f-test.false, c.loop-f.auto.f-end) in
    c.loop-f.invariant ∙ ap (every (λ (f : ℕ). eqb (field a.p.now a.t a.k f) 0)) e
