use Rattle.sound_records.specs.Rules.{tags_differ}
use Rattle.std.proofs.Common.{rules, tests, ◌∙◌, refl}
use Rattle.std.proofs.lemmas.Iterator.{YieldsList-from_range}
use Rattle.std.proofs.lemmas.Iterator.Search.{all_from_yields_List}
use native.Mathlib.Omega.{arith}
use Rattle.sound_matching.proofs.Ranges.{every_below}
use Rattle.sound_records.proofs.tag_alone.Goals as goal

pub returns : goal.returns
returns c =
    let a = c.args in
    all_from_yields_List (tags_differ a.p.now a.t a.k) _ _ _ c.all.ensures.ran (YieldsList-from_range 0 a.k a.k refl (omega arith)) (λ x b q k. search (rules, tests))
    ∙ every_below (tags_differ a.p.now a.t a.k) a.k
