use Rattle.errors.specs.Text.{error_key}
use mir.ValLaws.{to_z-of_z}
use mir.Syntax.{w32}
use lib.IntN.{ℤ}
use mathlib.Core.Path.{◌∙◌, ap}
use Rattle.manager.proofs.error_key.Goals as goal

pub returns : goal.returns
returns c =
    let k = c.error_key in
    to_z-of_z w32 k.result (record { sfits = k.type_inv }) ∙ k.ensures ∙ ap (λ (z : ℤ). error_key z c.args.system.now c.args.driver.now) (to_z-of_z w32 c.args.key c.ranges.key)
