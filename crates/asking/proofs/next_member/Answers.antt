use Rattle.picture.specs.Layout.{positions}
use Rattle.picture.specs.declared.Table.TheVariants.{Jobs}
use mathlib.Core.Path.{◌≡◌, refl, sym, ◌∙◌}
use Rattle.asking.specs.Next.{next_below, next_member}
use Rattle.asking.proofs.Next.{next_takes, next_passes}
use native.Mathlib.Omega.{arith}
use Rattle.asking.proofs.next_member.Goals as goal
use Rattle.asking.proofs.next_member.Goals.{then-is_nearer, else-is_nearer}

pub loop-k-init : goal.loop-k-init
unfolding next_below
loop-k-init c = (omega arith, refl)

pub loop-k-preserved : goal.loop-k-preserved
loop-k-preserved c =
    let i = c.loop-k.invariant in (
      omega arith,
      elim c.if-is_nearer.branch [
        | then-is_nearer v ↦ v.n-is ∙ v.field_of-n.ensures ∙ next_takes _ _ _ _ _ i.1 (sym c.is_nearer.ensures ∙ v.if-is_nearer.true)
        | else-is_nearer v ↦ v.n-is ∙ next_passes _ _ _ _ _ i.1 (sym c.is_nearer.ensures ∙ v.if-is_nearer.false)
      ],
    )

pub returns : goal.returns
unfolding next_member
returns c = let e : c.loop-k.k ≡ positions Jobs = omega arith in c.loop-k.invariant.1 ∙ rw e
