-- A worked example: job 2 owns job 3, which owns job 1, and tags rise in that order. Asking again with the answer meets them in it.
use Prim.Native.Nat.{ℕ}
use mathlib.Core.Path.{◌≡◌, refl}
use mathlib.Core.List.{List, [], ◌∷◌}
use lib.ListN.{replicate}
use lib.Seq.{sets}
use Rattle.picture.specs.Layout.{nobody, heap_base}
use Rattle.picture.specs.Records.{slot, members, with_members, used}
use Rattle.picture.specs.declared.Table.TheVariants.{Jobs}
use Rattle.masks.specs.Masks.{with_bit, mask}
use Rattle.tree.specs.Tree.{climbs, in_tree, tree}
use Rattle.asking.specs.Next.{nearer, next_below, next_member}

jobs : List ℕ
jobs =
    sets (sets (sets (sets (with_members (replicate heap_base 0) Jobs 15)
    (slot Jobs 0) (0 ∷ nobody ∷ []))
    (slot Jobs 1) (196609 ∷ 131075 ∷ []))
    (slot Jobs 2) (65538 ∷ nobody ∷ []))
    (slot Jobs 3) (131075 ∷ 65538 ∷ [])

after_job_2 : next_member jobs (tree jobs 2) 1 ≡ 131075
unfolding jobs climbs in_tree mask tree used nearer next_below next_member with_bit members with_members
after_job_2 = refl

after_job_3 : next_member jobs (tree jobs 2) 2 ≡ 196609
unfolding jobs climbs in_tree mask tree used nearer next_below next_member with_bit members with_members
after_job_3 = refl

after_job_1 : next_member jobs (tree jobs 2) 3 ≡ 0
unfolding jobs climbs in_tree mask tree used nearer next_below next_member with_bit members with_members
after_job_1 = refl
