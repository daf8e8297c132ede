use Rattle.fresh.proofs.Good.{sizes, refused, accepted, other_length, bad_size, bad_heap, all_good}
use Rattle.fresh.specs.Fresh.{fresh_good}
use mathlib.Core.Path.{◌≡◌, sym, ◌∙◌}
use mathlib.Core.Bool.{true}
use lib.ListN.{length}
use Rattle.fresh.proofs.make_fresh.Goals as goal

pub returns-then-p-n : goal.returns-then-p-n
returns-then-p-n c = refused _ _ _ (other_length _ _ _ c.if-p-n.true)

pub returns-then-not-size_within : goal.returns-then-not-size_within
returns-then-not-size_within c = refused _ _ _ (bad_size _ _ _ c.if-p-n.false (sym c.size_within.ensures ∙ c.if-not-size_within.true))

pub returns-then-not-heap_within : goal.returns-then-not-heap_within
returns-then-not-heap_within c = refused _ _ _ (bad_heap _ _ _ c.if-p-n.false (sym c.size_within.ensures ∙ c.if-not-size_within.false) (sym c.heap_within.ensures ∙ c.if-not-heap_within.true))

pub write_fresh-requires : goal.write_fresh-requires
write_fresh-requires c = let z = sizes _ _ _ ((let z : fresh_good (length c.args.p.now) c.args.n c.args.h ≡ true = all_good _ _ _ c.if-p-n.false (sym c.size_within.ensures ∙ c.if-not-size_within.false) (sym c.heap_within.ensures ∙ c.if-not-heap_within.false) in z)) in (z.same, z.most, z.heap_most)

pub returns : goal.returns
returns c =
    let g = accepted _ _ _ ((let z : fresh_good (length c.args.p.now) c.args.n c.args.h ≡ true = all_good _ _ _ c.if-p-n.false (sym c.size_within.ensures ∙ c.if-not-size_within.false) (sym c.heap_within.ensures ∙ c.if-not-heap_within.false) in z)) in
    (g.0, c.write_fresh.ensures ∙ g.1)
