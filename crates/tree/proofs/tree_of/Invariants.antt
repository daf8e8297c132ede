use Rattle.tree.specs.Tree.{in_tree}
use Rattle.tree.proofs.tree_of.Given as goal

abbrev pub ghost-positions_passing : goal.ghost-positions_passing
ghost-positions_passing a = in_tree a.passes.0.now a.passes.1.now
