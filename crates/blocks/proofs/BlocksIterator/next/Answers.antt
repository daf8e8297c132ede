use Rattle.std.proofs.Common.{arith, rules, ◌∙◌, ◌<◌, length}
use Rattle.blocks.specs.Walk.{starts}
use Rattle.blocks.proofs.Walk.{starts_end, starts_more}
use Rattle.blocks.proofs.BlocksIterator.next.Goals as goal

pub returns-then-self-clause-steps : goal.returns-then-self-clause-steps
returns-then-self-clause-steps c = let z = starts_end _ _ _ c.if-self.true in (z, z)

pub returns-clause-steps : goal.returns-clause-steps
returns-clause-steps c = starts_more _ _ _ c.if-self.false ∙ rw c.next_block-self.ensures

pub returns-clause-goes : goal.returns-clause-goes
returns-clause-goes c =
    let l : length (starts c.args.self.now.picture.now c.next_block-self.result c.args.self.now.end) < length (starts c.args.self.now.picture.now c.args.self.now.start c.args.self.now.end) =
    rw (starts_more c.args.self.now.picture.now c.args.self.now.start c.args.self.now.end c.if-self.false, c.next_block-self.ensures) (omega arith) in
    record { on = λ h. (search rules, search rules, l); keeps = search rules; rests = search rules }
