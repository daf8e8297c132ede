use Rattle.sound_entries.proofs.Passed.{Passed}
use Rattle.sound_entries.proofs.walk_entries.Given as goal

abbrev pub invariant-loop-k : goal.invariant-loop-k
invariant-loop-k l = Passed l.p l.t l.k l.entries l.seen
