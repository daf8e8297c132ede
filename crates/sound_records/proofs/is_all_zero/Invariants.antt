use Rattle.std.proofs.Common.{ℕ, eqb, ◌≡◌}
use Rattle.words.specs.Each.{every}
use Rattle.picture.specs.Records.{field}
use Rattle.sound_records.proofs.is_all_zero.Given as goal

abbrev pub invariant-loop-f : goal.invariant-loop-f
invariant-loop-f g l = l.zero ≡ every (λ (f : ℕ). eqb (field l.p l.t l.k f) 0) l.f
