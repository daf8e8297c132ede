use Rattle.std.proofs.Common.{◌≡◌, ◌<◌, ◌^◌}
use Rattle.program_digits.specs.Digits.{number}
use Rattle.program_digits.proofs.number_at.Given as goal

-- the value is what the digits passed say, below 16 to their count
abbrev pub invariant-loop-k : goal.invariant-loop-k
invariant-loop-k l = (l.value ≡ number l.text l.place l.k) × (l.value < 16 ^ l.k)
