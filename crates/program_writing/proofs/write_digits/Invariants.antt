use mathlib.Core.Path.{◌≡◌}
use lib.ListN.{length}
use Rattle.program_writing.specs.Texts.{written}
use Rattle.program_writing.proofs.write_digits.Given as goal

-- writing what is left gives what writing all gives
abbrev pub invariant-loop-k : goal.invariant-loop-k
invariant-loop-k l = (length l.text ≡ length l.initial.text) × (written l.initial.text l.place l.count l.number ≡ written l.text l.place l.k l.rest)
