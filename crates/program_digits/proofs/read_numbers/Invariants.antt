use Rattle.std.proofs.Common.{◌≡◌, ◌+◌, ◌-◌, ◌*◌}
use Rattle.std.specs.Prelude.{map}
use Rattle.std.proofs.lemmas.List.Edits.{sets}
use Rattle.program_digits.specs.Digits.{numbers}
use Rattle.program_digits.proofs.read_numbers.Given as goal

-- storing what is left gives what storing all gives
abbrev pub invariant-loop-k : goal.invariant-loop-k
invariant-loop-k g l = sets l.initial.room 0 (map g.N.Spelled.value (numbers l.text l.place g.N.Spelled.WIDTH l.count)) ≡ sets l.room l.k (map g.N.Spelled.value (numbers l.text (l.place + g.N.Spelled.WIDTH * l.k) g.N.Spelled.WIDTH (l.count - l.k)))
