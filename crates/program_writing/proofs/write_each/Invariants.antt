use mathlib.Core.Path.{◌≡◌}
use Prim.Native.Nat.{◌+◌, ◌*◌}
use lib.ListN.{length, drop}
use Rattle.program_writing.specs.Texts.{written_words}
use Rattle.program_writing.proofs.write_each.Given as goal

-- writing what is left gives what writing all gives
abbrev pub invariant-loop-word : goal.invariant-loop-word
invariant-loop-word l = (l.i ≡ l.place + 8 * l.word-index) × (length l.text ≡ length l.initial.text) × (written_words l.initial.text l.place l.words ≡ written_words l.text l.i (drop l.word-index l.words))
