use native.Mathlib.Omega.{arith}
use Prim.Native.Nat.{◌+◌}
use lib.ListN.{length}
use mathlib.Core.Path.{refl, sym}
use borrow.Author.Tests.{le-leb, lt-leb}
use lib.Seq.{set_out}
use Rattle.program_writing.specs.Texts.{past}
use Rattle.program_writing.proofs.write_character.Goals as goal

pub returns-then-place-text : goal.returns-then-place-text
unfolding past
returns-then-place-text c = let a = c.args in rw (le-leb (a.place + 1) (length a.text.now) (omega arith)) (record { value = refl; text_after = refl })

pub returns : goal.returns
unfolding past
returns c = let a = c.args in rw (lt-leb (a.place + 1) (length a.text.now) (omega arith)) (record { value = refl; text_after = sym (set_out _ _ _ c.if-place-text.false) })
