use mathlib.Core.Path.{refl, sym, ◌∙◌}
use Prim.Native.Nat.{◌≤◌, ◌+◌}
use lib.ListN.{length}
use borrow.Author.Tests.{leb-true}
use Rattle.program_writing.specs.Texts.{past, with_number}
use native.Mathlib.Omega.{arith}
use Rattle.program_writing.proofs.write_number.Goals as goal

pub returns-then-not-is_room : goal.returns-then-not-is_room
unfolding past with_number
returns-then-not-is_room c = rw (sym c.is_room.ensures ∙ c.if-not-is_room.true) (record { value = refl; text_after = refl })

pub write_digits-requires : goal.write_digits-requires
write_digits-requires c = leb-true _ _ (sym c.is_room.ensures ∙ c.if-not-is_room.false)

pub overflow_add-result : goal.overflow_add-result
overflow_add-result c =
    let l : c.args.place + c.args.count ≤ length c.args.text.now = leb-true _ _ (sym c.is_room.ensures ∙ c.if-not-is_room.false) in
    omega arith

pub returns : goal.returns
unfolding past with_number
returns c = rw (sym c.is_room.ensures ∙ c.if-not-is_room.false) (record { value = refl; text_after = c.write_digits.ensures })
