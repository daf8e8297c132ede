use native.Mathlib.Omega.{arith}
use mathlib.Core.Path.{refl, sym, ◌∙◌}
use Prim.Native.Nat.{◌≤◌, ◌+◌, ◌*◌}
use lib.ListN.{length}
use borrow.Author.Tests.{leb-true, lt-leb}
use Rattle.program_writing.specs.Texts.{past, with_words}
use Rattle.program_writing.proofs.write_words.Goals as goal

pub returns-then-text-words : goal.returns-then-text-words
unfolding past with_words
returns-then-text-words c =
    let a = c.args in
    rw (lt-leb (a.place + 8 * length a.words.now) (length a.text.now) (omega arith)) (record { value = refl; text_after = refl })

pub returns-then-not-is_room : goal.returns-then-not-is_room
unfolding past with_words
returns-then-not-is_room c = rw (sym c.is_room.ensures ∙ c.if-not-is_room.true) (record { value = refl; text_after = refl })

pub write_each-requires : goal.write_each-requires
write_each-requires c = leb-true _ _ (sym c.is_room.ensures ∙ c.if-not-is_room.false)

pub overflow_add-result : goal.overflow_add-result
overflow_add-result c =
    let l : c.args.place + 8 * length c.args.words.now ≤ length c.args.text.now = leb-true _ _ (sym c.is_room.ensures ∙ c.if-not-is_room.false) in
    omega arith

pub returns : goal.returns
unfolding past with_words
returns c = rw (sym c.is_room.ensures ∙ c.if-not-is_room.false) (record { value = refl; text_after = c.write_each.ensures })
