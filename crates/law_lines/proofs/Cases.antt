-- The session program's whole case, as it is read and as an answer is written. Assumes nothing.
use mathlib.Core.Path.{◌≡◌, refl}
use mathlib.Core.List.{List, [], ◌∷◌}
use Prim.Native.Nat.{ℕ}
use lib.ListN.{replicate}
use Rattle.program_digits.specs.Digits.{digit, digits, number, numbers}
use Rattle.program_writing.specs.Texts.{capital, past, written, written_words, with_words, with_answer}
use Rattle.program_lines.specs.Frames.{bad, picks, ticks, traps, alone, trapped, called, frame}

abbrev take_100 : List ℕ
take_100 =
    48 ∷ 49 ∷ 48 ∷ 48 ∷ 48 ∷ 48 ∷ 48 ∷ 48 ∷ 49 ∷ 56 ∷ 48 ∷ 48 ∷ 48 ∷ 48 ∷ 48 ∷ 48 ∷ 54 ∷ 52 ∷ 48 ∷ 48 ∷ 48 ∷ 48 ∷ 48 ∷ 48 ∷ 48 ∷ 48 ∷ 48 ∷ 48 ∷ 48 ∷ 48 ∷ 48 ∷ 48 ∷ 48 ∷ 48 ∷ 48 ∷ 48 ∷ 48 ∷ 48 ∷ 48 ∷ 48 ∷ 48 ∷ 48 ∷ 48 ∷ 48 ∷ 48 ∷ 48 ∷ 48 ∷ 48 ∷ 48 ∷ 48 ∷ 48 ∷ 48 ∷ 48 ∷ 48 ∷ 48 ∷ 48 ∷ 48 ∷ 48 ∷ 48 ∷ 48 ∷ 48 ∷ 48 ∷ 48 ∷ 48 ∷ 48 ∷ 48 ∷ []

pub take_100_read : frame take_100 ≡ traps 1 (24 ∷ 100 ∷ 0 ∷ 0 ∷ 0 ∷ 0 ∷ 0 ∷ 0 ∷ []) []
unfolding frame called trapped digits digit number numbers
take_100_read = refl

pub pick_read : frame (70 ∷ 48 ∷ []) ≡ picks
unfolding frame called alone digits digit number
pick_read = refl

pub small_tick_read : frame (102 ∷ 49 ∷ []) ≡ ticks
unfolding frame called alone digits digit number
small_tick_read = refl

pub empty_line_read : frame [] ≡ bad
unfolding frame
empty_line_read = refl

pub answer_written : with_answer (replicate 17 0) 0 (0x1630 ∷ 0xFFFFFFF1 ∷ []) ≡ 48 ∷ 48 ∷ 48 ∷ 48 ∷ 49 ∷ 54 ∷ 51 ∷ 48 ∷ 70 ∷ 70 ∷ 70 ∷ 70 ∷ 70 ∷ 70 ∷ 70 ∷ 49 ∷ 10 ∷ []
unfolding with_answer with_words written_words written capital past
answer_written = refl
