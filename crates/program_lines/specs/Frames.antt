-- The session program's lines (rules 114 and 115): one frame a line, without its line feed.
use Rattle.std.specs.Prelude.{◌≡◌, List, [], Option, Some, None, ℕ, ◌-◌, ◌/◌, ◌%◌, ltb, eqb, length}
use Rattle.std.proofs.lemmas.List.Edits.{sets}
use Rattle.program_digits.specs.Digits.{pick, digits, number, numbers}
use Rattle.program_lines.specs.declared.Line.{Line}
use Rattle.program_lines.specs.declared.Line.TheVariants.{Pick, Tick, Report, Trap}

-- a bad line, a pick, a tick, a report of the tree of a job by its number, or a trap by its number with eight registers and a name's bytes
pub data Frame : Type 0 where
  bad : Frame
  picks : Frame
  ticks : Frame
  reports : ℕ → Frame
  traps : ℕ → List ℕ → List ℕ → Frame

-- rule 114: F0 and F1 have nothing after
unfoldable pub alone : List ℕ → Frame → Frame
alone s f = pick (eqb (length s) 2) f bad

-- rule 114: a trap by the number n: eight registers, then, for trap 2 only, any name's bytes; fewer than 66 digits and digits left over are bad
unfoldable pub trapped : ℕ → List ℕ → Frame
trapped n s =
    pick (ltb (length s) 66) bad
    (pick (eqb n 2) (traps n (numbers s 2 8 8) (numbers s 66 2 ((length s - 66) / 2)))
    (pick (eqb (length s) 66) (traps n (numbers s 2 8 8) []) bad))

-- rule 114: F2 and exactly 8 digits
unfoldable pub reported : List ℕ → Frame
reported s = pick (eqb (length s) 10) (reports (number s 2 8)) bad

-- the first two digits say which
unfoldable pub called : ℕ → List ℕ → Frame
called n s = pick (eqb n 0xF0) (alone s picks) (pick (eqb n 0xF1) (alone s ticks) (pick (eqb n 0xF2) (reported s) (trapped n s)))

-- rule 115: a line is bad if empty, over 512 characters, of an odd count, or with a character that is not hexadecimal
unfoldable pub frame : List ℕ → Frame
frame s =
    pick (eqb (length s) 0) bad
    (pick (ltb 512 (length s)) bad
    (pick (eqb (length s % 2) 1) bad
    (pick (digits s 0 (length s)) (called (number s 0 2) s) bad)))

-- a frame as the reader answers it: nothing of a bad line, and a trap by its number and how many bytes its name has
abbrev pub kind_of : Frame → Option Line
kind_of bad = None
kind_of picks = Some Pick
kind_of ticks = Some Tick
kind_of (reports n) = Some (Report n)
kind_of (traps n registers name) = Some (Trap n (length name))

abbrev pub registers_of : Frame → List ℕ
registers_of bad = []
registers_of picks = []
registers_of ticks = []
registers_of (reports n) = []
registers_of (traps n registers name) = registers

abbrev pub name_of : Frame → List ℕ
name_of bad = []
name_of picks = []
name_of ticks = []
name_of (reports n) = []
name_of (traps n registers name) = name

-- a frame is read: its kind is r, and its registers and its name are put into the rooms a and b, which are then c and d
pub record Told (f : Frame) (r : Option Line) (a b c d : List ℕ) : Type 0 where
  pub kind : r ≡ kind_of f
  pub registers : c ≡ sets a 0 (registers_of f)
  pub name : d ≡ sets b 0 (name_of f)
