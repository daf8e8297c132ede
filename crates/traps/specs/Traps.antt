-- Document 01, "The calls that the hub uses" (rule 1): the call that a trap number and D0 name.
use Rattle.std.specs.Prelude.{ℕ, false, cond, List, [], ◌∷◌, eqb}
use Rattle.words.specs.Words.{word}
use Rattle.picture.specs.Keys.{bad_parameter}
use Rattle.calls.specs.Call.{Call}
use Rattle.jobs.specs.Calls.{information, suspend, release, activate, set_priority}
use Rattle.asking.specs.Ask.{ask}
use Rattle.creating.specs.Create.{create}
use Rattle.ending.specs.Remove.{remove, force_remove}
use Rattle.memory.specs.Memory.{longest_room, take, give_back}
use Rattle.opening.specs.Calls.{open_channel}
use Rattle.channels.specs.Calls.{close_channel, pending, fetch, send}

-- what stands behind a number in a list, or another where the number isn't there
abbrev pub among : {A : Type 0} → ℕ → List (ℕ × A) → A → A
among n [] c = c
among n (e ∷ l) c = cond (eqb n e.0) e.1 (among n l c)

-- rule 64: an unknown trap or call: a check that never passes
abbrev pub unknown : Call
unknown p d = record { checks = (false, bad_parameter) ∷ []; picture = p; registers = d }

-- the calls of trap 1
abbrev pub calls_one : List (ℕ × Call)
calls_one =
    (0x0, information) ∷
    (0x1, create) ∷
    (0x2, ask) ∷
    (0x4, remove) ∷
    (0x5, force_remove) ∷
    (0x6, longest_room) ∷
    (0x8, suspend) ∷
    (0x9, release) ∷
    (0xA, activate) ∷
    (0xB, set_priority) ∷
    (0x18, take) ∷
    (0x19, give_back) ∷ []

-- rules 1 and 63: the calls of trap 2
abbrev pub calls_two : List ℕ → List (ℕ × Call)
calls_two name = (0x1, open_channel name) ∷ (0x2, close_channel) ∷ []

-- the calls of trap 3
abbrev pub calls_three : List (ℕ × Call)
calls_three = (0x0, pending) ∷ (0x1, fetch) ∷ (0x5, send) ∷ []

unfoldable pub trap_one : ℕ → Call
trap_one code = among code calls_one unknown

unfoldable pub trap_two : ℕ → List ℕ → Call
trap_two code name = among code (calls_two name) unknown

unfoldable pub trap_three : ℕ → Call
trap_three code = among code calls_three unknown

-- the traps, each by its code
abbrev pub traps : ℕ → List ℕ → List (ℕ × Call)
traps code name = (1, trap_one code) ∷ (2, trap_two code name) ∷ (3, trap_three code) ∷ []

-- rule 64: the call that a trap number and D0 name
unfoldable pub call_named : ℕ → List ℕ → Call
call_named trap name p d = among trap (traps (word d 0) name) unknown p d
