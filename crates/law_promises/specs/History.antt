-- Histories of calls, picks and ticks, and demand 2 over them: "From one fresh picture to the next, with our calls alone, a dead job number
-- never names a job again, nor a dead channel number a channel."
use Rattle.std.specs.Prelude.{ℕ, ◌≤◌, ◌≡◌, true, false, List, [], ◌∷◌, ◌++◌}
use Rattle.words.specs.Words.{word}
use Rattle.picture.specs.Layout.{last_word}
use Rattle.picture.specs.Numbers.{live}
use Rattle.picture.specs.declared.Table.{Table}
use Rattle.sound.specs.Sound.{sound}
use Rattle.fresh.specs.Fresh.{fresh, fresh_good}
use Rattle.manager.specs.Door.{called}
use Rattle.manager.specs.Turn.{pick_picture, ticking}

-- what can happen to a picture: a trap call with its trap number, registers and name, a pick, a tick
pub data Event : Type 0 where
  trap : ℕ → List ℕ → List ℕ → Event
  pick : Event
  tick : Event

-- the picture after an event: the definitions that the contracts cite
abbrev pub after : Event → List ℕ → List ℕ
after (trap n d name) p = (called n p d name).picture
after pick p = pick_picture p
after tick p = ticking p

-- the picture after a history
abbrev pub run : List Event → List ℕ → List ℕ
run [] p = p
run (e ∷ events) p = run events (after e p)

-- over any history from a fresh picture, the picture is sound
abbrev pub AlwaysSound : Type 0
AlwaysSound = (n h : ℕ) → fresh_good n n h ≡ true → (events : List Event) → sound (run events (fresh n h)) ≡ true

-- a number that names something and has died never names anything again, from any sound picture
abbrev pub DeadStaysDead : Type 0
DeadStaysDead = (p : List ℕ) → sound p ≡ true → (t : Table) (number : ℕ) (then later : List Event)
    → live p t number ≡ true
    → live (run then p) t number ≡ false
    → live (run (then ++ later) p) t number ≡ false

-- so it is from one fresh picture to the next
abbrev pub DeadSinceFresh : Type 0
DeadSinceFresh = (n h : ℕ) → fresh_good n n h ≡ true → (t : Table) (number : ℕ) (first then later : List Event)
    → live (run first (fresh n h)) t number ≡ true
    → live (run then (run first (fresh n h))) t number ≡ false
    → live (run (then ++ later) (run first (fresh n h))) t number ≡ false

-- tags rise: the last tag given never falls, from any sound picture
abbrev pub LastTagNeverFalls : Type 0
LastTagNeverFalls = (p : List ℕ) → sound p ≡ true → (t : Table) (events : List Event) → word p (last_word t) ≤ word (run events p) (last_word t)
