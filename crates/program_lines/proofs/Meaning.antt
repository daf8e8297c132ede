-- Laws of a session line's meaning, one for each way that the reader goes. Assumes nothing.
use mathlib.Core.Path.{◌≡◌, refl, sym, ap, subst, ◌∙◌}
use mathlib.Core.Bool.{Bool, true, false, cond}
use mathlib.Core.Logic.{◌≢◌}
use mathlib.Core.List.{List, []}
use Prim.Native.Nat.{ℕ, ◌-◌, ◌/◌, ◌%◌, ◌<◌, ◌≤◌}
use native.Mathlib.Omega.{arith}
use borrow.Author.Tests.{lt-ltb, le-ltb, eq-eqb, ne_eqb, ltb-false}
use lib.Dec.{ltb, eqb}
use lib.ListN.{length}
use Rattle.program_digits.specs.Digits.{pick, digits, number, numbers}
use Rattle.program_digits.proofs.Reader.{length_numbers}
use Rattle.std.specs.Prelude.{Option, Some, None}
use Rattle.program_lines.specs.declared.Line.{Line}
use Rattle.program_lines.specs.declared.Line.TheVariants.{Pick, Tick, Report, Trap}
use Rattle.program_lines.specs.Frames.{Frame, bad, picks, ticks, reports, traps, alone, reported, trapped, called, frame, kind_of, registers_of, name_of, Told}

-- what is read of one frame is read of an equal one
pub told_as : (f g : Frame) (r : Option Line) (a b c d : List ℕ) → f ≡ g → Told g r a b c d → Told f r a b c d
told_as f g r a b c d e t = subst (λ (h : Frame). Told h r a b c d) (sym e) t

-- a bad line leaves the rooms as they are
pub told_bad : (f : Frame) (a b : List ℕ) → f ≡ bad → Told f None a b a b
told_bad f a b e = told_as f bad None a b a b e (record { kind = refl; registers = refl; name = refl })

module _ (n : ℕ) (s : List ℕ) where
  pub trap_short : length s < 66 → trapped n s ≡ bad
  unfolding trapped
  trap_short l = rw (lt-ltb (length s) 66 l)

  pub trap_named : 66 ≤ length s → n ≡ 2 → trapped n s ≡ traps n (numbers s 2 8 8) (numbers s 66 2 ((length s - 66) / 2))
  unfolding trapped
  trap_named l e = rw (le-ltb (length s) 66 l, eq-eqb n 2 e)

  pub trap_left_over : 66 ≤ length s → n ≢ 2 → length s ≢ 66 → trapped n s ≡ bad
  unfolding trapped
  trap_left_over l e m = rw (le-ltb (length s) 66 l, ne_eqb n 2 e, ne_eqb (length s) 66 m)

  pub trap_whole : n ≢ 2 → length s ≡ 66 → trapped n s ≡ traps n (numbers s 2 8 8) []
  unfolding trapped
  trap_whole e m = rw (le-ltb (length s) 66 (omega arith), ne_eqb n 2 e, eq-eqb (length s) 66 m)

  pub trap_called : n ≢ 0xF0 → n ≢ 0xF1 → n ≢ 0xF2 → called n s ≡ trapped n s
  unfolding called
  trap_called e f g = rw (ne_eqb n 240 e, ne_eqb n 241 f, ne_eqb n 242 g)

-- a report is read, whole or left over
module _ (s : List ℕ) where
  pub report_left_over : length s ≢ 10 → None ≡ kind_of (reported s)
  unfolding reported
  report_left_over e = rw (ne_eqb (length s) 10 e)

  pub report_whole : length s ≡ 10 → (n : ℕ) → n ≡ number s 2 8 → Some (Report n) ≡ kind_of (reported s)
  unfolding reported
  report_whole e n f = rw (eq-eqb (length s) 10 e, f)

-- a pick, a tick and a report, alone or left over, leave the rooms as they are
module _ (n : ℕ) (s : List ℕ) (r : Option Line) (a b : List ℕ) where
  pub pick_called : n ≡ 0xF0 → r ≡ cond (eqb (length s) 2) (Some Pick) None → Told (called n s) r a b a b
  unfolding called alone
  pick_called e k = rw (eq-eqb n 240 e) (go (eqb (length s) 2) k)
    where
      go : (t : Bool) → r ≡ cond t (Some Pick) None → Told (pick t picks bad) r a b a b
      go true k = record { kind = k; registers = refl; name = refl }
      go false k = record { kind = k; registers = refl; name = refl }

  pub tick_called : n ≡ 0xF1 → r ≡ cond (eqb (length s) 2) (Some Tick) None → Told (called n s) r a b a b
  unfolding called alone
  tick_called e k = rw (ne_eqb n 240 (λ z. omega arith), eq-eqb n 241 e) (go (eqb (length s) 2) k)
    where
      go : (t : Bool) → r ≡ cond t (Some Tick) None → Told (pick t ticks bad) r a b a b
      go true k = record { kind = k; registers = refl; name = refl }
      go false k = record { kind = k; registers = refl; name = refl }

  pub report_called : n ≡ 0xF2 → r ≡ kind_of (reported s) → Told (called n s) r a b a b
  unfolding called reported
  report_called e k = rw (ne_eqb n 240 (λ z. omega arith), ne_eqb n 241 (λ z. omega arith), eq-eqb n 242 e) (go (eqb (length s) 10) k)
    where
      go : (t : Bool) → r ≡ kind_of (pick t (reports (number s 2 8)) bad) → Told (pick t (reports (number s 2 8)) bad) r a b a b
      go true k = record { kind = k; registers = refl; name = refl }
      go false k = record { kind = k; registers = refl; name = refl }

module _ (s : List ℕ) where
  pub empty_bad : length s ≡ 0 → frame s ≡ bad
  unfolding frame
  empty_bad e = rw (eq-eqb (length s) 0 e)

  pub long_bad : 512 < length s → frame s ≡ bad
  unfolding frame
  long_bad l = rw (ne_eqb (length s) 0 (λ z. omega arith), lt-ltb 512 (length s) l)

  pub odd_bad : length s ≤ 512 → length s % 2 ≡ 1 → frame s ≡ bad
  unfolding frame
  odd_bad l e = rw (ne_eqb (length s) 0 (λ z. omega arith), le-ltb 512 (length s) l, eq-eqb (length s % 2) 1 e)

  pub strange_bad : length s ≢ 0 → length s ≤ 512 → length s % 2 ≢ 1 → digits s 0 (length s) ≡ false → frame s ≡ bad
  unfolding frame
  strange_bad z l e d = rw (ne_eqb (length s) 0 z, le-ltb 512 (length s) l, ne_eqb (length s % 2) 1 e, d)

  pub fair_called : length s ≢ 0 → length s ≤ 512 → length s % 2 ≢ 1 → digits s 0 (length s) ≡ true → frame s ≡ called (number s 0 2) s
  unfolding frame
  fair_called z l e d = rw (ne_eqb (length s) 0 z, le-ltb 512 (length s) l, ne_eqb (length s % 2) 1 e, d)

-- the registers of a trap are eight, and its name has at most 223 bytes
abbrev Sized : Frame → Type 0
Sized bad = Unit {0}
Sized picks = Unit {0}
Sized ticks = Unit {0}
Sized (reports n) = Unit {0}
Sized (traps n registers name) = (length registers ≡ 8) × (length name ≤ 223)

record Fits (f : Frame) : Type 0 where
  pub sized : Sized f

fits_pick : (b : Bool) {f g : Frame} → Fits f → Fits g → Fits (pick b f g)
fits_pick true h k = h
fits_pick false h k = k

fits_frame : (s : List ℕ) → Fits (frame s)
unfolding frame called alone reported trapped
fits_frame s = fits_pick (eqb (length s) 0) {f = bad} (record { sized = tt }) (go (ltb 512 (length s)) refl)
  where
    n : ℕ
    n = number s 0 2

    go : (b : Bool) → ltb 512 (length s) ≡ b → Fits (pick b bad (pick (eqb (length s % 2) 1) bad (pick (digits s 0 (length s)) (called n s) bad)))
    go true e = record { sized = tt }
    go false e =
        let few : length (numbers s 66 2 ((length s - 66) / 2)) ≤ 223 = rw (length_numbers s 66 2 ((length s - 66) / 2)) (omega (arith, ltb-false 512 (length s) e)) in
        let named : Fits (traps n (numbers s 2 8 8) (numbers s 66 2 ((length s - 66) / 2))) = record { sized = (length_numbers s 2 8 8, few) } in
        let whole : Fits (traps n (numbers s 2 8 8) []) = record { sized = (length_numbers s 2 8 8, omega arith) } in
        let lone : Fits bad = record { sized = tt } in
        let picked : Fits picks = record { sized = tt } in
        let ticked : Fits ticks = record { sized = tt } in
        let told : Fits (reports (number s 2 8)) = record { sized = tt } in
        fits_pick (eqb (length s % 2) 1) lone
        (fits_pick (digits s 0 (length s))
        (fits_pick (eqb n 240) (fits_pick (eqb (length s) 2) picked lone)
        (fits_pick (eqb n 241) (fits_pick (eqb (length s) 2) ticked lone)
        (fits_pick (eqb n 242) (fits_pick (eqb (length s) 10) told lone)
        (fits_pick (ltb (length s) 66) lone (fits_pick (eqb n 2) named (fits_pick (eqb (length s) 66) whole lone))))))
        lone)

-- the frame of a line of this kind with these registers and this name
abbrev pub framed : Option Line → List ℕ → List ℕ → Frame
framed None registers name = bad
framed (Some Pick) registers name = picks
framed (Some Tick) registers name = ticks
framed (Some (Report n)) registers name = reports n
framed (Some (Trap n k)) registers name = traps n registers name

-- a frame is that of its kind
as_framed : (f : Frame) → f ≡ framed (kind_of f) (registers_of f) (name_of f)
as_framed bad = refl
as_framed picks = refl
as_framed ticks = refl
as_framed (reports n) = refl
as_framed (traps n registers name) = refl

pub kind_says : (f : Frame) (r : Option Line) → kind_of f ≡ r → f ≡ framed r (registers_of f) (name_of f)
kind_says f r e = as_framed f ∙ ap (λ (x : Option Line). framed x (registers_of f) (name_of f)) e

-- how many bytes of name a kind tells
abbrev told_bytes : Option Line → ℕ
told_bytes None = 0
told_bytes (Some Pick) = 0
told_bytes (Some Tick) = 0
told_bytes (Some (Report n)) = 0
told_bytes (Some (Trap n k)) = k

names_bytes : (f : Frame) → told_bytes (kind_of f) ≡ length (name_of f)
names_bytes bad = refl
names_bytes picks = refl
names_bytes ticks = refl
names_bytes (reports n) = refl
names_bytes (traps n registers name) = refl

-- a frame is the trap n with eight registers and a name of k bytes
pub record Trapped (f : Frame) (n k : ℕ) : Type 0 where
  pub is : f ≡ traps n (registers_of f) (name_of f)
  pub eight : length (registers_of f) ≡ 8
  pub counts : length (name_of f) ≡ k
  pub short : k ≤ 223

pub trap_read : (s : List ℕ) (n k : ℕ) → kind_of (frame s) ≡ Some (Trap n k) → Trapped (frame s) n k
trap_read s n k e =
    let i = kind_says (frame s) (Some (Trap n k)) e in
    let c = sym (names_bytes (frame s)) ∙ ap told_bytes e in
    let z : (length (registers_of (frame s)) ≡ 8) × (length (name_of (frame s)) ≤ 223) = subst Sized i (fits_frame s).sized in
    record { is = i; eight = z.0; counts = c; short = rw c at z.1 }
