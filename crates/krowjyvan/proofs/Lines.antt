-- The lines of a table, stored one after the other.
use Prim.Native.Nat.{ℕ, suc, ◌+◌, ◌*◌, ◌≤◌}
use mathlib.Core.Path.{◌≡◌, refl, ap}
use mathlib.Core.List.{List, [], ◌∷◌}
use native.Mathlib.Omega.{arith}
use lib.ListN.{length}
use lib.Seq.{sets}
use borrow.Rule.Slice.PartMut.{put_mid}
use Rattle.std.proofs.lemmas.List.Edits.{sets-eq}
use Rattle.std.proofs.Common.{append_assoc}
use Rattle.std.proofs.lemmas.List.{drop-drop}
use Rattle.report_lines.specs.declared.JobLine.{JobLine}
use Rattle.report_table.specs.Longwords.{line_longwords}
use Rattle.krowjyvan.specs.Lines.{lines_longwords}

-- a line, and those behind it
pub line_stored : (table : List ℕ) (i : ℕ) (l : JobLine) (ls : List JobLine) → sets table (5 * i) (lines_longwords (l ∷ ls)) ≡ sets (sets table (5 * i) (line_longwords l)) (5 * (i + 1)) (lines_longwords ls)
unfolding lines_longwords
line_stored table i l ls =
    let place : suc (suc (suc (suc (suc (5 * i))))) ≡ 5 * (i + 1) = omega arith in
    ap (λ (j : ℕ). sets (sets table (5 * i) (line_longwords l)) j (lines_longwords ls)) place

-- none
pub none_stored : (table : List ℕ) (i : ℕ) → sets table i (lines_longwords []) ≡ table
unfolding lines_longwords
none_stored table i = refl

-- longwords written at i are stored from i on
pub written_at : (xs vs ys : List ℕ) (i k : ℕ) → i + length vs ≤ length xs → k ≡ length vs → ys ≡ vs → put_mid i k xs ys ≡ sets xs i vs
written_at xs vs ys i k l e f = rw (f, e, sets-eq vs xs i l) (simp (append_assoc, drop-drop))
