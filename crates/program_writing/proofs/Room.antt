-- What is put at the start of a room: longwords, bytes or lines.
use Prim.Native.Nat.{ℕ, ◌≤◌}
use mathlib.Core.Path.{◌≡◌, sym, ap, ◌∙◌}
use mathlib.Core.List.{List, ◌++◌}
use native.Mathlib.Omega.{arith}
use native.Mathlib.Nat.{zero-add}
use lib.ListN.{length, take, drop}
use lib.Seq.{sets, sets-eq, length-sets, take_all, take-append_seam, drop-append_seam}

-- it is the first of the room, and behind it the room is as it was
module _ {X : Type 0} (a v : List X) where
  in_room : length v ≤ length a → sets a 0 v ≡ v ++ drop (length v) a
  in_room l = sets-eq v a 0 (omega arith) ∙ ap (λ (k : ℕ). v ++ drop k a) (zero-add (length v))

  pub first_of : length v ≤ length a → take (length v) (sets a 0 v) ≡ v
  first_of l = ap (take (length v)) (in_room l) ∙ take-append_seam v (drop (length v) a)

  pub rest_of : length v ≤ length a → drop (length v) (sets a 0 v) ≡ drop (length v) a
  rest_of l = ap (drop (length v)) (in_room l) ∙ drop-append_seam v (drop (length v) a)

  -- what fills its room is the room
  pub all_of : length v ≡ length a → sets a 0 v ≡ v
  all_of e = sym (take_all (length v) (sets a 0 v) (rw (length-sets a 0 v) (omega arith))) ∙ first_of (omega arith)
