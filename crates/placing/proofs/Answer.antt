-- What an answer of `place` tells its caller.
use Prim.Native.Nat.{ℕ, ◌<◌, ◌≤◌}
use mathlib.Core.Path.{◌≡◌, refl}
use mathlib.Core.Bool.{Bool, true, false, cond}
use mathlib.Core.List.{List}
use lib.Dec.{ltb}
use native.Mathlib.Omega.{arith}
use borrow.Author.Tests.{ltb-true, ltb-false, lt-ltb, le-ltb}
use Rattle.std.proofs.Common.{Some, None}
use Rattle.std.proofs.lemmas.Option.{cond_some}
use Rattle.placing.specs.Place.{chosen, placed, answer, after}
use Rattle.placing.proofs.Chosen.{Chosen, NoRoom, chosen_is_free_and_enough, chosen_is_not_past_the_end, none_is_chosen_where_all_are_shorter, all_are_shorter_where_none_is_chosen}

nowhere_case : (t : Bool) (x : ℕ) → cond t (Some x) None ≡ None → t ≡ false
nowhere_case true x h = cc
nowhere_case false x h = refl

module _ (p : List ℕ) (base e n : ℕ) where
  -- Some i: the block at i is chosen, and the picture is the one with the new block there
  pub answer_at : (i : ℕ) → answer p base e n ≡ Some i → (chosen p base e n < e) × (chosen p base e n ≡ i)
  unfolding answer
  answer_at i h = let r = cond_some (ltb (chosen p base e n) e) (chosen p base e n) i h in (ltb-true _ _ r.0, r.1)

  pub placed_at_a_chosen_block : (i : ℕ) → answer p base e n ≡ Some i → Chosen p base e n i
  placed_at_a_chosen_block i h = let a = answer_at i h in rw a.1 at (chosen_is_free_and_enough p base e n a.0)

  pub after_at : (i k o s : ℕ) → answer p base e n ≡ Some i → after p base e n k o s ≡ placed p i n k o s
  unfolding after
  after_at i k o s h = let a = answer_at i h in rw (lt-ltb _ _ a.0, a.1)

  -- None: exactly when no free block is long enough, and the picture stays
  pub nowhere_is_no_room : answer p base e n ≡ None → NoRoom p base e n
  unfolding answer
  nowhere_is_no_room h =
      let l : e ≤ chosen p base e n = ltb-false _ _ (nowhere_case (ltb (chosen p base e n) e) (chosen p base e n) h) in
      let u = chosen_is_not_past_the_end p base e n in
      all_are_shorter_where_none_is_chosen p base e n (omega arith)

  pub no_room_is_nowhere : NoRoom p base e n → answer p base e n ≡ None
  unfolding answer
  no_room_is_nowhere f = let z = none_is_chosen_where_all_are_shorter p base e n f in rw (le-ltb (chosen p base e n) e (omega arith))

  pub after_nowhere : (k o s : ℕ) → answer p base e n ≡ None → after p base e n k o s ≡ p
  unfolding after answer
  after_nowhere k o s h = rw (nowhere_case (ltb (chosen p base e n) e) (chosen p base e n) h)
