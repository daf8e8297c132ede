-- What a call of `place` leaves, by its answer.
use Prim.Native.Nat.{ℕ, ◌%◌, ◌≤◌}
use mathlib.Core.Path.{◌≡◌, sym, ◌∙◌}
use mathlib.Core.List.{List}
use lib.ListN.{length}
use Rattle.std.proofs.Common.{Option, Some, None}
use Rattle.law_areas.specs.Area.{Tiled}
use Rattle.placing.specs.Place.{placed, Placing}
use Rattle.placing.proofs.Chosen.{Chosen, NoRoom}
use Rattle.placing.proofs.Answer.{placed_at_a_chosen_block, after_at, nowhere_is_no_room, no_room_is_nowhere, after_nowhere}
use Rattle.law_placing.specs.Placed.{Placed}
use Rattle.law_placing.proofs.Placed.{placed_keeps_the_area}

module _ (p q : List ℕ) (base e n k o s : ℕ) (r : Option ℕ) (P : Placing p base e n k o s r q) where
  -- Some i: the block at i was free and long enough, and now the new block stands there
  pub at_was_chosen : (i : ℕ) → r ≡ Some i → Chosen p base e n i
  at_was_chosen i h = placed_at_a_chosen_block p base e n i (sym P.answers ∙ h)

  pub at_is_placed : (i : ℕ) → r ≡ Some i → q ≡ placed p i n k o s
  at_is_placed i h = P.leaves ∙ after_at p base e n i k o s (sym P.answers ∙ h)

  pub at_keeps_the_area : (i : ℕ) → r ≡ Some i → e ≤ length p → Tiled p base e → n % 16 ≡ 0 → 16 ≤ n → (k ≡ 0 → ⊥) → Placed p q base e i n k o s
  at_keeps_the_area i h inside T units least used =
      rw (at_is_placed i h) (placed_keeps_the_area p base e i n k o s inside T (at_was_chosen i h) units least used)

  -- None: exactly when no free block is long enough, and then nothing changes
  pub nowhere_means_no_room : r ≡ None → NoRoom p base e n
  nowhere_means_no_room h = nowhere_is_no_room p base e n (sym P.answers ∙ h)

  pub no_room_means_nowhere : NoRoom p base e n → r ≡ None
  no_room_means_nowhere f = P.answers ∙ no_room_is_nowhere p base e n f

  pub nowhere_changes_nothing : r ≡ None → q ≡ p
  nowhere_changes_nothing h = P.leaves ∙ after_nowhere p base e n k o s (sym P.answers ∙ h)
