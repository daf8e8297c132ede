-- Ending takes the tree and no more: a call that answers 0 passed the door and its checks, so it did what ending a tree does.
use Prim.Native.Nat.{ℕ}
use mathlib.Core.Path.{◌≡◌, refl, ◌∙◌}
use mathlib.Core.Bool.{true}
use mathlib.Core.Logic.{inl, inr}
use mathlib.Core.List.{List, [], ◌∷◌}
use native.Mathlib.Omega.{arith}
use lib.ListN.{length}
use Rattle.words.specs.Words.{put, clear}
use Rattle.picture.specs.Keys.{done}
use Rattle.picture.specs.Numbers.{live}
use Rattle.picture.specs.declared.Table.TheVariants.{Jobs}
use Rattle.picture.proofs.Numbers.{live_is}
use Rattle.sound.specs.Sound.{sound}
use Rattle.calls.specs.Outcome.{Outcome, succeed}
use Rattle.calls.specs.Call.{outcome}
use Rattle.calls.specs.Registers.{D1, D3, cleared, meant}
use Rattle.ending.specs.Ended.{ended}
use Rattle.ending.specs.Remove.{remove, force_remove}
use Rattle.traps.specs.Traps.{trap_one, call_named}
use Rattle.manager.specs.Door.{with_key}
use Rattle.manager.proofs.Door.{named_one}
use Rattle.law_ending.proofs.Promise.{ending_leaves_others, ending_takes_the_tree}
use Rattle.law_ending.proofs.Calls.{remove_where_done, force_remove_where_done}
use Rattle.law_promises.specs.History.{run}
use Rattle.law_promises.specs.Ending.{top, Ends, AsksForAnEnding, EndingTakesTheTree, EndingTakesTheTreeInAnyHistory}
use Rattle.law_promises.proofs.Done.{where_the_call_is_done}
use Rattle.law_promises.proofs.History.{run_keeps_sound}

-- eight registers, all cleared
eight_zeros : (d : List ℕ) → length d ≡ 8 → put (cleared d) 0 0 ≡ 0 ∷ 0 ∷ 0 ∷ 0 ∷ 0 ∷ 0 ∷ 0 ∷ 0 ∷ []
unfolding clear
eight_zeros (a ∷ b ∷ c ∷ e ∷ f ∷ g ∷ h ∷ i ∷ []) l = refl
eight_zeros (a ∷ b ∷ c ∷ e ∷ f ∷ g ∷ h ∷ i ∷ j ∷ d) l = absurd (omega arith)
eight_zeros (a ∷ b ∷ c ∷ e ∷ f ∷ g ∷ h ∷ []) l = absurd (omega arith)
eight_zeros (a ∷ b ∷ c ∷ e ∷ f ∷ g ∷ []) l = absurd (omega arith)
eight_zeros (a ∷ b ∷ c ∷ e ∷ f ∷ []) l = absurd (omega arith)
eight_zeros (a ∷ b ∷ c ∷ e ∷ []) l = absurd (omega arith)
eight_zeros (a ∷ b ∷ c ∷ []) l = absurd (omega arith)
eight_zeros (a ∷ b ∷ []) l = absurd (omega arith)
eight_zeros (a ∷ []) l = absurd (omega arith)
eight_zeros [] l = absurd (omega arith)

module _ (p d name : List ℕ) (l : length d ≡ 8) (s : sound p ≡ true) where
  -- what ending does where its checks pass
  ends : live p Jobs (meant p (D1 d)) ≡ true → (top p d ≡ 0 → ⊥) → Ends p d (with_key (succeed (ended p (top p d) (D3 d)) (cleared d)))
  ends a z =
      let u = (live_is p Jobs (meant p (D1 d)) a).used in
      record { lives = a; other = z; leaves = ending_leaves_others p (top p d) (D3 d) s u z; takes = ending_takes_the_tree p (top p d) (D3 d) s u z; registers = eight_zeros d l }

  -- the call that D0 names
  by_code : AsksForAnEnding d → (outcome (call_named 1 name) p d).key ≡ done → Ends p d (with_key (outcome (call_named 1 name) p d))
  unfolding trap_one outcome
  by_code (inl e) =
      let z : outcome (call_named 1 name) p d ≡ outcome remove p d = named_one 1 p d name refl ∙ rw e in
      rw z (remove_where_done p d (λ (o : Outcome). Ends p d (with_key o)) ends)
  by_code (inr e) =
      let z : outcome (call_named 1 name) p d ≡ outcome force_remove p d = named_one 1 p d name refl ∙ rw e in
      rw z (force_remove_where_done p d (λ (o : Outcome). Ends p d (with_key o)) ends)

pub ending_takes_the_tree_and_no_more : EndingTakesTheTree
ending_takes_the_tree_and_no_more p d name a = where_the_call_is_done 1 p d name (Ends p d) (λ l s _ e. by_code p d name l s a e)

pub ending_takes_the_tree_and_no_more_in_any_history : EndingTakesTheTreeInAnyHistory
ending_takes_the_tree_and_no_more_in_any_history p s events d name a e = (run_keeps_sound events p s, ending_takes_the_tree_and_no_more (run events p) d name a e)
