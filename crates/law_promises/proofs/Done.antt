-- A call that answers 0 had eight registers, a sound picture, a job that is current, and did what the call named does.
use Prim.Native.Nat.{ℕ}
use mathlib.Core.Path.{◌≡◌, refl, ◌∙◌}
use mathlib.Core.Bool.{Bool, true, false, cond}
use mathlib.Core.List.{List}
use native.Mathlib.Omega.{arith}
use lib.ListN.{length}
use lib.Dec.{eqb}
use borrow.Author.Tests.{eqb-true}
use Rattle.words.specs.Words.{word}
use Rattle.picture.specs.Layout.{nobody}
use Rattle.picture.specs.Keys.{done, not_sound, bad_parameter}
use Rattle.sound.specs.Sound.{sound}
use Rattle.calls.specs.Outcome.{Outcome, refuse}
use Rattle.calls.specs.Call.{outcome}
use Rattle.calls.specs.Registers.{caller}
use Rattle.calls.proofs.Call.{keys_differ, invalid_job_refuses, bad_parameter_refuses}
use Rattle.creating.specs.Create.{create}
use Rattle.opening.specs.Calls.{open_channel}
use Rattle.traps.specs.Traps.{trap_one, trap_two, call_named}
use Rattle.manager.specs.Door.{checked, with_key, called}
use Rattle.manager.proofs.Door.{named_one, named_two}
use Rattle.law_promises.proofs.Door.{checked_by}

not_sound_refuses : not_sound ≡ done → ⊥
not_sound_refuses = keys_differ not_sound done (λ e. omega arith)

module _ (trap : ℕ) (p d name : List ℕ) where
  -- what the call named gives where it answers 0
  abbrev Done : (Outcome → Type 0) → Type 0
  Done P = length d ≡ 8 → sound p ≡ true → (caller p ≡ nobody → ⊥) → (outcome (call_named trap name) p d).key ≡ done → P (with_key (outcome (call_named trap name) p d))

  pub where_the_call_is_done : (P : Outcome → Type 0) → Done P → (called trap p d name).key ≡ done → P (called trap p d name)
  unfolding called
  where_the_call_is_done P f = go (eqb (length d) 8) refl
    where
      inner : length d ≡ 8 → (outcome (checked trap name) p d).key ≡ done → P (with_key (outcome (checked trap name) p d))
      inner l = checked_by trap p d name (λ (o : Outcome). o.key ≡ done → P (with_key o)) (λ e. absurd (not_sound_refuses e)) (λ e. absurd (invalid_job_refuses e)) (λ s n e. f l s n e)

      go : (b : Bool) → eqb (length d) 8 ≡ b → (cond b (with_key (outcome (checked trap name) p d)) (refuse bad_parameter p d)).key ≡ done
          → P (cond b (with_key (outcome (checked trap name) p d)) (refuse bad_parameter p d))
      go true l e = inner (eqb-true (length d) 8 l) e
      go false l e = absurd (bad_parameter_refuses e)

-- the two calls that make an entry
module _ (p d name : List ℕ) (P : Outcome → Type 0) (e : word d 0 ≡ 0x1) where
  is_the_making : outcome (call_named 1 name) p d ≡ outcome create p d
  unfolding trap_one outcome
  is_the_making = named_one 1 p d name refl ∙ rw e

  is_the_opening : outcome (call_named 2 name) p d ≡ outcome (open_channel name) p d
  unfolding trap_two outcome
  is_the_opening = named_two 2 p d name refl ∙ rw e

  pub where_a_job_is_made : (length d ≡ 8 → sound p ≡ true → (outcome create p d).key ≡ done → P (with_key (outcome create p d))) → (called 1 p d name).key ≡ done → P (called 1 p d name)
  where_a_job_is_made f = where_the_call_is_done 1 p d name P (λ l s _ k. let z = is_the_making in rw z (f l s (rw z at k)))

  pub where_a_channel_is_opened : (length d ≡ 8 → sound p ≡ true → (outcome (open_channel name) p d).key ≡ done → P (with_key (outcome (open_channel name) p d)))
      → (called 2 p d name).key ≡ done → P (called 2 p d name)
  where_a_channel_is_opened f = where_the_call_is_done 2 p d name P (λ l s _ k. let z = is_the_opening in rw z (f l s (rw z at k)))
