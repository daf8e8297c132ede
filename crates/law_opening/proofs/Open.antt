-- Trap 2 $1: a sound picture stays sound, and the channel's tag is new.
use Prim.Native.Nat.{ℕ}
use mathlib.Core.Path.{◌≡◌}
use mathlib.Core.Bool.{true}
use mathlib.Core.List.{List}
use Rattle.picture.specs.declared.Table.{Table}
use Rattle.sound.specs.Sound.{sound}
use Rattle.sound_facts.proofs.Ages.{Ages, ages_still}
use Rattle.calls.specs.Outcome.{Outcome}
use Rattle.calls.specs.Call.{outcome}
use Rattle.calls.specs.Registers.{D1, meant}
use Rattle.names.specs.Names.{number_in, named}
use Rattle.names.proofs.Digits.{number_some, number_small}
use Rattle.opening.specs.Calls.{open_channel}
use Rattle.law_opening.proofs.Ways.{open_channel_ways}
use Rattle.law_opening.proofs.Kept.{opened_sound, opened_ages}

pub open_channel_keeps_sound : (p d s : List ℕ) → sound p ≡ true → sound (outcome (open_channel s) p d).picture ≡ true
open_channel_keeps_sound p d s h = open_channel_ways (λ (o : Outcome). sound o.picture ≡ true) p d s (λ k. h)
    (λ c. opened_sound p (meant p (D1 d)) (number_in (named s)) h c.place c.tagged c.room c.lives (number_some s c.fair) (number_small s))

pub open_channel_ages : (p d s : List ℕ) → sound p ≡ true → (t : Table) → Ages p (outcome (open_channel s) p d).picture t
open_channel_ages p d s h t = open_channel_ways (λ (o : Outcome). Ages p o.picture t) p d s (λ k. ages_still p t)
    (λ c. opened_ages p (meant p (D1 d)) (number_in (named s)) h c.place c.tagged c.room c.lives (number_some s c.fair) (number_small s) t)
