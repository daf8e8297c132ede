-- Trap 2 $2: a sound picture stays sound, no tag comes back, and every other block keeps every longword.
use Prim.Native.Nat.{ℕ}
use mathlib.Core.Path.{◌≡◌}
use mathlib.Core.Bool.{true, false}
use mathlib.Core.List.{List}
use lib.IntN.{ℤ}
use Rattle.picture.specs.Keys.{channel_not_open}
use Rattle.picture.specs.Numbers.{position, live}
use Rattle.picture.specs.declared.Table.{Table}
use Rattle.picture.specs.declared.Table.TheVariants.{Channels}
use Rattle.sound.specs.Sound.{sound}
use Rattle.sound_facts.proofs.Ages.{Ages, ages_still}
use Rattle.calls.specs.Outcome.{Outcome, refuse, succeed}
use Rattle.calls.specs.Call.{outcome}
use Rattle.calls.specs.Registers.{A0}
use Rattle.calls.proofs.Call.{of_each_way}
use Rattle.calls.proofs.Found.{channel_stands, channel_that_passes_is_live, dead_channel_fails}
use Rattle.channels.specs.Effects.{closed}
use Rattle.channels.specs.Calls.{close_channel}
use Rattle.law_channels.proofs.Closed.{closed_sound, closed_ages}

pub close_channel_ways : (P : Outcome → Type 0) (p d : List ℕ) → ((k : ℤ) → P (refuse k p d)) → (live p Channels (A0 d) ≡ true → P (succeed (closed p (position (A0 d))) d)) → P (outcome close_channel p d)
unfolding close_channel
close_channel_ways P p d refused f = of_each_way close_channel p d P refused (λ h. let l = channel_that_passes_is_live p (A0 d) (search) in rw (channel_stands p (A0 d) l) (f l))

-- a dead channel's number answers -6
pub close_channel_dead : (p d : List ℕ) → live p Channels (A0 d) ≡ false → outcome close_channel p d ≡ refuse channel_not_open p d
unfolding close_channel outcome
close_channel_dead p d h = rw (dead_channel_fails p (A0 d) h)

pub close_channel_keeps_sound : (p d : List ℕ) → sound p ≡ true → sound (outcome close_channel p d).picture ≡ true
close_channel_keeps_sound p d s = close_channel_ways (λ (o : Outcome). sound o.picture ≡ true) p d (λ k. s) (λ a. closed_sound p (A0 d) s a)

pub close_channel_ages : (p d : List ℕ) → sound p ≡ true → (t : Table) → Ages p (outcome close_channel p d).picture t
close_channel_ages p d s t = close_channel_ways (λ (o : Outcome). Ages p o.picture t) p d (λ k. ages_still p t) (λ a. closed_ages p (A0 d) s a t)
