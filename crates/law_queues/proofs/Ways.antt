-- What holds of every refusal, and of what a call does where its checks pass, holds of the call; of the call that answers 0 what it does is enough.
use Prim.Native.Nat.{ℕ, ◌%◌}
use mathlib.Core.Path.{◌≡◌}
use mathlib.Core.Bool.{Bool, true, false, not}
use mathlib.Core.List.{List}
use lib.IntN.{ℤ}
use borrow.Author.Tests.{not-true}
use Rattle.picture.specs.Keys.{done, not_complete, channel_not_open}
use Rattle.picture.specs.Numbers.{position, live}
use Rattle.picture.specs.declared.Table.TheVariants.{Channels}
use Rattle.calls.specs.Outcome.{Outcome, refuse, succeed}
use Rattle.calls.specs.Call.{outcome}
use Rattle.calls.specs.Registers.{D1, A0, with_D1}
use Rattle.calls.proofs.Call.{Passed, Never, success, of_each_way, refusals}
use Rattle.calls.proofs.Found.{channel_stands, channel_that_passes_is_live, channel_check_gives_no_other, dead_channel_fails}
use Rattle.law_blocks.proofs.Cases.{where_done}
use Rattle.queues.specs.Ring.{waits, full, oldest_byte, fetched, sent}
use Rattle.channels.specs.Effects.{queue_of, immediate}
use Rattle.channels.specs.Calls.{queue_named, at_channel, pending, fetch, send}

-- the checks of trap 3 never give 0
refusing : (p d : List ℕ) (b : Bool) → Never done (at_channel p d (b, not_complete))
refusing p d b = search (refusals, channel_check_gives_no_other) depth 12

-- the queue of the live channel that A0 names
abbrev pub queue_there : List ℕ → List ℕ → ℕ
queue_there p d = queue_of p (position (A0 d))

module _ (P : Outcome → Type 0) (p d : List ℕ) where
  -- what each does where its checks pass
  abbrev Fetched : Type 0
  Fetched = live p Channels (A0 d) ≡ true → immediate d ≡ true → waits p (queue_there p d) ≡ true → P (succeed (fetched p (queue_there p d)) (with_D1 (oldest_byte p (queue_there p d)) d))

  abbrev Sent : Type 0
  Sent = live p Channels (A0 d) ≡ true → immediate d ≡ true → full p (queue_there p d) ≡ false → P (succeed (sent p (queue_there p d) (D1 d % 256)) d)

  fetch_passed : Fetched → Passed (fetch p d).checks → P (success (fetch p d))
  unfolding fetch
  fetch_passed f h =
      let l = channel_that_passes_is_live p (A0 d) (search) in
      let w : waits p (queue_named p d) ≡ true = search in
      rw (channel_stands p (A0 d) l) (f l (search) (rw (channel_stands p (A0 d) l) at w))

  send_passed : Sent → Passed (send p d).checks → P (success (send p d))
  unfolding send
  send_passed f h =
      let l = channel_that_passes_is_live p (A0 d) (search) in
      let w : full p (queue_named p d) ≡ false = not-true (full p (queue_named p d)) (search) in
      rw (channel_stands p (A0 d) l) (f l (search) (rw (channel_stands p (A0 d) l) at w))

  pub pending_ways : ((k : ℤ) → P (refuse k p d)) → P (succeed p d) → P (outcome pending p d)
  unfolding pending
  pending_ways refused f = of_each_way pending p d P refused (λ h. f)

  pub fetch_ways : ((k : ℤ) → P (refuse k p d)) → Fetched → P (outcome fetch p d)
  fetch_ways refused f = of_each_way fetch p d P refused (fetch_passed f)

  pub fetch_where_done : Fetched → (outcome fetch p d).key ≡ done → P (outcome fetch p d)
  unfolding fetch
  fetch_where_done f = where_done P fetch p d (refusing p d (waits p (queue_named p d))) (fetch_passed f)

  pub send_ways : ((k : ℤ) → P (refuse k p d)) → Sent → P (outcome send p d)
  send_ways refused f = of_each_way send p d P refused (send_passed f)

  pub send_where_done : Sent → (outcome send p d).key ≡ done → P (outcome send p d)
  unfolding send
  send_where_done f = where_done P send p d (refusing p d (not (full p (queue_named p d)))) (send_passed f)

-- a dead channel's number answers -6
module _ (p d : List ℕ) (dead : live p Channels (A0 d) ≡ false) where
  pub pending_dead : outcome pending p d ≡ refuse channel_not_open p d
  unfolding pending outcome
  pending_dead = rw (dead_channel_fails p (A0 d) dead)

  pub fetch_dead : outcome fetch p d ≡ refuse channel_not_open p d
  unfolding fetch outcome
  fetch_dead = rw (dead_channel_fails p (A0 d) dead)

  pub send_dead : outcome send p d ≡ refuse channel_not_open p d
  unfolding send outcome
  send_dead = rw (dead_channel_fails p (A0 d) dead)
