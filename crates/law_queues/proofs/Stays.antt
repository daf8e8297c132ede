-- A channel's queue keeps its bytes where the channel's record keeps its base and the block every longword.
use Prim.Native.Nat.{ℕ, ◌+◌, ◌/◌, ◌≤◌, ◌<◌}
use mathlib.Core.Path.{◌≡◌, ap, ◌∙◌}
use mathlib.Core.Bool.{true, false}
use mathlib.Core.List.{List}
use native.Mathlib.Omega.{arith}
use borrow.Author.Tests.{ne_eqb}
use Rattle.words.specs.Words.{word}
use Rattle.words.specs.Each.{In}
use Rattle.picture.specs.Records.{base}
use Rattle.picture.specs.Numbers.{position, live}
use Rattle.picture.specs.declared.Table.TheVariants.{Channels}
use Rattle.picture.specs.declared.Area.TheVariants.{Heap}
use Rattle.blocks.specs.Header.{size, kind, free}
use Rattle.blocks.specs.Walk.{blocks}
use Rattle.sound.specs.Sound.{sound}
use Rattle.queues.specs.Ring.{contents}
use Rattle.queues.proofs.Ring.{contents_same}
use Rattle.channels.specs.Effects.{queue_of}
use Rattle.channels.proofs.Found.{live_queue}
use Rattle.law_queues.specs.Lists.{bytes_at}

-- the record and the block of the channel n are in q what they are in p
pub record QueueStays (p q : List ℕ) (n : ℕ) : Type 0 where
  pub same_base : base q Channels (position n) ≡ base p Channels (position n)
  pub same_longwords : (w : ℕ) → queue_of p (position n) ≤ w → w < queue_of p (position n) + size p (queue_of p (position n)) / 4 → word q w ≡ word p w

pub a_queue_that_stays_keeps_its_bytes : (p q : List ℕ) → sound p ≡ true → (n : ℕ) → live p Channels n ≡ true → QueueStays p q n → bytes_at q n ≡ bytes_at p n
a_queue_that_stays_keeps_its_bytes p q s n l Q =
    let H = live_queue p n s l in
    ap (contents q) (ap (λ (x : ℕ). x / 4) Q.same_base)
    ∙ contents_same p q (queue_of p (position n)) H.ring (λ w a b. let r = H.room in Q.same_longwords w (omega arith) (omega arith))

-- the block of a live channel is a block in use of the heap
pub a_queue_is_a_block_in_use : (p : List ℕ) → sound p ≡ true → (n : ℕ) → live p Channels n ≡ true → In (queue_of p (position n)) (blocks p Heap) × (free p (queue_of p (position n)) ≡ false)
a_queue_is_a_block_in_use p s n l =
    let H = live_queue p n s l in
    (H.there, ne_eqb (kind p (queue_of p (position n))) 0 (λ e. let k = H.own.sorts in omega arith))
