-- What looking up a channel's number tells, and the queue of a channel that is live.
use Prim.Native.Nat.{ℕ, ◌+◌, ◌/◌, ◌≤◌, ◌<◌}
use mathlib.Core.Path.{◌≡◌, subst}
use mathlib.Core.Bool.{true}
use mathlib.Core.List.{List}
use lib.ListN.{length}
use native.Mathlib.Omega.{arith}
use borrow.Author.Tests.{le-leb}
use Rattle.words.specs.Each.{In}
use Rattle.picture.specs.Layout.{heap_base, positions, upto}
use Rattle.picture.specs.Records.{used}
use Rattle.picture.specs.Numbers.{position, live, channel_at}
use Rattle.picture.specs.declared.Table.TheVariants.{Channels}
use Rattle.picture.specs.declared.Area.TheVariants.{Heap}
use Rattle.std.proofs.Common.{Some}
use Rattle.picture.proofs.Numbers.{live_is}
use Rattle.picture.proofs.Records.{used_below}
use Rattle.blocks.specs.Header.{size, queue_length}
use Rattle.blocks.specs.Walk.{blocks}
use Rattle.blocks.proofs.Starts.{starts_in}
use Rattle.sound_matching.specs.Match.{has_block}
use Rattle.sound_matching.proofs.Counts.{Matches}
use Rattle.sound.specs.Sound.{sound}
use Rattle.sound_facts.proofs.Sound.{Queue, Sound}
use Rattle.sound_facts.proofs.View.{view}
use Rattle.sound_facts.proofs.Same.{within}
use Rattle.calls.proofs.Found.{channel_found}
use Rattle.queues.specs.Ring.{Ring}
use Rattle.channels.specs.Effects.{queue_of}

-- the channel that a number names
pub record Named (p : List ℕ) (n k : ℕ) : Type 0 where
  pub finds : channel_at p n ≡ Some k
  pub lives : live p Channels n ≡ true
  pub place : position n ≡ k
  pub below : k < positions Channels

pub live_below : (p : List ℕ) (n : ℕ) → live p Channels n ≡ true → position n < positions Channels
live_below p n h = used_below p Channels (position n) (live_is p Channels n h).used

pub channel_named : (p : List ℕ) (n k : ℕ) → channel_at p n ≡ Some k → Named p n k
channel_named p n k h = let f = channel_found p n k h in record { finds = h; lives = f.lives; place = f.place; below = f.within }

-- the queue at i is that of the channel at position k
pub record Held (p : List ℕ) (k i : ℕ) : Type 0 where
  pub there : In i (blocks p Heap)
  pub own : Matches p Channels k i
  pub queue : Queue p i
  pub ring : Ring p i
  pub low : heap_base ≤ i
  pub high : i < upto p Heap
  pub inside : i + size p i / 4 ≤ upto p Heap
  pub short : upto p Heap ≤ length p
  pub room : 8 + (queue_length p i + 3) / 4 ≤ size p i / 4

-- every channel in use has a queue
pub used_queue : (p : List ℕ) → Sound p → (k : ℕ) → used p Channels k ≡ true → Held p k (queue_of p k)
unfolding has_block
used_queue p S k u = subst (Held p k) z (record {
  there = h.1.0;
  own = h.1.1;
  queue = q;
  ring = record { most = q.most; oldest = q.oldest; held = q.held };
  low = b.0;
  high = b.1;
  inside = within p h.0 (upto p Heap) ((S.tiled Heap).whole h.0 h.1.0) b.1;
  short = let m = S.sizes.heap_most in omega arith;
  room = let l = q.long in rw l (omega arith);
})
  where
    c : has_block p Channels k ≡ true
    c = rw (le-leb 0 k (omega arith)) u

    h : (i : ℕ) × (In i (blocks p Heap) × Matches p Channels k i)
    h = (S.matched Channels).home k (used_below p Channels k u) c

    q : Queue p h.0
    q = (S.tiled Heap).queue h.0 h.1.0 h.1.1.sorts

    b : (heap_base ≤ h.0) × (h.0 < upto p Heap)
    b = starts_in p heap_base (upto p Heap) h.0 h.1.0

    z : h.0 ≡ queue_of p k
    z = let e = h.1.1.place in omega arith

-- so has every live channel
pub live_queue : (p : List ℕ) (n : ℕ) → sound p ≡ true → live p Channels n ≡ true → Held p (position n) (queue_of p (position n))
live_queue p n s l = used_queue p (view p s) (position n) (live_is p Channels n l).used

-- and the channel that a number names
pub named_queue : (p : List ℕ) (n k : ℕ) → sound p ≡ true → Named p n k → Held p k (queue_of p k)
named_queue p n k s f = subst (λ (j : ℕ). Held p j (queue_of p j)) f.place (live_queue p n s f.lives)
