-- Opening a channel leaves every queue as it was; the new channel, whose number is in A0, is live, and its queue is empty.
use Prim.Native.Nat.{ℕ, ◌+◌, ◌<◌}
use mathlib.Core.Path.{◌≡◌, refl, sym, ap, ◌∙◌}
use mathlib.Core.Bool.{true}
use mathlib.Core.Logic.{⊎_elim}
use mathlib.Core.List.{List, []}
use native.Mathlib.Omega.{arith}
use lib.ListN.{length, length-set}
use lib.Seq.{get_or-set_same, get_or-set_other}
use Rattle.words.specs.Words.{put}
use Rattle.words.proofs.Tests.{false_true}
use Rattle.picture.specs.Layout.{positions}
use Rattle.picture.specs.Records.{number, used, slot, number_field, base_field}
use Rattle.picture.specs.Numbers.{position, live, free_position}
use Rattle.picture.specs.declared.Table.TheVariants.{Channels}
use Rattle.picture.specs.declared.Area.TheVariants.{Heap}
use Rattle.picture.proofs.Numbers.{live_is, is_live}
use Rattle.blocks.specs.Header.{queue_count_field, queue_count}
use Rattle.sound_matching.proofs.Counts.{Matches}
use Rattle.sound.specs.Sound.{sound}
use Rattle.sound_facts.proofs.View.{has_block_used}
use Rattle.calls.specs.Outcome.{Outcome}
use Rattle.calls.specs.Call.{outcome}
use Rattle.calls.specs.Registers.{D1, A0, meant}
use Rattle.law_blocks.proofs.Placing.{None, Only}
use Rattle.law_blocks.proofs.Intact.{Intact, change_keeps_every_other_block}
use Rattle.entering.specs.Entry.{next_tag, next_number}
use Rattle.law_entering.proofs.Kept.{number_position, new_was_dead}
use Rattle.names.specs.Names.{number_in, named}
use Rattle.names.proofs.Digits.{number_some, number_small}
use Rattle.queues.specs.Ring.{contents}
use Rattle.channels.specs.Effects.{queue_of}
use Rattle.channels.proofs.Found.{live_below}
use Rattle.law_queues.specs.Lists.{bytes_at}
use Rattle.law_queues.proofs.Stays.{QueueStays, a_queue_that_stays_keeps_its_bytes, a_queue_is_a_block_in_use}
use Rattle.opening.specs.Effects.{opened, channel_registers}
use Rattle.opening.specs.Calls.{open_channel}
use Rattle.law_opening.proofs.Ways.{Checked, open_channel_ways}
use Rattle.law_opening.proofs.Opened as the
use Rattle.law_opening.proofs.Kept.{old, pair}

-- A0 after the call
pub new_number_in_A0 : (o c v : ℕ) (d : List ℕ) → length d ≡ 8 → A0 (put (channel_registers o c d) 0 v) ≡ c
unfolding channel_registers
new_number_in_A0 o c v d l = get_or-set_other (put (put d 1 o) 4 c) 0 4 v 0 (λ e. omega arith) ∙ get_or-set_same (put d 1 o) 4 c 0 (simp length-set (omega arith))

empty : (q : List ℕ) (i : ℕ) → queue_count q i ≡ 0 → contents q i ≡ []
unfolding contents
empty q i e = rw e

module _ (p d s : List ℕ) (h : sound p ≡ true) (c : Checked p d s) where
  abbrev o : ℕ
  o = meant p (D1 d)

  abbrev n : ℕ
  n = number_in (named s)

  abbrev q : List ℕ
  q = opened p (meant p (D1 d)) (number_in (named s))

  abbrev k : ℕ
  k = free_position p Channels

  at : ℕ
  at = the.at p o n h c.place c.tagged c.room

  there : k < positions Channels
  there = the.there p o n h c.place c.tagged c.room

  -- every live channel's queue stays
  queue_kept : (m : ℕ) → live p Channels m ≡ true → QueueStays p q m
  unfolding at
  queue_kept m a =
      record {
        same_base = old p o n h c.place c.tagged c.room c.lives (number_some s c.fair) (number_small s) (position m) base_field (live_below p m a) (omega arith)
            (λ e. false_true (sym (the.vacant p o n h c.place c.tagged c.room) ∙ ap (used p Channels) (sym e) ∙ (live_is p Channels m a).used));
        same_longwords = intact.same;
      }
    where
      intact : Intact p q Heap (queue_of p (position m))
      intact =
          let u = a_queue_is_a_block_in_use p h m a in
          ⊎_elim
          (λ (g : (Heap ≡ Heap) × None (queue_of p (position m))). absurd g.1)
          (λ i. i)
          (change_keeps_every_other_block p q Heap (Only at) None (the.change p o n h c.place c.tagged c.room) (the.lies p o n h c.place c.tagged c.room)
          (the.S p o n h c.place c.tagged c.room).tiled Heap (queue_of p (position m)) u.0 u.1)

  -- the new channel's record and its queue
  new_pair : Matches q Channels k at
  unfolding at
  new_pair = pair p o n h c.place c.tagged c.room c.lives (number_some s c.fair) (number_small s)

  new_position : position (next_number p Channels) ≡ k
  new_position = number_position (next_tag p Channels) k (let t = there in omega arith)

  pub a_new_number_was_dead : live p Channels (next_number p Channels) ≡ true → ⊥
  a_new_number_was_dead = new_was_dead p _ Channels k (next_tag p Channels) o _ (the.entry p o n h c.place c.tagged c.room) there (the.vacant p o n h c.place c.tagged c.room) (omega arith)
      (the.S p o n h c.place c.tagged c.room).channels.entries

  pub a_new_channel_is_live : live q Channels (next_number p Channels) ≡ true
  a_new_channel_is_live = is_live q Channels (next_number p Channels) (record {
    used = ap (used q Channels) new_position ∙ has_block_used q Channels k new_pair.has;
    names = ap (number q Channels) new_position
        ∙ the.q_other p o n h c.place c.tagged c.room (slot Channels k + number_field) (λ z. omega arith)
        ∙ (the.entry p o n h c.place c.tagged c.room).its_number;
  })

  pub a_new_channel_is_empty : bytes_at q (next_number p Channels) ≡ []
  unfolding at
  a_new_channel_is_empty =
      let w = new_pair.place in
      let y : queue_of q k ≡ at = omega arith in
      ap (λ (x : ℕ). contents q (queue_of q x)) new_position ∙ ap (contents q) y
      ∙ empty q at (the.at_room p o n h c.place c.tagged c.room queue_count_field (omega arith) (omega arith))

pub open_channel_leaves_every_queue : (p d s : List ℕ) → sound p ≡ true → (m : ℕ) → live p Channels m ≡ true → bytes_at (outcome (open_channel s) p d).picture m ≡ bytes_at p m
open_channel_leaves_every_queue p d s h m a = open_channel_ways (λ (o : Outcome). bytes_at o.picture m ≡ bytes_at p m) p d s (λ k. refl)
    (λ (c : Checked p d s). a_queue_that_stays_keeps_its_bytes p (opened p (meant p (D1 d)) (number_in (named s))) h m a (queue_kept p d s h c m a))
