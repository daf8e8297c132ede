-- Closing a channel leaves every other channel's queue as it was.
use Prim.Native.Nat.{ℕ}
use mathlib.Core.Path.{◌≡◌, refl, sym, ap, ◌∙◌}
use mathlib.Core.Bool.{true}
use mathlib.Core.Logic.{⊎_elim, by_cases}
use mathlib.Core.List.{List}
use native.Mathlib.Omega.{arith}
use native.Mathlib.Decide.{ℕ_discrete}
use Rattle.words.proofs.Tests.{false_true}
use Rattle.picture.specs.Records.{number, base_field}
use Rattle.picture.specs.Numbers.{position, live}
use Rattle.picture.specs.declared.Table.TheVariants.{Channels}
use Rattle.picture.specs.declared.Area.TheVariants.{Heap}
use Rattle.picture.proofs.Numbers.{live_is}
use Rattle.sound.specs.Sound.{sound}
use Rattle.sound_facts.proofs.View.{view}
use Rattle.calls.specs.Outcome.{Outcome}
use Rattle.calls.specs.Call.{outcome}
use Rattle.calls.specs.Registers.{A0}
use Rattle.law_blocks.proofs.Placing.{None, Only}
use Rattle.law_blocks.proofs.Intact.{Intact, change_keeps_every_other_block}
use Rattle.channels.specs.Effects.{queue_of, closed}
use Rattle.channels.specs.Calls.{close_channel}
use Rattle.channels.proofs.Found.{live_below}
use Rattle.law_queues.specs.Lists.{bytes_at}
use Rattle.law_queues.proofs.Stays.{a_queue_that_stays_keeps_its_bytes, a_queue_is_a_block_in_use}
use Rattle.law_queues.proofs.Lists.{queues_differ}
use Rattle.law_channels.proofs.Closed.{lies, closed_change, field_old, used_gone}
use Rattle.law_channels.proofs.Close.{close_channel_ways}

-- two live numbers of one position are one
pub one_position : (p : List ℕ) (m n : ℕ) → live p Channels m ≡ true → live p Channels n ≡ true → position m ≡ position n → m ≡ n
one_position p m n a b e = sym (live_is p Channels m a).names ∙ ap (number p Channels) e ∙ (live_is p Channels n b).names

-- a closed channel's number is dead
pub a_closed_channel_is_dead : (p : List ℕ) (n : ℕ) → sound p ≡ true → live p Channels n ≡ true → live (closed p (position n)) Channels n ≡ true → ⊥
a_closed_channel_is_dead p n s a l = false_true (sym (used_gone p n s a) ∙ (live_is (closed p (position n)) Channels n l).used)

pub close_channel_leaves_other_queues : (p d : List ℕ) → sound p ≡ true → (m : ℕ) → live p Channels m ≡ true → (m ≡ A0 d → ⊥) → bytes_at (outcome close_channel p d).picture m ≡ bytes_at p m
close_channel_leaves_other_queues p d s m a n = close_channel_ways (λ (o : Outcome). bytes_at o.picture m ≡ bytes_at p m) p d (λ k. refl) (λ b. other b)
  where
    -- a block in use but that of the channel that is closed keeps every longword
    same : (b : live p Channels (A0 d) ≡ true) → Intact p (closed p (position (A0 d))) Heap (queue_of p (position m))
    same b =
        let u = a_queue_is_a_block_in_use p s m a in
        ⊎_elim
        (λ (g : (Heap ≡ Heap) × (queue_of p (position m) ≡ queue_of p (position (A0 d)))). absurd (n (queues_differ p s m (A0 d) a b g.1)))
        (λ i. i)
        (change_keeps_every_other_block p (closed p (position (A0 d))) Heap None (Only (queue_of p (position (A0 d)))) (closed_change p (A0 d) s b) (lies p (A0 d) s b) (view p s).tiled Heap (queue_of p (position m)) u.0 u.1)

    other : live p Channels (A0 d) ≡ true → bytes_at (closed p (position (A0 d))) m ≡ bytes_at p m
    other b = a_queue_that_stays_keeps_its_bytes p (closed p (position (A0 d))) s m a (record {
      same_base = field_old p (A0 d) s b (position m) base_field (live_below p m a) (omega arith) (λ e. n (one_position p m (A0 d) a b e));
      same_longwords = (same b).same;
    })

-- a channel that is live after it was not the one closed
pub close_channel_keeps_the_bytes : (p d : List ℕ) → sound p ≡ true → (m : ℕ) → live p Channels m ≡ true → live (outcome close_channel p d).picture Channels m ≡ true → bytes_at (outcome close_channel p d).picture m ≡ bytes_at p m
close_channel_keeps_the_bytes p d s m a = by_cases (ℕ_discrete m (A0 d))
    (λ (e : m ≡ A0 d). close_channel_ways (λ (o : Outcome). live o.picture Channels m ≡ true → bytes_at o.picture m ≡ bytes_at p m) p d (λ k l. refl)
    (λ b l. absurd (a_closed_channel_is_dead p (A0 d) s b (rw e at l))))
    (λ n l. close_channel_leaves_other_queues p d s m a n)
