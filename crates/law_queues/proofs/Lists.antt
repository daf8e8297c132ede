-- Send appends, fetch takes the head, pending tells whether there is one, and no call on one channel touches another's queue;
-- so bytes leave in the order in which they came.
use Prim.Native.Nat.{ℕ, ◌+◌, ◌/◌, ◌%◌, ◌<◌}
use mathlib.Core.Path.{◌≡◌, refl, sym, ap, ◌∙◌, subst}
use mathlib.Core.Bool.{Bool, true, false}
use mathlib.Core.List.{List, [], ◌∷◌, ◌++◌}
use lib.ListN.{length}
use lib.Seq.{get_or-set_same}
use Rattle.picture.specs.Keys.{done, not_complete}
use Rattle.picture.specs.Records.{number}
use Rattle.picture.specs.Numbers.{position, live}
use Rattle.picture.specs.declared.Table.TheVariants.{Channels}
use Rattle.picture.proofs.Numbers.{live_is}
use Rattle.sound_matching.proofs.Counts.{Matches}
use Rattle.sound.specs.Sound.{sound}
use Rattle.sound_facts.proofs.View.{view}
use Rattle.calls.specs.Outcome.{Outcome, refuse, succeed}
use Rattle.calls.specs.Call.{outcome}
use Rattle.calls.proofs.Found.{channel_stands, live_channel_passes}
use Rattle.calls.specs.Registers.{D1, A0}
use Rattle.law_blocks.proofs.Tables.{TablesSame, base_same}
use Rattle.queues.specs.Ring.{waits, oldest_byte, fetched, sent, contents}
use Rattle.queues.proofs.Ring.{waits_tells, fetching_takes_the_head, sending_appends}
use Rattle.channels.specs.Effects.{queue_of, immediate}
use Rattle.channels.specs.Calls.{pending, fetch, send}
use Rattle.channels.proofs.Found.{live_queue, live_below}
use Rattle.law_queues.specs.Lists.{bytes_at}
use Rattle.law_queues.proofs.Written.{Written, tables, block_same}
use Rattle.law_queues.proofs.Ways.{queue_there, pending_ways, fetch_ways, fetch_where_done, send_ways, send_where_done}
use Rattle.law_queues.proofs.Stays.{a_queue_that_stays_keeps_its_bytes}
use Rattle.law_queues.proofs.Kept.{lies, header_lies, fetched_written, sent_written, low_byte}

-- a channel's queue stays where it is
queue_stays : (p q : List ℕ) (n : ℕ) → TablesSame p q → live p Channels n ≡ true → queue_of q (position n) ≡ queue_of p (position n)
queue_stays p q n s l = ap (λ (x : ℕ). x / 4) (base_same p q s Channels (position n) (live_below p n l))

-- two live channels never share a queue
pub queues_differ : (p : List ℕ) → sound p ≡ true → (m n : ℕ) → live p Channels m ≡ true → live p Channels n ≡ true → queue_of p (position m) ≡ queue_of p (position n) → m ≡ n
queues_differ p s m n a b e =
    let S = view p s in
    let H = live_queue p n s b in
    let G = live_queue p m s a in
    let k = (S.matched Channels).apart (position m) (position n) (queue_of p (position n)) (live_below p m a) (live_below p n b) H.there (subst (Matches p Channels (position m)) e G.own) H.own in
    sym (live_is p Channels m a).names ∙ ap (number p Channels) k ∙ (live_is p Channels n b).names

-- writing in one queue's room leaves every other queue
other_queue : (p q : List ℕ) → sound p ≡ true → (m n : ℕ) → live p Channels m ≡ true → live p Channels n ≡ true → (m ≡ n → ⊥) → Written p q (queue_of p (position n)) → bytes_at q m ≡ bytes_at p m
other_queue p q s m n a b x W =
    let S = view p s in
    let H = live_queue p n s b in
    let G = live_queue p m s a in
    a_queue_that_stays_keeps_its_bytes p q s m a (record {
      same_base = base_same p q (tables p q (position n) (queue_of p (position n)) S H W) Channels (position m) (live_below p m a);
      same_longwords = block_same p q (position n) (queue_of p (position n)) S H W (queue_of p (position m)) G.there (λ e. x (queues_differ p s m n a b e));
    })

-- send appends
pub send_appends : (p d : List ℕ) → sound p ≡ true → (outcome send p d).key ≡ done → bytes_at (outcome send p d).picture (A0 d) ≡ bytes_at p (A0 d) ++ ((D1 d % 256) ∷ [])
send_appends p d s = send_where_done (λ (o : Outcome). bytes_at o.picture (A0 d) ≡ bytes_at p (A0 d) ++ ((D1 d % 256) ∷ [])) p d
    (λ a b c.
    let H = live_queue p (A0 d) s a in
    let W = sent_written p (position (A0 d)) (queue_there p d) H (D1 d % 256) (low_byte (D1 d)) c in
    let t = tables p (sent p (queue_there p d) (D1 d % 256)) (position (A0 d)) (queue_there p d) (view p s) H W in
    ap (contents (sent p (queue_there p d) (D1 d % 256))) (queue_stays p (sent p (queue_there p d) (D1 d % 256)) (A0 d) t a)
    ∙ sending_appends p (queue_there p d) (D1 d % 256) H.ring (lies p (position (A0 d)) (queue_there p d) H) (low_byte (D1 d)) c)

-- fetch takes the head into D1
pub fetch_takes_the_head : (p d : List ℕ) → sound p ≡ true → 1 < length d → (outcome fetch p d).key ≡ done → bytes_at p (A0 d) ≡ D1 (outcome fetch p d).registers ∷ bytes_at (outcome fetch p d).picture (A0 d)
fetch_takes_the_head p d s l = fetch_where_done (λ (o : Outcome). bytes_at p (A0 d) ≡ D1 o.registers ∷ bytes_at o.picture (A0 d)) p d
    (λ a b c.
    let H = live_queue p (A0 d) s a in
    let W = fetched_written p (position (A0 d)) (queue_there p d) H c in
    let t = tables p (fetched p (queue_there p d)) (position (A0 d)) (queue_there p d) (view p s) H W in
    rw (get_or-set_same d 1 (oldest_byte p (queue_there p d)) 0 l, queue_stays p (fetched p (queue_there p d)) (A0 d) t a)
    (fetching_takes_the_head p (queue_there p d) H.ring (header_lies p (position (A0 d)) (queue_there p d) H) c))

-- pending tells whether there is a byte
pub pending_tells : (p d : List ℕ) → live p Channels (A0 d) ≡ true → immediate d ≡ true
    → (bytes_at p (A0 d) ≡ [] → outcome pending p d ≡ refuse not_complete p d) × ((bytes_at p (A0 d) ≡ [] → ⊥) → outcome pending p d ≡ succeed p d)
unfolding pending outcome
pending_tells p d a b = go (waits p (queue_there p d)) refl
  where
    go : (c : Bool) → waits p (queue_there p d) ≡ c → (bytes_at p (A0 d) ≡ [] → outcome pending p d ≡ refuse not_complete p d) × ((bytes_at p (A0 d) ≡ [] → ⊥) → outcome pending p d ≡ succeed p d)
    go true c = (λ e. absurd ((waits_tells p (queue_there p d)).1 c e), λ n. rw (live_channel_passes p (A0 d) a, channel_stands p (A0 d) a, b, c))
    go false c = (λ e. rw (live_channel_passes p (A0 d) a, channel_stands p (A0 d) a, b, c), λ n. absurd (n ((waits_tells p (queue_there p d)).0 c)))

-- no call on one channel touches another's queue
pub pending_leaves_every_queue : (p d : List ℕ) (m : ℕ) → bytes_at (outcome pending p d).picture m ≡ bytes_at p m
pending_leaves_every_queue p d m = pending_ways (λ (o : Outcome). bytes_at o.picture m ≡ bytes_at p m) p d (λ k. refl) refl

pub fetch_leaves_other_queues : (p d : List ℕ) → sound p ≡ true → (m : ℕ) → live p Channels m ≡ true → (m ≡ A0 d → ⊥) → bytes_at (outcome fetch p d).picture m ≡ bytes_at p m
fetch_leaves_other_queues p d s m l n = fetch_ways (λ (o : Outcome). bytes_at o.picture m ≡ bytes_at p m) p d (λ k. refl)
    (λ a b c. let H = live_queue p (A0 d) s a in other_queue p (fetched p (queue_there p d)) s m (A0 d) l a n (fetched_written p (position (A0 d)) (queue_there p d) H c))

pub send_leaves_other_queues : (p d : List ℕ) → sound p ≡ true → (m : ℕ) → live p Channels m ≡ true → (m ≡ A0 d → ⊥) → bytes_at (outcome send p d).picture m ≡ bytes_at p m
send_leaves_other_queues p d s m l n = send_ways (λ (o : Outcome). bytes_at o.picture m ≡ bytes_at p m) p d (λ k. refl)
    (λ a b c. let H = live_queue p (A0 d) s a in other_queue p (sent p (queue_there p d) (D1 d % 256)) s m (A0 d) l a n (sent_written p (position (A0 d)) (queue_there p d) H (D1 d % 256) (low_byte (D1 d)) c))
