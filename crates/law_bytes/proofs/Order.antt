-- The order of bytes over a history: each event keeps it, so all of them do; and a channel opened begins with no byte.
use Prim.Native.Nat.{ℕ}
use mathlib.Core.Path.{◌≡◌, sym, ap, ◌∙◌}
use mathlib.Core.Bool.{true}
use mathlib.Core.List.{List, [], ◌∷◌, ◌++◌, append_assoc, append-nil}
use lib.ListN.{length}
use Rattle.words.specs.Signed.{bits}
use Rattle.words.proofs.Tests.{otherwise}
use Rattle.picture.specs.Keys.{done}
use Rattle.picture.specs.Numbers.{live}
use Rattle.picture.specs.declared.Table.TheVariants.{Channels}
use Rattle.sound.specs.Sound.{sound}
use Rattle.calls.specs.Outcome.{Outcome}
use Rattle.calls.specs.Call.{outcome}
use Rattle.calls.specs.Registers.{D1, A0, meant}
use Rattle.entering.specs.Entry.{next_number}
use Rattle.opening.specs.Calls.{open_channel}
use Rattle.manager.specs.Door.{with_key, called}
use Rattle.law_opening.proofs.Ways.{Checked, open_channel_where_done}
use Rattle.law_opening.proofs.Queues.{new_number_in_A0, a_new_number_was_dead, a_new_channel_is_live, a_new_channel_is_empty}
use Rattle.law_queues.specs.Lists.{bytes_at}
use Rattle.law_promises.specs.History.{after, run}
use Rattle.law_promises.proofs.Done.{where_the_call_is_done, where_a_channel_is_opened}
use Rattle.law_promises.proofs.Door.{call_keeps_sound}
use Rattle.law_promises.proofs.History.{event_keeps_sound, live_after_the_first}
use Rattle.law_bytes.specs.Order.{fetched_by, sent_by, fetched_from, sent_to, OrderOfBytes, NewChannel, OpeningMakesAnEmptyQueue, OrderSinceTheOpening}
use Rattle.law_bytes.proofs.Events.{event_keeps_the_order}

pub order_of_bytes : OrderOfBytes
order_of_bytes p s n [] a l = sym (append-nil (bytes_at p n))
order_of_bytes p s n (e ∷ events) a l =
    let q = after e p in
    let m = live_after_the_first e events p s Channels n a l in
    let w = bytes_at (run events q) n in
    append_assoc (fetched_by n e p) (fetched_from n events q) w
    ∙ ap (λ (x : List ℕ). fetched_by n e p ++ x) (order_of_bytes q (event_keeps_sound e p s) n events m l)
    ∙ sym (append_assoc (fetched_by n e p) (bytes_at q n) (sent_to n events q))
    ∙ ap (λ (x : List ℕ). x ++ sent_to n events q) (event_keeps_the_order p s n e a m)
    ∙ append_assoc (bytes_at p n) (sent_by n e p) (sent_to n events q)

module _ (p d name : List ℕ) where
  opens : length d ≡ 8 → sound p ≡ true → (outcome (open_channel name) p d).key ≡ done → NewChannel p (with_key (outcome (open_channel name) p d))
  opens l s = open_channel_where_done (λ (o : Outcome). NewChannel p (with_key o)) p d name (λ (c : Checked p d name).
      let z = new_number_in_A0 (meant p (D1 d)) (next_number p Channels) (bits done) d l in
      record { new = rw z (otherwise (live p Channels (next_number p Channels)) (a_new_number_was_dead p d name s c)); lives = rw z (a_new_channel_is_live p d name s c); empty = rw z (a_new_channel_is_empty p d name s c) })

pub opening_makes_an_empty_queue : OpeningMakesAnEmptyQueue
opening_makes_an_empty_queue p d name e = where_a_channel_is_opened p d name (NewChannel p) e (opens p d name)

pub order_since_the_opening : OrderSinceTheOpening
order_since_the_opening p d name e k events l =
    let o = called 2 p d name in
    let N = opening_makes_an_empty_queue p d name e k in
    let s = where_the_call_is_done 2 p d name (λ (x : Outcome). sound p ≡ true) (λ _ s _ _. s) k in
    order_of_bytes o.picture (call_keeps_sound 2 p d name s) (A0 o.registers) events N.lives l
    ∙ ap (λ (x : List ℕ). x ++ sent_to (A0 o.registers) events o.picture) N.empty
