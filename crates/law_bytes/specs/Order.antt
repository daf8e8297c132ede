-- Demand 2 for queues: what a channel's queue gives is what was sent to it, in order, and nothing else moves a byte of it.
use Rattle.std.specs.Prelude.{ℕ, ◌%◌, ◌≡◌, Bool, true, false, ◌&&◌, cond, List, [], ◌∷◌, ◌++◌, eqb}
use Rattle.words.specs.Words.{word}
use Rattle.words.specs.Signed.{eq_z}
use Rattle.picture.specs.Keys.{done}
use Rattle.picture.specs.Numbers.{live}
use Rattle.picture.specs.declared.Table.TheVariants.{Channels}
use Rattle.sound.specs.Sound.{sound}
use Rattle.calls.specs.Outcome.{Outcome}
use Rattle.calls.specs.Registers.{D1, A0}
use Rattle.manager.specs.Door.{called}
use Rattle.law_queues.specs.Lists.{bytes_at}
use Rattle.law_promises.specs.History.{Event, trap, pick, tick, after, run}

-- the event is the call with this code of trap 3 on the channel n, and it is done
abbrev pub done_on : ℕ → ℕ → Event → List ℕ → Bool
done_on code n (trap t d name) p = eqb t 3 && (eqb (word d 0) code && (eqb (A0 d) n && eq_z (called t p d name).key done))
done_on code n pick p = false
done_on code n tick p = false

-- a fetch, $1, and a send, $5, on the channel n that are done
abbrev pub is_fetch : ℕ → Event → List ℕ → Bool
is_fetch = done_on 0x1

abbrev pub is_send : ℕ → Event → List ℕ → Bool
is_send = done_on 0x5

-- the byte that an event fetches from the channel n: D1 after a fetch
abbrev pub fetched_by : ℕ → Event → List ℕ → List ℕ
fetched_by n (trap t d name) p = cond (is_fetch n (trap t d name) p) (D1 (called t p d name).registers ∷ []) []
fetched_by n pick p = []
fetched_by n tick p = []

-- the byte that an event sends to the channel n: the low byte of D1 before a send
abbrev pub sent_by : ℕ → Event → List ℕ → List ℕ
sent_by n (trap t d name) p = cond (is_send n (trap t d name) p) ((D1 d % 256) ∷ []) []
sent_by n pick p = []
sent_by n tick p = []

-- the bytes fetched from the channel n over a history from p, in order
abbrev pub fetched_from : ℕ → List Event → List ℕ → List ℕ
fetched_from n [] p = []
fetched_from n (e ∷ events) p = fetched_by n e p ++ fetched_from n events (after e p)

-- the bytes sent to the channel n over a history from p, in order
abbrev pub sent_to : ℕ → List Event → List ℕ → List ℕ
sent_to n [] p = []
sent_to n (e ∷ events) p = sent_by n e p ++ sent_to n events (after e p)

-- THE ORDER OF BYTES: over any history through which a channel lives, the bytes fetched and then those that wait at the end
-- are those that waited at the start and then those sent
abbrev pub OrderOfBytes : Type 0
OrderOfBytes = (p : List ℕ) → sound p ≡ true → (n : ℕ) (events : List Event) → live p Channels n ≡ true → live (run events p) Channels n ≡ true
    → fetched_from n events p ++ bytes_at (run events p) n ≡ bytes_at p n ++ sent_to n events p

-- the channel that an opening of p answers in A0 is new, it is live, and no byte waits
pub record NewChannel (p : List ℕ) (o : Outcome) : Type 0 where
  pub new : live p Channels (A0 o.registers) ≡ false
  pub lives : live o.picture Channels (A0 o.registers) ≡ true
  pub empty : bytes_at o.picture (A0 o.registers) ≡ []

abbrev pub OpeningMakesAnEmptyQueue : Type 0
OpeningMakesAnEmptyQueue = (p d name : List ℕ) → word d 0 ≡ 0x1 → (called 2 p d name).key ≡ done → NewChannel p (called 2 p d name)

-- the bytes fetched from the channel that o answers in A0, and then those that wait, are those sent to it, in order:
-- over any history after o through which the channel lives
abbrev pub InOrderSince : Outcome → Type 0
InOrderSince o = (events : List Event) → live (run events o.picture) Channels (A0 o.registers) ≡ true
    → fetched_from (A0 o.registers) events o.picture ++ bytes_at (run events o.picture) (A0 o.registers) ≡ sent_to (A0 o.registers) events o.picture

abbrev pub OrderSinceTheOpening : Type 0
OrderSinceTheOpening = (p d name : List ℕ) → word d 0 ≡ 0x1 → (called 2 p d name).key ≡ done → InOrderSince (called 2 p d name)

-- NOTHING ELSE MOVES A BYTE: an event that is no fetch and no send on a channel, or one refused, leaves its bytes unless the channel ends
abbrev pub NothingElseMovesAByte : Type 0
NothingElseMovesAByte = (p : List ℕ) → sound p ≡ true → (n : ℕ) (e : Event) → live p Channels n ≡ true → live (after e p) Channels n ≡ true
    → is_fetch n e p ≡ false → is_send n e p ≡ false → bytes_at (after e p) n ≡ bytes_at p n
