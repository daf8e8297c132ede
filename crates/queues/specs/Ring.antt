-- Document 01 (rule 14): "A queue's room: length n .., index of the oldest byte (below n), count (0 to n)". The queue at i is that of the block at i.
use Rattle.std.specs.Prelude.{ℕ, zero, suc, ◌+◌, ◌-◌, ◌≤◌, ◌<◌, Bool, cond, List, [], ◌∷◌, ◌++◌, leb, ltb}
use Rattle.blocks.specs.Header.{queue_length, queue_oldest, queue_count, with_queue_oldest, with_queue_count}
use Rattle.sound_areas.specs.Rules.{longest_queue}
use Rattle.queues.specs.Bytes.{byte_at, with_byte_at}

-- rule 38: what soundness says of a ring
pub record Ring (p : List ℕ) (i : ℕ) : Type 0 where
  pub most : queue_length p i ≤ longest_queue
  pub oldest : queue_oldest p i < queue_length p i
  pub held : queue_count p i ≤ queue_length p i

-- rule 95: an index, "round at n"
unfoldable pub round : ℕ → ℕ → ℕ
round n x = cond (ltb x n) x (x - n)

-- the index of the byte that j others come before; where j is the count, of the place behind the newest
unfoldable pub index : List ℕ → ℕ → ℕ → ℕ
index p i j = round (queue_length p i) (queue_oldest p i + j)

-- rule 94: a byte waits
unfoldable pub waits : List ℕ → ℕ → Bool
waits p i = leb 1 (queue_count p i)

-- rule 96: the queue is full
unfoldable pub full : List ℕ → ℕ → Bool
full p i = leb (queue_length p i) (queue_count p i)

-- the oldest byte
unfoldable pub oldest_byte : List ℕ → ℕ → ℕ
oldest_byte p i = byte_at p i (queue_oldest p i)

-- rule 95: "takes the oldest .. the byte stays, the index steps up, round at n"
unfoldable pub fetched : List ℕ → ℕ → List ℕ
fetched p i = with_queue_count (with_queue_oldest p i (index p i 1)) i (queue_count p i - 1)

-- rule 96: "writes D1's low byte behind the newest"
unfoldable pub sent : List ℕ → ℕ → ℕ → List ℕ
sent p i b = with_queue_count (with_byte_at p i (index p i (queue_count p i)) b) i (queue_count p i + 1)

-- f 0, f 1, .., c of them
abbrev pub listed : (ℕ → ℕ) → ℕ → List ℕ
listed f zero = []
listed f (suc c) = listed f c ++ (f c ∷ [])

-- the queue as a list of its bytes, oldest first
unfoldable pub contents : List ℕ → ℕ → List ℕ
contents p i = listed (λ (j : ℕ). byte_at p i (index p i j)) (queue_count p i)
