-- The queue of a channel as a person pictures it (rule 14).
use Rattle.std.specs.Prelude.{ℕ, List}
use Rattle.picture.specs.Numbers.{position}
use Rattle.queues.specs.Ring.{contents}
use Rattle.channels.specs.Effects.{queue_of}

-- the bytes that wait at the channel with number n, oldest first
abbrev pub bytes_at : List ℕ → ℕ → List ℕ
bytes_at p n = contents p (queue_of p (position n))
