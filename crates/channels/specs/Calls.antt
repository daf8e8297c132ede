-- Document 01: trap 2 $2, trap 3 $0, $1 and $5 (rules 92 to 96).
use Rattle.std.specs.Prelude.{ℕ, ◌%◌, not, List, [], ◌∷◌}
use Rattle.picture.specs.Keys.{not_complete, bad_parameter}
use Rattle.picture.specs.Numbers.{channel_at}
use Rattle.calls.specs.Call.{Check, Call}
use Rattle.calls.specs.Found.{channel_check, place_of_channel}
use Rattle.calls.specs.Registers.{D1, A0, with_D1}
use Rattle.queues.specs.Ring.{waits, full, oldest_byte, fetched, sent}
use Rattle.channels.specs.Effects.{queue_of, closed, immediate}

-- the queue of the channel that A0 names
abbrev pub queue_named : List ℕ → List ℕ → ℕ
queue_named p d = queue_of p (place_of_channel p (A0 d))

-- rule 92: "Trap 2 $2: channel A0; its block is freed."
unfoldable pub close_channel : Call
close_channel p d = record {
  checks = channel_check (channel_at p (A0 d)) ∷ [];
  picture = closed p (place_of_channel p (A0 d));
  registers = d;
}

-- rule 93: "Trap 3: channel A0; D3's low word 0 (else -15)", and then the check of the queue
abbrev pub at_channel : List ℕ → List ℕ → Check → List Check
at_channel p d c =
    channel_check (channel_at p (A0 d)) ∷
    (immediate d, bad_parameter) ∷
    c ∷ []

-- rule 94: "$0 asks whether a byte waits"
unfoldable pub pending : Call
pending p d = record {
  checks = at_channel p d (waits p (queue_named p d), not_complete);
  picture = p;
  registers = d;
}

-- rule 95: "$1 takes the oldest into D1 (upper bits 0; .."
unfoldable pub fetch : Call
fetch p d = record {
  checks = at_channel p d (waits p (queue_named p d), not_complete);
  picture = fetched p (queue_named p d);
  registers = with_D1 (oldest_byte p (queue_named p d)) d;
}

-- rule 96: "$5 writes D1's low byte behind the newest"
unfoldable pub send : Call
send p d = record {
  checks = at_channel p d (not (full p (queue_named p d)), not_complete);
  picture = sent p (queue_named p d) (D1 d % 256);
  registers = d;
}
