-- Trap 3 keeps a sound picture sound, and the tables as they were.
use Prim.Native.Nat.{ℕ, ◌+◌, ◌/◌, ◌%◌, ◌≤◌, ◌<◌}
use mathlib.Core.Path.{◌≡◌, refl, sym, ap, ◌∙◌}
use mathlib.Core.Bool.{true, false}
use mathlib.Core.List.{List}
use mathlib.Core.Logic.{⊎_elim, ◌⊎◌, inl, inr}
use lib.ListN.{length}
use native.Mathlib.Omega.{arith}
use Rattle.words.specs.Words.{word}
use Rattle.picture.specs.Numbers.{position}
use Rattle.picture.specs.declared.Table.{Table}
use Rattle.blocks.specs.Header.{queue_oldest_field, queue_zero_field, queue_bytes_field, size, queue_length, queue_oldest, queue_count, queue_zero}
use Rattle.headers.specs.Header.{Outside}
use Rattle.sound.specs.Sound.{sound}
use Rattle.sound_facts.proofs.Sound.{Queue, Sound}
use Rattle.sound_facts.proofs.View.{view, sound_again}
use Rattle.sound_facts.proofs.Ages.{Ages}
use Rattle.calls.specs.Outcome.{Outcome}
use Rattle.calls.specs.Call.{outcome}
use Rattle.calls.specs.Registers.{D1, A0}
use Rattle.law_blocks.proofs.Tables.{TablesSame, tables_still, tables_age}
use Rattle.queues.specs.Bytes.{byte_word}
use Rattle.queues.specs.Ring.{Ring, index, waits, full, fetched, sent}
use Rattle.queues.proofs.Ring.{index_below, waits_some, full_not, length_fetched, fetched_other, fetched_oldest, fetched_count, fetched_length, fetched_ring, length_sent, sent_other, sent_count, sent_length, sent_oldest, sent_ring}
use Rattle.channels.specs.Effects.{queue_of}
use Rattle.channels.specs.Calls.{pending, fetch, send}
use Rattle.channels.proofs.Found.{Held, live_queue}
use Rattle.law_queues.proofs.Written.{Written, tables, writing_keeps_sound}
use Rattle.law_queues.proofs.Ways.{queue_there, pending_ways, fetch_ways, send_ways}

module _ (p : List ℕ) (k i : ℕ) (H : Held p k i) where
  -- the queue's longwords lie in the picture
  pub lies : i + queue_bytes_field + (queue_length p i + 3) / 4 ≤ length p
  lies = let a = H.room in let b = H.inside in let c = H.short in omega arith

  pub header_lies : i + queue_bytes_field ≤ length p
  header_lies = let l = lies in omega arith

  -- a fetch writes the queue's room
  pub fetched_written : waits p i ≡ true → Written p (fetched p i) i
  fetched_written w =
      let u = H.queue in
      let R = fetched_ring p i H.ring header_lies w in
      let z = fetched_length p i in
      record {
        long = length_fetched p i;
        other = λ j h. let r = H.room in fetched_other p i j (⊎_elim (λ (l : j < i + queue_oldest_field). λ e. omega arith) (λ (l : i + size p i / 4 ≤ j). λ e. omega arith) h) (⊎_elim (λ (l : j < i + queue_oldest_field). λ e. omega arith) (λ (l : i + size p i / 4 ≤ j). λ e. omega arith) h);
        queue = record {
          least = rw z u.least;
          most = R.most;
          long = rw (fetched_other p i i (omega arith) (omega arith), z) u.long;
          oldest = R.oldest;
          held = R.held;
          nought = fetched_other p i (i + queue_zero_field) (omega arith) (omega arith) ∙ u.nought;
        };
      }

  -- a send writes the queue's room
  pub sent_written : (b : ℕ) → b < 256 → full p i ≡ false → Written p (sent p i b) i
  sent_written b small f =
      let u = H.queue in
      let R = sent_ring p i b H.ring lies small f in
      let z = sent_length p i b in
      let l = full_not p i f in
      let x = index_below p i H.ring (queue_count p i) (omega arith) in
      let r = H.room in
      record {
        long = length_sent p i b;
        other = λ j h. sent_other p i b j (⊎_elim (λ (y : j < i + queue_oldest_field). λ e. omega arith) (λ (y : i + size p i / 4 ≤ j). λ e. omega arith) h) (⊎_elim (λ (y : j < i + queue_oldest_field). λ e. omega arith) (λ (y : i + size p i / 4 ≤ j). λ e. omega arith) h);
        queue = record {
          least = rw z u.least;
          most = R.most;
          long = rw (sent_other p i b i (omega arith) (omega arith), z) u.long;
          oldest = R.oldest;
          held = R.held;
          nought = sent_other p i b (i + queue_zero_field) (omega arith) (omega arith) ∙ u.nought;
        };
      }

pub low_byte : (n : ℕ) → n % 256 < 256
low_byte n = omega arith

-- sound in, sound out
pub pending_keeps_sound : (p d : List ℕ) → sound p ≡ true → sound (outcome pending p d).picture ≡ true
pending_keeps_sound p d s = pending_ways (λ (o : Outcome). sound o.picture ≡ true) p d (λ k. s) s

pub fetch_keeps_sound : (p d : List ℕ) → sound p ≡ true → sound (outcome fetch p d).picture ≡ true
fetch_keeps_sound p d s = fetch_ways (λ (o : Outcome). sound o.picture ≡ true) p d (λ k. s)
    (λ a b c. let H = live_queue p (A0 d) s a in
    sound_again _ (writing_keeps_sound p (fetched p (queue_there p d)) (position (A0 d)) (queue_there p d) (view p s) H (fetched_written p (position (A0 d)) (queue_there p d) H c)))

pub send_keeps_sound : (p d : List ℕ) → sound p ≡ true → sound (outcome send p d).picture ≡ true
send_keeps_sound p d s = send_ways (λ (o : Outcome). sound o.picture ≡ true) p d (λ k. s)
    (λ a b c. let H = live_queue p (A0 d) s a in
    sound_again _ (writing_keeps_sound p (sent p (queue_there p d) (D1 d % 256)) (position (A0 d)) (queue_there p d) (view p s) H (sent_written p (position (A0 d)) (queue_there p d) H (D1 d % 256) (low_byte (D1 d)) c)))

-- the tables stay
pub fetch_keeps_the_tables : (p d : List ℕ) → sound p ≡ true → TablesSame p (outcome fetch p d).picture
fetch_keeps_the_tables p d s = fetch_ways (λ (o : Outcome). TablesSame p o.picture) p d (λ k. tables_still p)
    (λ a b c. let H = live_queue p (A0 d) s a in
    tables p (fetched p (queue_there p d)) (position (A0 d)) (queue_there p d) (view p s) H (fetched_written p (position (A0 d)) (queue_there p d) H c))

pub send_keeps_the_tables : (p d : List ℕ) → sound p ≡ true → TablesSame p (outcome send p d).picture
send_keeps_the_tables p d s = send_ways (λ (o : Outcome). TablesSame p o.picture) p d (λ k. tables_still p)
    (λ a b c. let H = live_queue p (A0 d) s a in
    tables p (sent p (queue_there p d) (D1 d % 256)) (position (A0 d)) (queue_there p d) (view p s) H (sent_written p (position (A0 d)) (queue_there p d) H (D1 d % 256) (low_byte (D1 d)) c))

pub pending_keeps_the_tables : (p d : List ℕ) → TablesSame p (outcome pending p d).picture
pending_keeps_the_tables p d = pending_ways (λ (o : Outcome). TablesSame p o.picture) p d (λ k. tables_still p) (tables_still p)

-- tags: none is given
pub pending_ages : (p d : List ℕ) → sound p ≡ true → (t : Table) → Ages p (outcome pending p d).picture t
pending_ages p d s t = tables_age p (outcome pending p d).picture (pending_keeps_the_tables p d) t

pub fetch_ages : (p d : List ℕ) → sound p ≡ true → (t : Table) → Ages p (outcome fetch p d).picture t
fetch_ages p d s t = tables_age p (outcome fetch p d).picture (fetch_keeps_the_tables p d s) t

pub send_ages : (p d : List ℕ) → sound p ≡ true → (t : Table) → Ages p (outcome send p d).picture t
send_ages p d s t = tables_age p (outcome send p d).picture (send_keeps_the_tables p d s) t
