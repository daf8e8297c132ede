-- The ring: its index arithmetic, and the queue as a list. Sending appends, fetching takes the head.
use Prim.Native.Nat.{ℕ, zero, suc, ◌+◌, ◌-◌, ◌/◌, ◌≤◌, ◌<◌}
use mathlib.Core.Path.{◌≡◌, refl, sym, ap, ◌∙◌}
use mathlib.Core.Bool.{true, false}
use mathlib.Core.Logic.{⊎_elim}
use mathlib.Core.List.{List, [], ◌∷◌, ◌++◌}
use lib.ListN.{length, length-set}
use lib.Seq.{get_or-set_same, get_or-set_other}
use lib.Dec.{leb}
use native.Mathlib.Omega.{arith}
use native.Mathlib.Numerals.{add-one}
use borrow.Author.Tests.{lt-ltb, le-ltb, leb-true, leb-false}
use Rattle.words.specs.Words.{word}
use Rattle.words.proofs.Tests.{lt_or_ge}
use Rattle.blocks.specs.Header.{queue_length_field, queue_oldest_field, queue_count_field, queue_bytes_field, with_queue_oldest, queue_length, queue_oldest, queue_count}
use Rattle.queues.specs.Bytes.{byte_word, byte_at, with_byte_at}
use Rattle.queues.specs.Ring.{Ring, round, index, waits, full, oldest_byte, fetched, sent, listed, contents}
use Rattle.queues.proofs.Bytes.{byte_at_same, byte_written, byte_kept, length_with_byte_at, with_byte_at_other}

pub round_below : (n x : ℕ) → x < n → round n x ≡ x
unfolding round
round_below n x l = rw (lt-ltb x n l)

pub round_above : (n x : ℕ) → n ≤ x → round n x ≡ x - n
unfolding round
round_above n x l = rw (le-ltb x n l)

-- an index that is rounded is one
pub round_within : (n x : ℕ) → x < n + n → round n x < n
round_within n x h = ⊎_elim (λ (l : x < n). rw (round_below n x l) l) (λ (l : n ≤ x). rw (round_above n x l) (omega arith)) (lt_or_ge x n)

-- places of a ring that come before each other are different
pub round_apart : (n o j k : ℕ) → o < n → j < k → k < n → round n (o + j) ≡ round n (o + k) → ⊥
round_apart n o j k a b c e = ⊎_elim
    (λ (l : o + j < n). ⊎_elim
    (λ (m : o + k < n). let x = rw (round_below n (o + j) l, round_below n (o + k) m) at e in omega arith)
    (λ (m : n ≤ o + k). let x = rw (round_below n (o + j) l, round_above n (o + k) m) at e in omega arith)
    (lt_or_ge (o + k) n))
    (λ (l : n ≤ o + j). let m : n ≤ o + k = omega arith in let x = rw (round_above n (o + j) l, round_above n (o + k) m) at e in omega arith)
    (lt_or_ge (o + j) n)

-- a step of the oldest is a step of every index
pub round_step : (n o j : ℕ) → o < n → j < n → round n (round n (o + 1) + j) ≡ round n (o + suc j)
round_step n o j a b = ⊎_elim
    (λ (l : o + 1 < n). let z : o + 1 + j ≡ o + suc j = omega arith in rw (round_below n (o + 1) l, z))
    (λ (l : n ≤ o + 1).
    let z : o + 1 - n + j ≡ j = omega arith in
    let m : n ≤ o + suc j = omega arith in
    let y : o + suc j - n ≡ j = omega arith in
    rw (round_above n (o + 1) l, z, round_below n j b, round_above n (o + suc j) m, y))
    (lt_or_ge (o + 1) n)

-- lists of what a function gives
listed_same : (f g : ℕ → ℕ) (c : ℕ) → ((j : ℕ) → j < c → f j ≡ g j) → listed f c ≡ listed g c
listed_same f g zero h = refl
listed_same f g (suc c) h = rw (listed_same f g c (λ j l. h j (omega arith)), h c (omega arith))

listed_head : (f : ℕ → ℕ) (c : ℕ) → listed f (suc c) ≡ f 0 ∷ listed (λ (j : ℕ). f (suc j)) c
listed_head f zero = refl
listed_head f (suc c) = ap (λ (l : List ℕ). l ++ (f (suc c) ∷ [])) (listed_head f c)

module _ (p : List ℕ) (i : ℕ) where
  pub waits_some : waits p i ≡ true → 0 < queue_count p i
  unfolding waits
  waits_some h = leb-true 1 (queue_count p i) h

  pub full_not : full p i ≡ false → queue_count p i < queue_length p i
  unfolding full
  full_not h = leb-false (queue_length p i) (queue_count p i) h

  -- pending tells whether there is a byte
  pub waits_tells : (waits p i ≡ false → contents p i ≡ []) × (waits p i ≡ true → contents p i ≡ [] → ⊥)
  unfolding waits contents
  waits_tells = go (queue_count p i) (λ (j : ℕ). byte_at p i (index p i j))
    where
      go : (c : ℕ) (f : ℕ → ℕ) → (leb 1 c ≡ false → listed f c ≡ []) × (leb 1 c ≡ true → listed f c ≡ [] → ⊥)
      go zero f = (λ h. refl, λ h. let l = leb-true 1 0 h in absurd (omega arith))
      go (suc c) f = (
        λ h. let l = leb-false 1 (suc c) h in absurd (omega arith),
        λ h e. let z = ap length (sym (listed_head f c) ∙ e) in omega arith,
      )

  module _ (R : Ring p i) where
    pub index_below : (j : ℕ) → j ≤ queue_length p i → index p i j < queue_length p i
    unfolding index
    index_below j l = let o = R.oldest in round_within (queue_length p i) (queue_oldest p i + j) (omega arith)

    index_first : index p i 0 ≡ queue_oldest p i
    unfolding index
    index_first = let z : queue_oldest p i + 0 ≡ queue_oldest p i = omega arith in rw z (round_below (queue_length p i) (queue_oldest p i) R.oldest)

    index_apart : (j k : ℕ) → j < k → k < queue_length p i → index p i j ≡ index p i k → ⊥
    unfolding index
    index_apart j k l m = round_apart (queue_length p i) (queue_oldest p i) j k R.oldest l m

  -- the longwords after a fetch
  pub length_fetched : length (fetched p i) ≡ length p
  unfolding fetched
  length_fetched = simp length-set

  pub fetched_other : (k : ℕ) → (k ≡ i + queue_oldest_field → ⊥) → (k ≡ i + queue_count_field → ⊥) → word (fetched p i) k ≡ word p k
  unfolding fetched
  fetched_other k m n = rw (get_or-set_other (with_queue_oldest p i (index p i 1)) (i + queue_count_field) k (queue_count p i - 1) 0 n, get_or-set_other p (i + queue_oldest_field) k (index p i 1) 0 m)

  pub fetched_oldest : i + queue_bytes_field ≤ length p → queue_oldest (fetched p i) i ≡ index p i 1
  unfolding fetched
  fetched_oldest h = rw (get_or-set_other (with_queue_oldest p i (index p i 1)) (i + queue_count_field) (i + queue_oldest_field) (queue_count p i - 1) 0 (omega arith), get_or-set_same p (i + queue_oldest_field) (index p i 1) 0 (omega arith))

  pub fetched_count : i + queue_bytes_field ≤ length p → queue_count (fetched p i) i ≡ queue_count p i - 1
  unfolding fetched
  fetched_count h = get_or-set_same (with_queue_oldest p i (index p i 1)) (i + queue_count_field) (queue_count p i - 1) 0 (simp length-set (omega arith))

  pub fetched_length : queue_length (fetched p i) i ≡ queue_length p i
  fetched_length = fetched_other (i + queue_length_field) (omega arith) (omega arith)

  fetched_byte : (j : ℕ) → byte_at (fetched p i) i j ≡ byte_at p i j
  fetched_byte j = byte_at_same p (fetched p i) i j (fetched_other (byte_word i j) (omega arith) (omega arith))

  module _ (R : Ring p i) (inside : i + queue_bytes_field ≤ length p) where
    fetched_index : (j : ℕ) → j < queue_length p i → index (fetched p i) i j ≡ index p i (suc j)
    unfolding index
    fetched_index j l = rw (fetched_length, fetched_oldest inside) (round_step (queue_length p i) (queue_oldest p i) j R.oldest l)

    -- fetching takes the head
    pub fetching_takes_the_head : waits p i ≡ true → contents p i ≡ oldest_byte p i ∷ contents (fetched p i) i
    unfolding contents oldest_byte
    fetching_takes_the_head w =
        let l = waits_some w in
        let h = R.held in
        let z : queue_count p i ≡ suc (queue_count p i - 1) = omega arith in
        ap (listed (λ (j : ℕ). byte_at p i (index p i j))) z
        ∙ listed_head (λ (j : ℕ). byte_at p i (index p i j)) (queue_count p i - 1)
        ∙ rw (index_first R, fetched_count inside)
        (ap (λ (t : List ℕ). byte_at p i (queue_oldest p i) ∷ t)
        (listed_same (λ (j : ℕ). byte_at p i (index p i (suc j))) (λ (j : ℕ). byte_at (fetched p i) i (index (fetched p i) i j)) (queue_count p i - 1)
        (λ j m. sym (fetched_byte (index (fetched p i) i j) ∙ ap (byte_at p i) (fetched_index j (omega arith))))))

    pub fetched_ring : waits p i ≡ true → Ring (fetched p i) i
    fetched_ring w =
        let l = waits_some w in
        let h = R.held in
        record {
          most = rw fetched_length R.most;
          oldest = rw (fetched_length, fetched_oldest inside) (index_below R 1 (omega arith));
          held = rw (fetched_length, fetched_count inside) (omega arith);
        }

  module _ (b : ℕ) where
    -- the place behind the newest, and the longwords after a send
    abbrev behind : ℕ
    behind = index p i (queue_count p i)

    pub length_sent : length (sent p i b) ≡ length p
    unfolding sent
    length_sent = simp (length-set, length_with_byte_at)

    pub sent_other : (k : ℕ) → (k ≡ i + queue_count_field → ⊥) → (k ≡ byte_word i (index p i (queue_count p i)) → ⊥) → word (sent p i b) k ≡ word p k
    unfolding sent
    sent_other k m n = get_or-set_other (with_byte_at p i behind b) (i + queue_count_field) k (queue_count p i + 1) 0 m ∙ with_byte_at_other p i behind b k n

    pub sent_count : i + queue_bytes_field ≤ length p → queue_count (sent p i b) i ≡ queue_count p i + 1
    unfolding sent
    sent_count h = get_or-set_same (with_byte_at p i behind b) (i + queue_count_field) (queue_count p i + 1) 0 (rw (length_with_byte_at p i behind b) (omega arith))

    pub sent_length : queue_length (sent p i b) i ≡ queue_length p i
    sent_length = sent_other (i + queue_length_field) (omega arith) (omega arith)

    pub sent_oldest : queue_oldest (sent p i b) i ≡ queue_oldest p i
    sent_oldest = sent_other (i + queue_oldest_field) (omega arith) (omega arith)

    sent_byte : (j : ℕ) → byte_at (sent p i b) i j ≡ byte_at (with_byte_at p i behind b) i j
    unfolding sent
    sent_byte j = byte_at_same (with_byte_at p i behind b) (sent p i b) i j (get_or-set_other (with_byte_at p i behind b) (i + queue_count_field) (byte_word i j) (queue_count p i + 1) 0 (omega arith))

    sent_index : (j : ℕ) → index (sent p i b) i j ≡ index p i j
    unfolding index
    sent_index j = rw (sent_length, sent_oldest)

    module _ (R : Ring p i) (inside : i + queue_bytes_field + (queue_length p i + 3) / 4 ≤ length p) (small : b < 256) where
      -- sending appends
      pub sending_appends : full p i ≡ false → contents (sent p i b) i ≡ contents p i ++ (b ∷ [])
      unfolding contents
      sending_appends f =
          let l = full_not f in
          let x = index_below R (queue_count p i) (omega arith) in
          let y : byte_word i (index p i (queue_count p i)) < length p = omega arith in
          rw (sent_count (omega arith), add-one (queue_count p i), sent_index (queue_count p i), sent_byte (index p i (queue_count p i)), byte_written p i (index p i (queue_count p i)) b y small)
          (ap (λ (t : List ℕ). t ++ (b ∷ []))
          (listed_same (λ (j : ℕ). byte_at (sent p i b) i (index (sent p i b) i j)) (λ (j : ℕ). byte_at p i (index p i j)) (queue_count p i)
          (λ j m. ap (byte_at (sent p i b) i) (sent_index j) ∙ sent_byte (index p i j) ∙ byte_kept p i (index p i (queue_count p i)) b y small (index p i j) (index_apart R j (queue_count p i) m l))))

      pub sent_ring : full p i ≡ false → Ring (sent p i b) i
      sent_ring f =
          let l = full_not f in
          record {
            most = rw sent_length R.most;
            oldest = rw (sent_length, sent_oldest) R.oldest;
            held = rw (sent_length, sent_count (omega arith)) (omega arith);
          }

index_same : (p q : List ℕ) (i j : ℕ) → queue_length q i ≡ queue_length p i → queue_oldest q i ≡ queue_oldest p i → index q i j ≡ index p i j
unfolding index
index_same p q i j a b = rw (a, b)

-- a queue whose longwords stay is the same list
pub contents_same : (p q : List ℕ) (i : ℕ) → Ring p i → ((k : ℕ) → i + queue_length_field ≤ k → k < i + queue_bytes_field + (queue_length p i + 3) / 4 → word q k ≡ word p k) → contents q i ≡ contents p i
unfolding contents
contents_same p q i R s =
    let h = R.held in
    rw (s (i + queue_count_field) (omega arith) (omega arith))
    (listed_same (λ (j : ℕ). byte_at q i (index q i j)) (λ (j : ℕ). byte_at p i (index p i j)) (queue_count p i)
    (λ j l.
    ap (byte_at q i) (index_same p q i j (s (i + queue_length_field) (omega arith) (omega arith)) (s (i + queue_oldest_field) (omega arith) (omega arith)))
    ∙ (let x = index_below p i R j (omega arith) in byte_at_same p q i (index p i j) (s (byte_word i (index p i j)) (omega arith) (omega arith)))))
