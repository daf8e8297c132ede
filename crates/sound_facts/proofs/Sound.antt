-- A sound picture in facts about numbers: what callers take from soundness, and what they show for it. Above a field stands the rule that it says.
use Prim.Native.Nat.{ℕ, ◌+◌, ◌%◌, ◌≤◌, ◌<◌}
use mathlib.Core.Path.{◌≡◌}
use mathlib.Core.Bool.{Bool, true, false}
use mathlib.Core.Logic.{◌⊎◌}
use mathlib.Core.List.{List}
use lib.ListN.{length}
use Rattle.words.specs.Words.{word}
use Rattle.words.specs.Each.{In}
use Rattle.picture.specs.Layout.{nobody, size_word, least_size, greatest_size, current_word, last_word, greatest_tag, heap_word, zero_word, heap_base, positions, width, upto}
use Rattle.picture.specs.Records.{field, number, owner, base, priority, accumulated, timeout, waited_for, ending, used, ready}
use Rattle.picture.specs.Numbers.{tag, position, live}
use Rattle.picture.specs.declared.Table.{Table}
use Rattle.picture.specs.declared.Table.TheVariants.{Jobs, Channels}
use Rattle.picture.specs.declared.Area.{Area}
use Rattle.picture.specs.declared.Area.TheVariants.{Heap, Transient}
use Rattle.blocks.specs.Header.{size, kind, queue_kind, job_kind, holder, start, queue_length, queue_oldest, queue_count, queue_zero, rounded}
use Rattle.blocks.specs.Walk.{good, next, blocks}
use Rattle.sound_matching.specs.Match.{has_block}
use Rattle.sound_matching.proofs.Matched.{Matched}
use Rattle.sound_records.specs.Rules.{may_be_unowned}
use Rattle.picture.specs.Layout.{greatest_priority, hold, without_end}
use Rattle.picture.proofs.Timeout.{Timely}
use Rattle.sound_areas.specs.Rules.{longest_queue}

-- the longwords before the tables
pub record Sizes (p : List ℕ) : Type 0 where
  -- size-stated
  pub long : word p size_word ≡ length p
  pub least : least_size ≤ length p
  pub most : length p ≤ greatest_size
  pub fours : length p % 4 ≡ 0
  -- heap-stated
  pub heap_fours : word p heap_word % 4 ≡ 0
  pub heap_least : 4 ≤ word p heap_word
  pub heap_most : heap_base + word p heap_word + 4 ≤ length p
  -- seven-zero
  pub nought : word p zero_word ≡ 0
  -- last-within
  pub last : (t : Table) → word p (last_word t) ≤ greatest_tag

-- queue-room
pub record Queue (p : List ℕ) (i : ℕ) : Type 0 where
  pub least : 1 ≤ queue_length p i
  pub most : queue_length p i ≤ longest_queue
  pub long : size p i ≡ rounded (32 + queue_length p i)
  pub oldest : queue_oldest p i < queue_length p i
  pub held : queue_count p i ≤ queue_length p i
  pub nought : queue_zero p i ≡ 0

-- wait-allowed: whom a job waits for
pub record Waits (p : List ℕ) (k : ℕ) : Type 0 where
  pub alive : live p Jobs (waited_for p k) ≡ true
  pub other : waited_for p k ≡ number p Jobs k → ⊥
  pub forever : timeout p k ≡ without_end

-- the owner of an entry, or of a block: a live job, or nobody where that may be
abbrev pub Owned : List ℕ → Bool → ℕ → Type 0
Owned p may n = ((may ≡ true) × (n ≡ nobody)) ⊎ (live p Jobs n ≡ true)

-- the records of both tables
pub record Entries (p : List ℕ) (t : Table) : Type 0 where
  -- blank
  pub unused : (k f : ℕ) → k < positions t → f < width t → used p t k ≡ false → field p t k f ≡ 0
  -- positioned
  pub place : (k : ℕ) → used p t k ≡ true → position (number p t k) ≡ k
  -- tag-within
  pub tagged : (k : ℕ) → has_block p t k ≡ true → (1 ≤ tag (number p t k)) × (tag (number p t k) ≤ greatest_tag)
  -- tag-once
  pub once : (j k : ℕ) → used p t j ≡ true → used p t k ≡ true → tag (number p t j) ≡ tag (number p t k) → j ≡ k
  -- owner-live
  pub owned : (k : ℕ) → used p t k ≡ true → Owned p (may_be_unowned t) (owner p t k)
  -- tag-given
  pub given : (k : ℕ) → used p t k ≡ true → tag (number p t k) ≤ word p (last_word t)

-- the records of jobs
pub record Jobs_fine (p : List ℕ) : Type 0 where
  pub entries : Entries p Jobs
  -- zero-exists
  pub zero_lives : used p Jobs 0 ≡ true
  pub zero_number : number p Jobs 0 ≡ 0
  -- zero-base
  pub zero_base : base p Jobs 0 ≡ 0
  -- zero-unowned
  pub zero_unowned : owner p Jobs 0 ≡ nobody
  -- priority-within
  pub urgent : (k : ℕ) → k < positions Jobs → priority p k ≤ greatest_priority
  -- accumulated-within
  pub gained : (k : ℕ) → k < positions Jobs → accumulated p k ≤ hold
  -- timeout-within
  pub frames : (k : ℕ) → k < positions Jobs → Timely (timeout p k)
  -- owner-older
  pub older : (k : ℕ) → used p Jobs k ≡ true → (owner p Jobs k ≡ nobody) ⊎ (tag (owner p Jobs k) < tag (number p Jobs k))
  -- wait-allowed
  pub waits : (k : ℕ) → k < positions Jobs → (waited_for p k ≡ 0) ⊎ Waits p k
  -- idle-zero
  pub idle : (k : ℕ) → k < positions Jobs → (accumulated p k ≡ 0) ⊎ (ready p k ≡ true)

-- the records of channels
pub record Channels_fine (p : List ℕ) : Type 0 where
  pub entries : Entries p Channels
  -- ends-in-one
  pub one : (k : ℕ) → used p Channels k ≡ true → ending p k ≡ 1

-- a kind belongs to an area
abbrev pub Fits : Area → ℕ → Type 0
Fits Heap k = k ≤ queue_kind
Fits Transient k = (k ≡ 0) ⊎ (k ≡ job_kind)

-- the blocks of an area
pub record Tiled (p : List ℕ) (a : Area) : Type 0 where
  -- length-whole, tiles
  pub whole : (i : ℕ) → In i (blocks p a) → good p i (upto p a) ≡ true
  -- kind-known, kind-fits
  pub fits : (i : ℕ) → In i (blocks p a) → Fits a (kind p i)
  -- start-zero
  pub starts_zero : (i : ℕ) → In i (blocks p a) → (kind p i ≡ job_kind) ⊎ (start p i ≡ 0)
  -- free-blank
  pub free_zero : (i : ℕ) → In i (blocks p a) → kind p i ≡ 0 → (holder p i ≡ 0) × (start p i ≡ 0)
  -- queue-room
  pub queue : (i : ℕ) → In i (blocks p a) → kind p i ≡ queue_kind → Queue p i
  -- untouched
  pub lone : (i : ℕ) → In i (blocks p a) → kind p i ≡ 0 → next p i (upto p a) < upto p a → kind p (next p i (upto p a)) ≡ 0 → ⊥
  -- holder-live
  pub held : (i : ℕ) → In i (blocks p a) → (kind p i ≡ 0) ⊎ (((kind p i ≡ job_kind) × (holder p i ≡ nobody)) ⊎ (live p Jobs (holder p i) ≡ true))

-- current-ready
abbrev pub Current : List ℕ → Type 0
Current p = (word p current_word ≡ nobody) ⊎ ((live p Jobs (word p current_word) ≡ true) × (ready p (position (word p current_word)) ≡ true))

pub record Sound (p : List ℕ) : Type 0 where
  pub sizes : Sizes p
  pub jobs : Jobs_fine p
  pub channels : Channels_fine p
  pub tiled : (a : Area) → Tiled p a
  -- block-matched, entry-matched
  pub matched : (t : Table) → Matched p t
  pub current : Current p

-- the records of either table
pub entries_of : (p : List ℕ) → Sound p → (t : Table) → Entries p t
entries_of p S Jobs = S.jobs.entries
entries_of p S Channels = S.channels.entries
