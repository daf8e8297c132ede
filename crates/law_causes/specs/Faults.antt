-- What can be wrong with a call, in the words of the rules (rule 62). The picture is p, the registers are d, and the name beside them is s.
use Rattle.std.specs.Prelude.{ℕ, ◌≤◌, ◌<◌, ◌≡◌, true, false, ◌⊎◌, List, [], length, drop}
use Rattle.words.specs.Words.{word}
use Rattle.words.specs.Each.{In}
use Rattle.picture.specs.Layout.{nobody, last_word, greatest_tag, greatest_priority, greatest_timeout, positions}
use Rattle.picture.specs.Records.{number, priority, used}
use Rattle.picture.specs.Numbers.{position}
use Rattle.picture.specs.declared.Table.{Table}
use Rattle.picture.specs.declared.Table.TheVariants.{Jobs}
use Rattle.picture.specs.declared.Area.{Area}
use Rattle.picture.specs.declared.Area.TheVariants.{Heap}
use Rattle.blocks.specs.Header.{size, kind, free, plain_kind, queue_length}
use Rattle.blocks.specs.Walk.{blocks}
use Rattle.sound_areas.specs.Rules.{longest_queue}
use Rattle.sound.specs.Sound.{sound}
use Rattle.calls.specs.Registers.{caller}
use Rattle.rooms.specs.Room.{first_byte}
use Rattle.law_owners.specs.Under.{Under}
use Rattle.names.specs.Names.{byte, pipe, worth}
use Rattle.channels.specs.Effects.{queue_of}
use Rattle.law_queues.specs.Lists.{bytes_at}
use Rattle.law_ending.specs.Promise.{ActiveMember}

-- the number n names an entry of the table: a position in use has that number
pub record Names (p : List ℕ) (t : Table) (n : ℕ) : Type 0 where
  pub at : ℕ
  pub in_use : used p t at ≡ true
  pub holds : number p t at ≡ n

-- a low word that suspends: 1 to 32,767, or -1, which is $FFFF
abbrev pub Suspending : ℕ → Type 0
Suspending w = ((1 ≤ w) × (w ≤ greatest_timeout)) ⊎ (w ≡ 0xFFFF)

-- a low word with which $A may activate the job n: 0, or -1 where n isn't job 0
abbrev pub Activating : ℕ → ℕ → Type 0
Activating w n = (w ≡ 0) ⊎ ((w ≡ 0xFFFF) × (n ≡ 0 → ⊥))

-- "1 to 5 digits worth 1 to 32,766"
pub record PipeNumber (l : List ℕ) : Type 0 where
  pub some : 1 ≤ length l
  pub few : length l ≤ 5
  pub digits : (b : ℕ) → In b l → (48 ≤ b) × (b ≤ 57)
  pub least : 1 ≤ worth 0 l
  pub most : worth 0 l ≤ longest_queue

pub data Fault : Type 0 where
  registers_not_eight : Fault
  picture_not_sound : Fault
  nobody_current : Fault
  unknown_call : Fault
  not_live : Table → ℕ → Fault
  owner_not_live : ℕ → Fault
  below_four : ℕ → Fault
  positions_used_up : Table → Fault
  tags_used_up : Table → Fault
  no_block_long_enough : Area → ℕ → Fault
  outside_the_tree : ℕ → ℕ → Fault
  job_zero : ℕ → Fault
  tree_active : ℕ → Fault
  job_active : ℕ → Fault
  priority_outside : ℕ → ℕ → Fault
  suspension_outside : ℕ → ℕ → Fault
  activation_outside : ℕ → ℕ → Fault
  length_outside : ℕ → Fault
  no_plain_block : ℕ → Fault
  not_pipe : Fault
  bare_pipe : Fault
  other_character : Fault
  number_outside : Fault
  timeout_not_zero : ℕ → Fault
  queue_empty : ℕ → Fault
  queue_full : ℕ → Fault

-- the fault is there
abbrev pub Wrong : List ℕ → List ℕ → List ℕ → Fault → Type 0
-- "registers not 8"
Wrong p d s registers_not_eight = length d ≡ 8 → ⊥
-- "picture not sound"
Wrong p d s picture_not_sound = sound p ≡ false
-- "nobody is current"
Wrong p d s nobody_current = caller p ≡ nobody
-- "unknown call": it stands where no call does
Wrong p d s unknown_call = Unit {0}
-- "job named isn't live", "channel not live"
Wrong p d s (not_live t n) = Names p t n → ⊥
-- $1: D1, not "negative as a long", isn't live
Wrong p d s (owner_not_live n) = (n < 0x8000_0000) × (Names p Jobs n → ⊥)
-- "D3 below 4"
Wrong p d s (below_four n) = n < 4
-- "positions .. used up": every position of the table is in use
Wrong p d s (positions_used_up t) = (k : ℕ) → k < positions t → used p t k ≡ true
-- "tags used up": the last given is 32,767
Wrong p d s (tags_used_up t) = word p (last_word t) ≡ greatest_tag
-- "no free block of that area is long enough": every free block is shorter than n bytes
Wrong p d s (no_block_long_enough a n) = (i : ℕ) → In i (blocks p a) → free p i ≡ true → size p i < n
-- "job outside the tree in $2"
Wrong p d s (outside_the_tree t n) = Under p (position t) (position n) → ⊥
-- "job 0"
Wrong p d s (job_zero n) = n ≡ 0
-- "ordinary removal with an active job in the tree"
Wrong p d s (tree_active n) = ActiveMember p (position n)
-- "activating an active job": its priority is at least 1
Wrong p d s (job_active n) = 1 ≤ priority p (position n)
-- a priority outside of `least` to 127
Wrong p d s (priority_outside least u) = (u < least) ⊎ (greatest_priority < u)
-- $8: "D3's low word 1 to 32,767 or -1, A1 0"
Wrong p d s (suspension_outside w a) = (Suspending w → ⊥) ⊎ (a ≡ 0 → ⊥)
-- $A: "D3's low word 0 or -1, and not -1 for job 0"
Wrong p d s (activation_outside w n) = Activating w n → ⊥
-- $18: "D1 1 to 2^31 - 1"
Wrong p d s (length_outside n) = (n ≡ 0) ⊎ (0x8000_0000 ≤ n)
-- $19: "A0 is the first byte after a plain block's header"
Wrong p d s (no_plain_block a) = (i : ℕ) → In i (blocks p Heap) → kind p i ≡ plain_kind → first_byte i ≡ a → ⊥
-- "name isn't PIPE", "bare PIPE", "PIPE and then a character other than _"
Wrong p d s not_pipe = pipe s ≡ false
Wrong p d s bare_pipe = length s ≡ 4
Wrong p d s other_character = byte s 4 ≡ 95 → ⊥
-- "PIPE_ followed by anything but 1 to 5 digits worth 1 to 32,766"
Wrong p d s number_outside = PipeNumber (drop 5 s) → ⊥
-- trap 3: "D3's low word 0"
Wrong p d s (timeout_not_zero w) = w ≡ 0 → ⊥
-- "queue full on send or empty on fetch or pending"
Wrong p d s (queue_empty n) = bytes_at p n ≡ []
Wrong p d s (queue_full n) = length (bytes_at p n) ≡ queue_length p (queue_of p (position n))
