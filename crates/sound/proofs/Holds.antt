-- What it means that a rule holds, and that soundness is: all of them hold.
use Prim.Native.Nat.{ℕ, ◌<◌}
use mathlib.Core.Path.{◌≡◌, refl}
use mathlib.Core.Bool.{true}
use mathlib.Core.List.{List, [], ◌∷◌}
use Rattle.words.specs.Each.{all, In}
use Rattle.words.proofs.Tests.{both}
use Rattle.words.proofs.Each.{every_at, every_by, all_at, all_by}
use Rattle.picture.specs.Layout.{positions}
use Rattle.picture.specs.declared.Table.TheVariants.{Jobs, Channels}
use Rattle.picture.specs.declared.Area.{Area}
use Rattle.picture.specs.declared.Area.TheVariants.{Heap, Transient}
use Rattle.blocks.specs.Walk.{blocks}
use Rattle.sound.specs.Rule.{Rule, rules}
use Rattle.sound.specs.Sound.{Test, whole, each_record, each_block, passes, test, all_hold, sound}

-- a test passes: of the picture, of each record, of each block
abbrev pub Passes : List ℕ → Test → Type 0
Passes p (whole f) = f p ≡ true
Passes p (each_record t f) = (k : ℕ) → k < positions t → f p k ≡ true
Passes p (each_block f) = (a : Area) (i : ℕ) → In i (blocks p a) → f p a i ≡ true

passes_is : (p : List ℕ) (t : Test) → passes p t ≡ true → Passes p t
passes_is p (whole f) h = h
passes_is p (each_record t f) h = every_at (f p) (positions t) h
passes_is p (each_block f) h = by (both _ _ h)
  where
    by : (all (f p Heap) (blocks p Heap) ≡ true) × (all (f p Transient) (blocks p Transient) ≡ true) → (a : Area) (i : ℕ) → In i (blocks p a) → f p a i ≡ true
    by b Heap = all_at (f p Heap) (blocks p Heap) b.0
    by b Transient = all_at (f p Transient) (blocks p Transient) b.1

is_passes : (p : List ℕ) (t : Test) → Passes p t → passes p t ≡ true
is_passes p (whole f) h = h
is_passes p (each_record t f) h = every_by (f p) (positions t) h
is_passes p (each_block f) h = rw (all_by (f p Heap) (blocks p Heap) (h Heap), all_by (f p Transient) (blocks p Transient) (h Transient))

-- a rule holds
abbrev pub Holds : List ℕ → Rule → Type 0
Holds p r = Passes p (test r)

-- a rule is one of a list
data Listed (r : Rule) : List Rule → Type 0 where
  here : {l : List Rule} → Listed r (r ∷ l)
  there : {s : Rule} {l : List Rule} → Listed r l → Listed r (s ∷ l)

ruleset lists = (here, there)

-- every rule that has a name is in the list
listed : (r : Rule) → Listed r rules
listed Rule.size_stated = search lists depth 64
listed Rule.seven_zero = search lists depth 64
listed Rule.heap_stated = search lists depth 64
listed Rule.zero_base = search lists depth 64
listed Rule.priority_within = search lists depth 64
listed Rule.accumulated_within = search lists depth 64
listed Rule.timeout_within = search lists depth 64
listed Rule.ends_in_one = search lists depth 64
listed (Rule.blank Jobs) = search lists depth 64
listed (Rule.blank Channels) = search lists depth 64
listed (Rule.positioned Jobs) = search lists depth 64
listed (Rule.positioned Channels) = search lists depth 64
listed Rule.zero_exists = search lists depth 64
listed (Rule.tag_within Jobs) = search lists depth 64
listed (Rule.tag_within Channels) = search lists depth 64
listed (Rule.tag_once Jobs) = search lists depth 64
listed (Rule.tag_once Channels) = search lists depth 64
listed Rule.length_whole = search lists depth 64
listed Rule.kind_known = search lists depth 64
listed Rule.start_zero = search lists depth 64
listed Rule.free_blank = search lists depth 64
listed Rule.queue_room = search lists depth 64
listed Rule.tiles = search lists depth 64
listed Rule.untouched = search lists depth 64
listed Rule.kind_fits = search lists depth 64
listed (Rule.block_matched Jobs) = search lists depth 64
listed (Rule.block_matched Channels) = search lists depth 64
listed (Rule.entry_matched Jobs) = search lists depth 64
listed (Rule.entry_matched Channels) = search lists depth 64
listed (Rule.owner_live Jobs) = search lists depth 64
listed (Rule.owner_live Channels) = search lists depth 64
listed Rule.holder_live = search lists depth 64
listed Rule.owner_older = search lists depth 64
listed Rule.zero_unowned = search lists depth 64
listed (Rule.tag_given Jobs) = search lists depth 64
listed (Rule.tag_given Channels) = search lists depth 64
listed (Rule.last_within Jobs) = search lists depth 64
listed (Rule.last_within Channels) = search lists depth 64
listed Rule.current_ready = search lists depth 64
listed Rule.wait_allowed = search lists depth 64
listed Rule.idle_zero = search lists depth 64

listed_holds : (p : List ℕ) (r : Rule) (l : List Rule) → Listed r l → all_hold p l ≡ true → Holds p r
listed_holds p r [] m h = elim m [ ]
listed_holds p r (s ∷ l) here h = passes_is p (test r) (both (passes p (test r)) (all_hold p l) h).0
listed_holds p r (s ∷ l) (there i) h = listed_holds p r l i (both (passes p (test s)) (all_hold p l) h).1

-- in a sound picture every rule holds
pub sound_holds : (p : List ℕ) → sound p ≡ true → (r : Rule) → Holds p r
unfolding sound
sound_holds p s r = listed_holds p r rules (listed r) s

all_hold_by : (p : List ℕ) → ((r : Rule) → Holds p r) → (l : List Rule) → all_hold p l ≡ true
all_hold_by p h [] = refl
all_hold_by p h (r ∷ l) = rw (is_passes p (test r) (h r), all_hold_by p h l)

-- and where every rule holds, it is sound
pub sound_by : (p : List ℕ) → ((r : Rule) → Holds p r) → sound p ≡ true
unfolding sound
sound_by p h = all_hold_by p h rules
