-- Demand 2 (rules 80 and 81): "Ending a job takes that job, its descendants and what they own, and no more": their job blocks, plain blocks, channels and queue blocks.
-- p is the picture before, q the picture after the tree of the job at position t was ended with the key to deliver.
use Rattle.std.specs.Prelude.{ℕ, ◌+◌, ◌*◌, ◌/◌, ◌≤◌, ◌<◌, ◌≡◌, Bool, true, false, ◌&&◌, not, cond, ◌⊎◌, List, eqb, pos}
use Rattle.words.specs.Words.{word}
use Rattle.words.specs.Each.{any, total, In}
use Rattle.picture.specs.Layout.{nobody, current_word, last_word, width, from, upto}
use Rattle.picture.specs.Records.{field, timeout_field, wait_field, key_field, number, owner, base, timeout, waited_for, delivered, used, active}
use Rattle.picture.specs.Numbers.{position, live}
use Rattle.picture.specs.declared.Table.{Table}
use Rattle.picture.specs.declared.Table.TheVariants.{Jobs, Channels}
use Rattle.picture.specs.declared.Area.{Area}
use Rattle.blocks.specs.Header.{header_width, size, kind, free, holder}
use Rattle.blocks.specs.Walk.{blocks}
use Rattle.law_areas.specs.Area.{free_bytes}
use Rattle.law_owners.specs.Under.{Under}

-- the number n names a job in the tree of the job at position t
pub record Member (p : List ℕ) (t n : ℕ) : Type 0 where
  pub lives : live p Jobs n ≡ true
  pub under : Under p t (position n)

-- a job that waited for one of the tree has timeout and wait 0 and the key to deliver
pub record Woken (q : List ℕ) (k key : ℕ) : Type 0 where
  pub frames : timeout q k ≡ pos 0
  pub wait : waited_for q k ≡ 0
  pub gets : delivered q k ≡ key

-- the block in use at i is of the tree: a member owns it, or it is the top's own job block
abbrev pub OfTheTree : List ℕ → ℕ → ℕ → Type 0
OfTheTree p t i = Member p t (holder p i) ⊎ (base p Jobs t ≡ 4 * i)

-- every entry and block whose owner is outside the tree is, longword for longword, what it was, but for a waiter and for free headers
pub record Leaves (p q : List ℕ) (t key : ℕ) : Type 0 where
  pub jobs_stay : (k : ℕ) → used p Jobs k ≡ true → (Under p t k → ⊥) → used q Jobs k ≡ true
  pub channels_stay : (k : ℕ) → used p Channels k ≡ true → (Member p t (owner p Channels k) → ⊥) → used q Channels k ≡ true
  pub jobs : (k f : ℕ) → used p Jobs k ≡ true → (Under p t k → ⊥) → f < width Jobs → (f ≡ timeout_field → ⊥) → (f ≡ wait_field → ⊥) → (f ≡ key_field → ⊥) → field q Jobs k f ≡ field p Jobs k f
  pub channels : (k f : ℕ) → used p Channels k ≡ true → (Member p t (owner p Channels k) → ⊥) → f < width Channels → field q Channels k f ≡ field p Channels k f
  pub waiters : (k : ℕ) → used p Jobs k ≡ true → (Under p t k → ⊥) → Member p t (waited_for p k) → Woken q k key
  pub others : (k f : ℕ) → used p Jobs k ≡ true → (Under p t k → ⊥) → (Member p t (waited_for p k) → ⊥) → f < width Jobs → field q Jobs k f ≡ field p Jobs k f
  pub blocks_stay : (r : Area) (i : ℕ) → In i (blocks p r) → free p i ≡ false → (OfTheTree p t i → ⊥) → In i (blocks q r)
  pub block_longwords : (r : Area) (i : ℕ) → In i (blocks p r) → free p i ≡ false → (OfTheTree p t i → ⊥) → (k : ℕ) → i ≤ k → k < i + size p i / 4 → word q k ≡ word p k
  pub rooms : (r : Area) (i : ℕ) → In i (blocks p r) → (k : ℕ) → i + header_width ≤ k → k < i + size p i / 4 → word q k ≡ word p k
  -- no tag is given, and the areas lie where they did
  pub tags : (s : Table) → word q (last_word s) ≡ word p (last_word s)
  pub begins : (r : Area) → from q r ≡ from p r
  pub ends : (r : Area) → upto q r ≡ upto p r

-- the entry at position k is gone: not in use, its record all zero
pub record Gone (q : List ℕ) (s : Table) (k : ℕ) : Type 0 where
  pub unused : used q s k ≡ false
  pub zero : (f : ℕ) → f < width s → field q s k f ≡ 0

-- an entry that was in use before, with the same number, owner and base
pub record OldEntry (p q : List ℕ) (s : Table) (k : ℕ) : Type 0 where
  pub was_used : used p s k ≡ true
  pub same_number : number q s k ≡ number p s k
  pub same_owner : owner q s k ≡ owner p s k
  pub same_base : base q s k ≡ base p s k

-- a block that was in use before at the same place, with the same length, kind, owner and every longword, and isn't of the tree
pub record OldBlock (p q : List ℕ) (t : ℕ) (r : Area) (i : ℕ) : Type 0 where
  pub was_there : In i (blocks p r)
  pub was_used : free p i ≡ false
  pub outside : OfTheTree p t i → ⊥
  pub same_length : size q i ≡ size p i
  pub same_kind : kind q i ≡ kind p i
  pub same_owner : holder q i ≡ holder p i
  pub same_longwords : (k : ℕ) → i ≤ k → k < i + size p i / 4 → word q k ≡ word p k

-- the longword k lies in a free block of the area
pub record Free (q : List ℕ) (r : Area) (k : ℕ) : Type 0 where
  pub block : ℕ
  pub there : In block (blocks q r)
  pub is_free : free q block ≡ true
  pub after : block ≤ k
  pub before : k < block + size q block / 4

-- a block in use of the area starts at i
abbrev pub in_use_at : List ℕ → Area → ℕ → Bool
in_use_at q r i = any (eqb i) (blocks q r) && not (free q i)

-- the bytes of the block of p at i, if it was in use and no block in use of q starts there
abbrev pub gone_size : List ℕ → List ℕ → Area → ℕ → ℕ
gone_size p q r i = cond (not (free p i) && not (in_use_at q r i)) (size p i) 0

-- the bytes of the blocks of an area that were in use and are gone
abbrev pub gone_bytes : List ℕ → List ℕ → Area → ℕ
gone_bytes p q r = total (gone_size p q r) (blocks p r)

-- the jobs of the tree are gone with all that they own, nothing is new, and nobody is current
pub record Takes (p q : List ℕ) (t : ℕ) : Type 0 where
  pub jobs : (k : ℕ) → used p Jobs k ≡ true → Under p t k → Gone q Jobs k
  pub channels : (k : ℕ) → used p Channels k ≡ true → Member p t (owner p Channels k) → Gone q Channels k
  -- each longword of a block of the tree is free
  pub freed : (r : Area) (i : ℕ) → In i (blocks p r) → free p i ≡ false → OfTheTree p t i → (k : ℕ) → i ≤ k → k < i + size p i / 4 → Free q r k
  -- each entry and each block in use was there before
  pub old_entries : (s : Table) (k : ℕ) → used q s k ≡ true → OldEntry p q s k
  pub old_blocks : (r : Area) (i : ℕ) → In i (blocks q r) → free q i ≡ false → OldBlock p q t r i
  -- the bytes given back are those of the blocks that are gone
  pub bytes : (r : Area) → free_bytes q (from q r) (upto q r) ≡ free_bytes p (from p r) (upto p r) + gone_bytes p q r
  pub current : word q current_word ≡ nobody

-- a member of the tree of the job at position t is active
pub record ActiveMember (p : List ℕ) (t : ℕ) : Type 0 where
  pub who : ℕ
  pub lives : used p Jobs who ≡ true
  pub under : Under p t who
  pub acts : active p who ≡ true
