-- Taking entries out of the tables (rule 80): the jobs of a set m, the positions of a tree, and their channels.
use Rattle.std.specs.Prelude.{ℕ, Bool, ◌&&◌, not, cond, List, eqb, pos}
use Rattle.words.specs.Words.{clear}
use Rattle.words.specs.Bits.{bit}
use Rattle.picture.specs.Layout.{positions, width}
use Rattle.picture.specs.Records.{slot, members, with_members, owner, waited_for, with_timeout, with_wait, with_key, used}
use Rattle.picture.specs.declared.Table.{Table}
use Rattle.picture.specs.declared.Table.TheVariants.{Jobs, Channels}
use Rattle.freeing.specs.Sweep.{named}
use Rattle.calls.specs.Writes.{with_nobody}
use Rattle.masks.specs.Masks.{without, mask}
use Rattle.emptying.specs.Each.{each}

-- rule 81: the job at position k is outside the tree and waits for one of it
unfoldable pub waits : List ℕ → ℕ → ℕ → Bool
waits p m k = used p Jobs k && (not (bit m k) && (not (eqb (waited_for p k) 0) && named m (waited_for p k)))

-- rule 81: "has timeout and wait 0 and D3 as key to deliver"
unfoldable pub woken : ℕ → ℕ → List ℕ → ℕ → List ℕ
woken m key p k = cond (waits p m k) (with_key (with_wait (with_timeout p k (pos 0)) k 0) k key) p

-- the record of position k is zero if k is in the set
unfoldable pub blanked : Table → ℕ → List ℕ → ℕ → List ℕ
blanked t m p k = cond (bit m k) (clear (width t) p (slot t k)) p

-- the table without the entries of the set m
unfoldable pub emptied : List ℕ → Table → ℕ → List ℕ
emptied p t m = let q = each (blanked t m) (positions t) p in with_members q t (without (members q t) m)

-- the channel at position k is owned by a job of the tree
unfoldable pub channel_goes : List ℕ → ℕ → ℕ → Bool
channel_goes p m k = used p Channels k && named m (owner p Channels k)

-- the channels of the tree
unfoldable pub channels_of : List ℕ → ℕ → ℕ
channels_of p m = mask (channel_goes p m) (positions Channels)

-- rules 74 and 80: the picture without the jobs of m and the channels of c, whose waiters are delivered the key; nobody current
unfoldable pub taken : List ℕ → ℕ → ℕ → ℕ → List ℕ
taken p m c key = with_nobody (emptied (emptied (each (woken m key) (positions Jobs) p) Jobs m) Channels c)
