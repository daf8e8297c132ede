-- The queue of a channel, what closing a channel does to the picture, and the timeout of a call.
use Rattle.std.specs.Prelude.{ℕ, ◌/◌, Bool, List, eqb}
use Rattle.words.specs.Words.{clear, low_word}
use Rattle.picture.specs.Layout.{width, from, upto}
use Rattle.picture.specs.Records.{slot, base, members, with_members}
use Rattle.picture.specs.declared.Table.{Table}
use Rattle.picture.specs.declared.Table.TheVariants.{Channels}
use Rattle.picture.specs.declared.Area.TheVariants.{Heap}
use Rattle.freeing.specs.Sweep.{swept}
use Rattle.calls.specs.Registers.{D3}
use Rattle.masks.specs.Masks.{without_bit}

-- the queue of the channel at position k: its block
abbrev pub queue_of : List ℕ → ℕ → ℕ
queue_of p k = base p Channels k / 4

-- the entry of position k is gone: its record zero, its bit clear
unfoldable pub forgotten : List ℕ → Table → ℕ → List ℕ
forgotten p t k = with_members (clear (width t) p (slot t k)) t (without_bit (members p t) k)

-- rule 92: the channel at position k is gone: "its block is freed"
unfoldable pub closed : List ℕ → ℕ → List ℕ
closed p k = forgotten (swept p (from p Heap) (upto p Heap) 0 (queue_of p k)) Channels k

-- rule 93: "D3's low word 0"
unfoldable pub immediate : List ℕ → Bool
immediate d = eqb (low_word (D3 d)) 0
