-- Needs no belief: the test of which it is a part is equal to `sound`, by `tested_is` (sound/proofs/Fused.antt).
-- What the test for soundness looks at: a block agrees with some entry. Where there are as many blocks of the kind as entries, that is: they match one to one.
use Rattle.std.specs.Prelude.{ℕ, ◌*◌, ◌/◌, ◌%◌, Bool, ◌&&◌, not, List, ltb, eqb, get_or}
use Rattle.words.specs.Each.{every}
use Rattle.picture.specs.Layout.{positions}
use Rattle.picture.specs.Records.{owner, base}
use Rattle.picture.specs.declared.Table.{Table}
use Rattle.blocks.specs.Header.{holder}

-- the block at i and the record of position k agree: base and owner
unfoldable pub agrees : List ℕ → Table → ℕ → ℕ → Bool
agrees p t k i = eqb (base p t k) (4 * i) && eqb (owner p t k) (holder p i)

-- rules 42 and 44: the block at i agrees with some record of the table
unfoldable pub agreed : List ℕ → Table → ℕ → Bool
agreed p t i = not (every (λ (k : ℕ). not (agrees p t k i)) (positions t))

-- the position noted for the place of the block at i, and that the block agrees with its record
abbrev pub position_noted : List ℕ → ℕ → ℕ
position_noted l i = get_or l (i / 4 % 64) 0

unfoldable pub agreed_as_noted : List ℕ → Table → ℕ → List ℕ → Bool
agreed_as_noted p t i l = ltb (position_noted l i) (positions t) && agrees p t (position_noted l i) i
