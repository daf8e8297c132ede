-- Document 01 (rule 13): "Header: whole length in bytes ..; kind ..; owner; start address for a job, else 0."
use Rattle.std.specs.Prelude.{ℕ, ◌<◌, ◌≤◌, List, ◌⊎◌}
use Rattle.blocks.specs.Header.{with_size, with_kind, with_holder, with_start}

-- the picture with length n, kind k, owner o and start address s in the header of the block at i
unfoldable pub header : List ℕ → ℕ → ℕ → ℕ → ℕ → ℕ → List ℕ
header p i n k o s = with_start (with_holder (with_kind (with_size p i n) i k) i o) i s

-- outside the longwords from a up to b
abbrev pub Outside : ℕ → ℕ → ℕ → Type 0
Outside a b k = (k < a) ⊎ (b ≤ k)
