-- A set of positions, kept as a mask: position k is a member where bit k of the number is set.
use Rattle.std.specs.Prelude.{ℕ, zero, suc, ◌+◌, ◌-◌, ◌/◌, ◌%◌, ◌^◌, Bool, cond, eqb}
use Rattle.std.specs.Int.Bits.{bit_and}
use Rattle.words.specs.Bits.{bit}

-- a set has room for the positions below 64
abbrev pub set_width : ℕ
set_width = 64

-- the set m with the member k
unfoldable pub with_bit : ℕ → ℕ → ℕ
with_bit m k = cond (bit m k) m (m + 2 ^ k)

-- the set m without the member k
unfoldable pub without_bit : ℕ → ℕ → ℕ
without_bit m k = cond (bit m k) (m - 2 ^ k) m

-- the members of n that aren't in m
unfoldable pub without : ℕ → ℕ → ℕ
without n m = bit_and n (2 ^ set_width - 1 - m)

-- the positions below n that pass f
unfoldable pub mask : (ℕ → Bool) → ℕ → ℕ
mask f zero = 0
mask f (suc n) = cond (f n) (with_bit (mask f n) n) (mask f n)

-- rule 71: the lowest position below n that isn't in m, n where all are: in plain words `Lowest`, by `lowest_clear_is` (masks/proofs/Lowest.antt)
unfoldable pub lowest_clear : ℕ → ℕ → ℕ
lowest_clear zero m = 0
lowest_clear (suc n) m = cond (eqb (m % 2) 0) 0 (suc (lowest_clear n (m / 2)))
