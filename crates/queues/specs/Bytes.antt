-- Document 01 (rule 14): "then the bytes, most significant byte of a longword first".
use Rattle.std.specs.Prelude.{ℕ, ◌+◌, ◌-◌, ◌*◌, ◌/◌, ◌%◌, ◌^◌, List}
use Rattle.words.specs.Words.{word, put}
use Rattle.blocks.specs.Header.{queue_bytes_field}

-- what a 1 in byte j of a queue is worth within its longword
unfoldable pub weight : ℕ → ℕ
weight j = 256 ^ (3 - j % 4)

-- the byte of weight v in the longword w
abbrev pub byte_in : ℕ → ℕ → ℕ
byte_in w v = w / v % 256

-- the longword w with b as its byte of weight v
abbrev pub with_byte_in : ℕ → ℕ → ℕ → ℕ
with_byte_in w v b = w - byte_in w v * v + b * v

-- the longword in which byte j of the queue at i stands: those of the header and the first four of its room come before
abbrev pub byte_word : ℕ → ℕ → ℕ
byte_word i j = i + queue_bytes_field + j / 4

-- byte j of the queue at i
unfoldable pub byte_at : List ℕ → ℕ → ℕ → ℕ
byte_at p i j = byte_in (word p (byte_word i j)) (weight j)

-- rule 96: the picture with b as byte j of the queue at i
unfoldable pub with_byte_at : List ℕ → ℕ → ℕ → ℕ → List ℕ
with_byte_at p i j b = put p (byte_word i j) (with_byte_in (word p (byte_word i j)) (weight j) b)
