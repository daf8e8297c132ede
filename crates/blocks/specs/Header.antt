-- Document 01, "Blocks: four header longwords, then room" (rule 13). The block at i starts at longword i.
use Rattle.std.specs.Prelude.{ℕ, ◌+◌, ◌*◌, ◌/◌, Bool, List, eqb}
use Rattle.words.specs.Words.{word, put}
use Rattle.picture.specs.declared.Table.{Table}
use Rattle.picture.specs.declared.Table.TheVariants.{Jobs, Channels}

abbrev pub header_width : ℕ
header_width = 4

-- where they stand in a block after the first, its length: kind, owner, start address
abbrev pub kind_field : ℕ
kind_field = 1

abbrev pub holder_field : ℕ
holder_field = 2

abbrev pub start_field : ℕ
start_field = 3

-- rule 14: "A queue's room: length n .., index of the oldest byte .., count .., 0, then the bytes"
abbrev pub queue_length_field : ℕ
queue_length_field = 4

abbrev pub queue_oldest_field : ℕ
queue_oldest_field = 5

abbrev pub queue_count_field : ℕ
queue_count_field = 6

abbrev pub queue_zero_field : ℕ
queue_zero_field = 7

abbrev pub queue_bytes_field : ℕ
queue_bytes_field = 8

-- rule 13: whole length in bytes
abbrev pub size : List ℕ → ℕ → ℕ
size p i = word p i

-- rule 13: kind 0 free, 1 plain, 2 queue, 3 job
abbrev pub kind : List ℕ → ℕ → ℕ
kind p i = word p (i + kind_field)

abbrev pub plain_kind : ℕ
plain_kind = 1

abbrev pub queue_kind : ℕ
queue_kind = 2

abbrev pub job_kind : ℕ
job_kind = 3

abbrev pub free : List ℕ → ℕ → Bool
free p i = eqb (kind p i) 0

-- the kind of the blocks that a table's entries have
abbrev pub kind_of : Table → ℕ
kind_of Jobs = job_kind
kind_of Channels = queue_kind

-- owner
abbrev pub holder : List ℕ → ℕ → ℕ
holder p i = word p (i + holder_field)

-- start address for a job, else 0
abbrev pub start : List ℕ → ℕ → ℕ
start p i = word p (i + start_field)

-- rule 14: what a queue's room holds
abbrev pub queue_length : List ℕ → ℕ → ℕ
queue_length p i = word p (i + queue_length_field)

abbrev pub queue_oldest : List ℕ → ℕ → ℕ
queue_oldest p i = word p (i + queue_oldest_field)

abbrev pub queue_count : List ℕ → ℕ → ℕ
queue_count p i = word p (i + queue_count_field)

abbrev pub queue_zero : List ℕ → ℕ → ℕ
queue_zero p i = word p (i + queue_zero_field)

-- the picture with a new value in one of these
abbrev pub with_size : List ℕ → ℕ → ℕ → List ℕ
with_size p i v = put p i v

abbrev pub with_kind : List ℕ → ℕ → ℕ → List ℕ
with_kind p i v = put p (i + kind_field) v

abbrev pub with_holder : List ℕ → ℕ → ℕ → List ℕ
with_holder p i v = put p (i + holder_field) v

abbrev pub with_start : List ℕ → ℕ → ℕ → List ℕ
with_start p i v = put p (i + start_field) v

abbrev pub with_queue_length : List ℕ → ℕ → ℕ → List ℕ
with_queue_length p i v = put p (i + queue_length_field) v

abbrev pub with_queue_oldest : List ℕ → ℕ → ℕ → List ℕ
with_queue_oldest p i v = put p (i + queue_oldest_field) v

abbrev pub with_queue_count : List ℕ → ℕ → ℕ → List ℕ
with_queue_count p i v = put p (i + queue_count_field) v

-- rule 14: n bytes rounded up to 16
abbrev pub rounded : ℕ → ℕ
rounded n = (n + 15) / 16 * 16
