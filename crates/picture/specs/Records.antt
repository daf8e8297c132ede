-- Document 01, "Job record" and "Channel record" (rules 7 and 8): the fields of the record of position k.
use Rattle.std.specs.Prelude.{ℕ, ◌+◌, ◌*◌, Bool, ◌&&◌, List, leb, ltb, eqb, ℤ, pos}
use Rattle.words.specs.Words.{word, put}
use Rattle.words.specs.Bits.{bit}
use Rattle.words.specs.Each.{every}
use Rattle.words.specs.Signed.{signed, bits, eq_z}
use Rattle.picture.specs.Layout.{mask_word, positions, width, first_record}
use Rattle.picture.specs.declared.Table.{Table}
use Rattle.picture.specs.declared.Table.TheVariants.{Jobs, Channels}

-- where the record of position k starts
abbrev pub slot : Table → ℕ → ℕ
slot t k = first_record t + width t * k

-- field f of the record of position k, and the picture with v there
abbrev pub field : List ℕ → Table → ℕ → ℕ → ℕ
field p t k f = word p (slot t k + f)

abbrev pub with_field : List ℕ → Table → ℕ → ℕ → ℕ → List ℕ
with_field p t k f v = put p (slot t k + f) v

-- rules 25 and 26: the record of position k is "all zero"
unfoldable pub all_zero : List ℕ → Table → ℕ → Bool
all_zero p t k = every (λ (f : ℕ). eqb (field p t k f) 0) (width t)

-- rules 7 and 8: of both tables: "number, owner, block base"
abbrev pub number_field : ℕ
number_field = 0

abbrev pub owner_field : ℕ
owner_field = 1

abbrev pub base_field : ℕ
base_field = 2

-- rule 7: of a job: "priority .., accumulated .., timeout .., number of the job waited for .., key to deliver"
abbrev pub priority_field : ℕ
priority_field = 3

abbrev pub accumulated_field : ℕ
accumulated_field = 4

abbrev pub timeout_field : ℕ
timeout_field = 5

abbrev pub wait_field : ℕ
wait_field = 6

abbrev pub key_field : ℕ
key_field = 7

-- rule 8: of a channel: its last longword, "1"
abbrev pub ending_field : ℕ
ending_field = 3

-- what the fields hold; a timeout is signed
abbrev pub number : List ℕ → Table → ℕ → ℕ
number p t k = field p t k number_field

abbrev pub owner : List ℕ → Table → ℕ → ℕ
owner p t k = field p t k owner_field

abbrev pub base : List ℕ → Table → ℕ → ℕ
base p t k = field p t k base_field

abbrev pub priority : List ℕ → ℕ → ℕ
priority p k = field p Jobs k priority_field

abbrev pub accumulated : List ℕ → ℕ → ℕ
accumulated p k = field p Jobs k accumulated_field

abbrev pub timeout : List ℕ → ℕ → ℤ
timeout p k = signed (field p Jobs k timeout_field)

abbrev pub waited_for : List ℕ → ℕ → ℕ
waited_for p k = field p Jobs k wait_field

abbrev pub delivered : List ℕ → ℕ → ℕ
delivered p k = field p Jobs k key_field

abbrev pub ending : List ℕ → ℕ → ℕ
ending p k = field p Channels k ending_field

-- the picture with a new value in one of them
abbrev pub with_number : List ℕ → Table → ℕ → ℕ → List ℕ
with_number p t k v = with_field p t k number_field v

abbrev pub with_owner : List ℕ → Table → ℕ → ℕ → List ℕ
with_owner p t k v = with_field p t k owner_field v

abbrev pub with_base : List ℕ → Table → ℕ → ℕ → List ℕ
with_base p t k v = with_field p t k base_field v

abbrev pub with_priority : List ℕ → ℕ → ℕ → List ℕ
with_priority p k v = with_field p Jobs k priority_field v

abbrev pub with_accumulated : List ℕ → ℕ → ℕ → List ℕ
with_accumulated p k v = with_field p Jobs k accumulated_field v

abbrev pub with_timeout : List ℕ → ℕ → ℤ → List ℕ
with_timeout p k z = with_field p Jobs k timeout_field (bits z)

abbrev pub with_wait : List ℕ → ℕ → ℕ → List ℕ
with_wait p k v = with_field p Jobs k wait_field v

abbrev pub with_key : List ℕ → ℕ → ℕ → List ℕ
with_key p k v = with_field p Jobs k key_field v

abbrev pub with_ending : List ℕ → ℕ → ℕ → List ℕ
with_ending p k v = with_field p Channels k ending_field v

-- the set of a table's positions in use, and the picture with m as that set
unfoldable pub members : List ℕ → Table → ℕ
members p t = word p (mask_word t)

unfoldable pub with_members : List ℕ → Table → ℕ → List ℕ
with_members p t m = put p (mask_word t) m

-- rule 5: "bit k: position k in use"
unfoldable pub used : List ℕ → Table → ℕ → Bool
used p t k = ltb k (positions t) && bit (members p t) k

-- rule 58: ready: priority at least 1 and timeout 0; active: priority at least 1
unfoldable pub ready : List ℕ → ℕ → Bool
ready p k = leb 1 (priority p k) && eq_z (timeout p k) (pos 0)

unfoldable pub active : List ℕ → ℕ → Bool
active p k = leb 1 (priority p k)
