-- Document 01 (rule 60): "Fresh: N, H and job mask set, job 0 unowned, at priority 32 and current, two whole free blocks, all else 0."
use Rattle.std.specs.Prelude.{ℕ, ◌+◌, ◌-◌, ◌*◌, Bool, ◌&&◌, cond, List, length, replicate, ℤ, eqb}
use Rattle.words.specs.Words.{put}
use Rattle.picture.specs.Layout.{nobody, size_word, heap_word, heap_base}
use Rattle.picture.specs.Records.{slot, owner_field, priority_field, with_members}
use Rattle.picture.specs.Keys.{done, out_of_range}
use Rattle.picture.specs.declared.Table.TheVariants.{Jobs}
use Rattle.sound_whole.specs.Whole.{size_within, heap_within}

-- job 0 starts at this priority
abbrev pub first_priority : ℕ
first_priority = 32

-- rule 60: a fresh picture of n longwords, h of them the heap; job 0 is current, whose number is 0
unfoldable pub fresh : ℕ → ℕ → List ℕ
fresh n h =
    put (put (put (put (with_members (put (put (replicate n 0)
    size_word n)
    heap_word h)
    Jobs 1)
    (slot Jobs 0 + owner_field) nobody)
    (slot Jobs 0 + priority_field) first_priority)
    heap_base (h * 4))
    (heap_base + h) ((n - (heap_base + h)) * 4)

-- rule 61: "A bad N or H, or a lent length other than N, answers -4 and writes nothing."
unfoldable pub fresh_good : ℕ → ℕ → ℕ → Bool
fresh_good length n h = eqb length n && (size_within n && heap_within n h)

unfoldable pub fresh_key : List ℕ → ℕ → ℕ → ℤ
fresh_key p n h = cond (fresh_good (length p) n h) done out_of_range

unfoldable pub fresh_picture : List ℕ → ℕ → ℕ → List ℕ
fresh_picture p n h = cond (fresh_good (length p) n h) (fresh n h) p
