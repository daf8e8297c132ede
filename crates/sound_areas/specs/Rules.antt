-- The rules of soundness for the block at i, in document 01's order.
use Rattle.std.specs.Prelude.{ℕ, ◌+◌, ◌-◌, ◌/◌, ◌%◌, Bool, ◌&&◌, ◌||◌, not, List, leb, ltb, eqb}
use Rattle.picture.specs.Layout.{nobody, upto}
use Rattle.picture.specs.Numbers.{live}
use Rattle.picture.specs.declared.Table.TheVariants.{Jobs}
use Rattle.picture.specs.declared.Area.{Area}
use Rattle.picture.specs.declared.Area.TheVariants.{Heap, Transient}
use Rattle.blocks.specs.Header.{size, kind, queue_kind, job_kind, free, holder, start, queue_length, queue_oldest, queue_count, queue_zero, rounded}
use Rattle.blocks.specs.Walk.{next}

-- rule 34: "whole length in bytes (a multiple of 16, at least 16)"
unfoldable pub length_whole : List ℕ → ℕ → Bool
length_whole p i = eqb (size p i % 16) 0 && leb 16 (size p i)

-- rule 35: "kind 0 free, 1 plain, 2 queue, 3 job"
unfoldable pub kind_known : List ℕ → ℕ → Bool
kind_known p i = leb (kind p i) 3

-- rule 36: "start address for a job, else 0"
unfoldable pub start_zero : List ℕ → ℕ → Bool
start_zero p i = eqb (kind p i) job_kind || eqb (start p i) 0

-- rule 37: "A free header is length, 0, 0, 0"
unfoldable pub free_blank : List ℕ → ℕ → Bool
free_blank p i = not (free p i) || (eqb (holder p i) 0 && eqb (start p i) 0)

-- rule 38: "A queue's room: length n (1 to 32,766, the block being 32 + n rounded up to 16), index of the oldest byte (below n), count (0 to n), 0"
abbrev pub longest_queue : ℕ
longest_queue = 32766

unfoldable pub queue_room : List ℕ → ℕ → Bool
queue_room p i = not (eqb (kind p i) queue_kind)
    || (leb 1 (queue_length p i)
    && (leb (queue_length p i) longest_queue
    && (eqb (size p i) (rounded (32 + queue_length p i))
    && (ltb (queue_oldest p i) (queue_length p i)
    && (leb (queue_count p i) (queue_length p i) && eqb (queue_zero p i) 0)))))

-- rule 39: "blocks tile each area exactly": the block ends within its area, which ends at e
unfoldable pub tiles : List ℕ → ℕ → ℕ → Bool
tiles p e i = leb (size p i / 4) (e - i)

-- rule 40: "no two free blocks touch within an area": not free, or the last, or the next isn't free
unfoldable pub untouched : List ℕ → ℕ → ℕ → Bool
untouched p e i = not (free p i) || (leb e (next p i e) || not (free p (next p i e)))

-- rule 41: "kinds 1 and 2 only in the heap, kind 3 only in the transient area"
unfoldable pub kind_fits : List ℕ → Area → ℕ → Bool
kind_fits p Heap i = not (eqb (kind p i) job_kind)
kind_fits p Transient i = free p i || leb job_kind (kind p i)

-- rule 48: "every owner is live, or $FFFFFFFF for a job"
unfoldable pub holder_live : List ℕ → ℕ → Bool
holder_live p i = free p i || ((eqb (kind p i) job_kind && eqb (holder p i) nobody) || live p Jobs (holder p i))
