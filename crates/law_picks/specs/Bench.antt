-- Pictures of ready jobs that are set up by hand, as the desk bench's picks want one (rule 132), and a full house, in which a job waits as long as
-- demand 3 lets it. That they are sound is a row of the desk bench's table (law_bench/specs/Table.antt).
use Rattle.std.specs.Prelude.{ℕ, zero, suc, ◌+◌, ◌-◌, ◌*◌, ◌/◌, ◌^◌, length, replicate}
use mathlib.Core.List.{List, [], ◌∷◌, ◌++◌, Memᴰ}
use Rattle.picture.specs.Layout.{nobody, positions, width, heap_base}
use Rattle.picture.specs.Records.{with_members}
use Rattle.picture.specs.Numbers.{number_of}
use Rattle.picture.specs.declared.Table.TheVariants.{Jobs, Channels}
use Rattle.picture.specs.Layout.{greatest_priority}
use Rattle.turns.specs.Pick.{picked, picked_number}
use Rattle.law_picks.specs.Stretch.{Stretch, pick_bound}

-- the picture's size and its heap, as in the session's first picture
abbrev pub bench_size : ℕ
bench_size = 1024

abbrev pub bench_heap : ℕ
bench_heap = 256

abbrev pub bench_transient : ℕ
bench_transient = bench_size - heap_base - bench_heap

-- a job's record with this number, owner, base and priority, all else 0
abbrev pub job_record : ℕ → ℕ → ℕ → ℕ → List ℕ
job_record n o b g = n ∷ o ∷ b ∷ g ∷ replicate (width Jobs - 4) 0

-- the record of a job at position k, made by job 0 as the k-th, with a block of 32 bytes, ready at priority g
abbrev pub record_of : ℕ → ℕ → List ℕ
record_of k g = job_record (number_of k k) 0 (4 * (heap_base + bench_heap) + 32 * (k - 1)) g

-- the records of jobs at these priorities from position k on, and their blocks
abbrev pub records : ℕ → List ℕ → List ℕ
records k [] = []
records k (g ∷ l) = record_of k g ++ records (k + 1) l

abbrev pub job_blocks : List ℕ → List ℕ
job_blocks [] = []
job_blocks (g ∷ l) = 32 ∷ 3 ∷ 0 ∷ 0 ∷ 0 ∷ 0 ∷ 0 ∷ 0 ∷ job_blocks l

-- A sound picture: the fresh one, with job 0 at priority g, after job 0 made one more job for each of these priorities.
-- In order: longwords 0 to 7 but for the set of jobs, the job records, the channel records, the heap (one free block), the transient area (job blocks, one free block).
unfoldable pub set_up : ℕ → List ℕ → List ℕ
set_up g l = with_members
    ((bench_size ∷ 0 ∷ length l ∷ 0 ∷ bench_heap ∷ 0 ∷ 0 ∷ 0 ∷ [])
    ++ (job_record 0 nobody 0 g
    ++ (records 1 l
    ++ (replicate (width Jobs * (positions Jobs - 1 - length l)) 0
    ++ (replicate (width Channels * positions Channels) 0
    ++ ((4 * bench_heap ∷ replicate (bench_heap - 1) 0)
    ++ (job_blocks l ++ ((4 * bench_transient - 32 * length l) ∷ replicate (bench_transient - 1 - 8 * length l) 0))))))))
    Jobs
    (2 ^ (1 + length l) - 1)

-- the numbers that n picks in a row answer
unfoldable pub answers : ℕ → List ℕ → List ℕ
answers zero p = []
answers (suc n) p = picked_number p ∷ answers n (picked p)

-- every position taken: the last job ready at priority g, all others at the greatest
abbrev pub full_house : ℕ → List ℕ
full_house g = set_up greatest_priority (replicate (positions Jobs - 2) greatest_priority ++ (g ∷ []))

abbrev pub last_position : ℕ
last_position = positions Jobs - 1

abbrev pub last_number : ℕ
last_number = number_of last_position last_position

-- the last job of a full house, ready all through, is in none of 1 + floor(3810 / g) picks in a row: demand 3's figure is the least
abbrev pub WaitsAsLong : ℕ → Type 0
WaitsAsLong g = Stretch last_number last_position g (full_house g) (answers (pick_bound g - 1) (full_house g)) × (Memᴰ last_number (answers (pick_bound g - 1) (full_house g)) → ⊥)
