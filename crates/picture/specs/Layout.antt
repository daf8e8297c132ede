-- Document 01, "The picture" (rules 3 and 4): what each longword holds. Every number of the layout has its one home here.
use Rattle.std.specs.Prelude.{ℕ, ◌+◌, ◌*◌, ◌/◌, List, ℤ, negsuc}
use Rattle.words.specs.Words.{word}
use Rattle.picture.specs.declared.Table.{Table}
use Rattle.picture.specs.declared.Table.TheVariants.{Jobs, Channels}
use Rattle.picture.specs.declared.Area.{Area}
use Rattle.picture.specs.declared.Area.TheVariants.{Heap, Transient}

-- $FFFFFFFF: nobody
abbrev pub nobody : ℕ
nobody = 0xFFFF_FFFF

-- rules 3 and 4: longword 0 holds N, 1,024 to 16,384
abbrev pub size_word : ℕ
size_word = 0

abbrev pub least_size : ℕ
least_size = 1024

abbrev pub greatest_size : ℕ
greatest_size = 16384

-- longword 1 the current job number
abbrev pub current_word : ℕ
current_word = 1

-- longwords 2, 3 the last job tag given, the last channel tag given
abbrev pub last_word : Table → ℕ
last_word Jobs = 2
last_word Channels = 3

-- rule 10: tags run to 32,767
abbrev pub greatest_tag : ℕ
greatest_tag = 32767

-- longword 4 the heap length H in longwords
abbrev pub heap_word : ℕ
heap_word = 4

-- longwords 5, 6 the job mask, the channel mask
abbrev pub mask_word : Table → ℕ
mask_word Jobs = 5
mask_word Channels = 6

-- longword 7 holds 0
abbrev pub zero_word : ℕ
zero_word = 7

-- 32 job records of 8 from longword 8 on, then 32 channel records of 4
abbrev pub positions : Table → ℕ
positions Jobs = 32
positions Channels = 32

abbrev pub width : Table → ℕ
width Jobs = 8
width Channels = 4

abbrev pub first_job : ℕ
first_job = 8

abbrev pub first_record : Table → ℕ
first_record Jobs = first_job
first_record Channels = first_job + width Jobs * positions Jobs

-- then, from the next multiple of 4 on, the heap (H longwords), then the transient area
abbrev pub heap_base : ℕ
heap_base = (first_record Channels + width Channels * positions Channels + 3) / 4 * 4

abbrev pub from : List ℕ → Area → ℕ
from p Heap = heap_base
from p Transient = heap_base + word p heap_word

abbrev pub upto : List ℕ → Area → ℕ
upto p Heap = heap_base + word p heap_word
upto p Transient = word p size_word

-- rule 7: priorities run to 127, accumulated to 8,191, timeouts to 32,767 frames
abbrev pub greatest_priority : ℕ
greatest_priority = 127

abbrev pub hold : ℕ
hold = 8191

abbrev pub greatest_timeout : ℕ
greatest_timeout = 32767

-- rule 7: timeout -1: without end
abbrev pub without_end : ℤ
without_end = negsuc 0
