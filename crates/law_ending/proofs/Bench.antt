-- A worked example: job 2 owns job 3, which owns job 1 and a queue; job 4, outside the tree, waits for job 3.
use Prim.Native.Nat.{ℕ}
use mathlib.Core.Path.{◌≡◌, refl}
use mathlib.Core.Bool.{true}
use mathlib.Core.List.{List, [], ◌∷◌}
use lib.ListN.{replicate}
use lib.Seq.{sets}
use Rattle.words.specs.Words.{clear}
use Rattle.words.specs.Signed.{bits}
use Rattle.picture.specs.Layout.{nobody, without_end}
use Rattle.picture.specs.Records.{members, with_members, used}
use Rattle.blocks.specs.Walk.{good, next, starts_within, starts}
use Rattle.headers.specs.Header.{header}
use Rattle.sound.specs.Sound.{sound}
use Rattle.sound_facts.proofs.Worked.{computed}
use Rattle.freeing.specs.Sweep.{goes, freed, absorbed, joined, run, swept}
use Rattle.masks.specs.Masks.{with_bit, without, mask}
use Rattle.tree.specs.Tree.{climbs, in_tree, tree}
use Rattle.emptying.specs.Each.{each}
use Rattle.emptying.specs.Taken.{waits, woken, blanked, emptied, channel_goes, channels_of, taken}
use Rattle.ending.specs.Ended.{returned, ended}

tables : List ℕ → List ℕ
tables p =
    sets (sets (sets (sets (sets (sets (sets p 0 (1024 ∷ 0 ∷ 4 ∷ 1 ∷ 256 ∷ 31 ∷ 1 ∷ 0 ∷ []))
    8 (0 ∷ nobody ∷ 0 ∷ 32 ∷ []))
    16 (196609 ∷ 131075 ∷ 2720 ∷ []))
    24 (65538 ∷ nobody ∷ 2592 ∷ []))
    32 (131075 ∷ 65538 ∷ 2656 ∷ []))
    40 (262148 ∷ 0 ∷ 2784 ∷ 5 ∷ 0 ∷ bits without_end ∷ 131075 ∷ 0 ∷ []))
    264 (65536 ∷ 131075 ∷ 1600 ∷ 1 ∷ [])

heap : List ℕ → List ℕ
heap p =
    sets (sets (sets (sets p 392 (32 ∷ 1 ∷ 196609 ∷ 0 ∷ 11 ∷ []))
    400 (48 ∷ 2 ∷ 131075 ∷ 0 ∷ 9 ∷ 0 ∷ 0 ∷ 0 ∷ []))
    412 (16 ∷ 1 ∷ 262148 ∷ 0 ∷ []))
    416 (928 ∷ [])

transient : List ℕ → List ℕ
transient p =
    sets (sets (sets (sets (sets p 648 (64 ∷ 3 ∷ nobody ∷ 0 ∷ []))
    664 (64 ∷ 3 ∷ 65538 ∷ 0 ∷ []))
    680 (64 ∷ 3 ∷ 131075 ∷ 0 ∷ []))
    696 (64 ∷ 3 ∷ 0 ∷ 0 ∷ []))
    712 (1248 ∷ [])

before : List ℕ
before = transient (heap (tables (replicate 1024 0)))

-- jobs 0 and 4 are left; 11 and 9 are old bytes
after : List ℕ
after =
    sets (sets (sets (sets (sets (sets (sets (sets (sets (sets (sets (replicate 1024 0) 0 (1024 ∷ nobody ∷ 4 ∷ 1 ∷ 256 ∷ 17 ∷ 0 ∷ 0 ∷ []))
    8 (0 ∷ nobody ∷ 0 ∷ 32 ∷ []))
    40 (262148 ∷ 0 ∷ 2784 ∷ 5 ∷ 0 ∷ 0 ∷ 0 ∷ 7 ∷ []))
    392 (80 ∷ []))
    396 (11 ∷ []))
    404 (9 ∷ []))
    412 (16 ∷ 1 ∷ 262148 ∷ 0 ∷ []))
    416 (928 ∷ []))
    648 (192 ∷ []))
    696 (64 ∷ 3 ∷ 0 ∷ 0 ∷ []))
    712 (1248 ∷ [])

-- both pictures are sound: the laws speak of something
before_is_sound : sound before ≡ true
unfolding tables heap transient before computed
before_is_sound = refl

after_is_sound : sound after ≡ true
unfolding after computed
after_is_sound = refl

-- the tree of job 2: positions 1, 2, 3
the_tree : tree before 2 ≡ 14
unfolding tables heap transient before climbs in_tree mask tree used with_bit members
the_tree = refl

the_end : ended before 2 7 ≡ after
unfolding tables heap transient before after climbs in_tree mask tree used channel_goes channels_of ended returned swept goes freed absorbed joined run starts starts_within next good header clear taken each woken waits emptied blanked with_bit members with_members without
the_end = refl
