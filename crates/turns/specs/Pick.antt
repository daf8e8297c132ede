-- Document 01, "Pick" (rules 99 to 102). A job at an unused position is never ready in a sound picture, where unused records are all zero.
use Rattle.std.specs.Prelude.{ℕ, zero, suc, ◌+◌, min, cond, ◌&&◌, ◌||◌, List, ltb, eqb, ℤ}
use Rattle.words.specs.Words.{put}
use Rattle.words.specs.Signed.{signed}
use Rattle.picture.specs.Layout.{nobody, current_word, positions}
use Rattle.picture.specs.Records.{accumulated_field, number, priority, accumulated, delivered, with_key, ready}
use Rattle.picture.specs.Keys.{done}
use Rattle.picture.specs.declared.Table.TheVariants.{Jobs}
use Rattle.picture.specs.Layout.{hold}
use Rattle.turns.specs.Fields.{set_each}
use Rattle.turns.specs.declared.Picked.{Picked}

-- the job at m, the number of positions for nobody; or the job at k where that is ready and has accumulated more
unfoldable pub preferred : List ℕ → ℕ → ℕ → ℕ
preferred p m k = cond (ready p k && (eqb m (positions Jobs) || ltb (accumulated p m) (accumulated p k))) k m

-- rule 99: "among ready jobs the greatest accumulated, lowest position on a tie": among the positions below n
unfoldable pub chosen_below : List ℕ → ℕ → ℕ
chosen_below p zero = positions Jobs
chosen_below p (suc n) = preferred p (chosen_below p n) n

-- the position of the job picked, the number of positions for nobody: in plain words `Chosen` (law_picks/specs/Stretch.antt),
-- by `chosen_is_who_the_rule_picks` (law_picks/proofs/Rule.antt)
unfoldable pub chosen_job : List ℕ → ℕ
chosen_job p = chosen_below p (positions Jobs)

-- rule 100: "accumulated 0; every other ready job gains its priority, held at 8,191"
unfoldable pub accumulated_after : List ℕ → ℕ → ℕ → ℕ
accumulated_after p m k = cond (eqb k m) 0 (cond (ready p k) (min hold (accumulated p k + priority p k)) (accumulated p k))

-- rule 100: "It becomes current", the others gain, and its key to deliver is cleared
unfoldable pub turn_given : List ℕ → ℕ → List ℕ
turn_given p m = put (with_key (set_each p accumulated_field (accumulated_after p m) (positions Jobs)) m 0) current_word (number p Jobs m)

-- rules 100 and 102: the picture after the pick; "Nobody ready: nobody current, nothing else moves"
unfoldable pub picked : List ℕ → List ℕ
picked p = cond (eqb (chosen_job p) (positions Jobs)) (put p current_word nobody) (turn_given p (chosen_job p))

-- rules 101 and 102: "Answer: number and its key to deliver"; nobody ready: "$FFFFFFFF and key 0"
unfoldable pub picked_number : List ℕ → ℕ
picked_number p = cond (eqb (chosen_job p) (positions Jobs)) nobody (number p Jobs (chosen_job p))

unfoldable pub picked_key : List ℕ → ℤ
picked_key p = cond (eqb (chosen_job p) (positions Jobs)) done (signed (delivered p (chosen_job p)))

abbrev pub answer : List ℕ → Picked
answer p = record { number = picked_number p; key = picked_key p }
