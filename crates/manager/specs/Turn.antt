-- Document 01, pick and tick (rule 104): "On an unsound picture both answer the key -16, pick with number $FFFFFFFF."
use Rattle.std.specs.Prelude.{ℕ, cond, List, ℤ}
use Rattle.picture.specs.Layout.{nobody}
use Rattle.picture.specs.Keys.{done, not_sound}
use Rattle.sound.specs.Sound.{sound}
use Rattle.turns.specs.Pick.{picked, answer}
use Rattle.turns.specs.Tick.{ticked}
use Rattle.turns.specs.declared.Picked.{Picked}

unfoldable pub pick_answer : List ℕ → Picked
pick_answer p = cond (sound p) (answer p) (record { number = nobody; key = not_sound })

unfoldable pub pick_picture : List ℕ → List ℕ
pick_picture p = cond (sound p) (picked p) p

unfoldable pub tick_key : List ℕ → ℤ
tick_key p = cond (sound p) done not_sound

unfoldable pub ticking : List ℕ → List ℕ
ticking p = cond (sound p) (ticked p) p
