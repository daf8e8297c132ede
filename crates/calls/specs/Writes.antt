-- What calls write into a picture, besides blocks and records.
use Rattle.std.specs.Prelude.{ℕ, List}
use Rattle.words.specs.Words.{put}
use Rattle.picture.specs.Layout.{nobody, current_word}

-- rule 74: "leave nobody current"
abbrev pub with_nobody : List ℕ → List ℕ
with_nobody p = put p current_word nobody
