-- "Each key is given only for its cause" (rule 62): the keys of a fresh picture, of an error's text, of the pick and of the tick, both ways.
use Rattle.std.specs.Prelude.{ℕ, suc, ◌+◌, ◌%◌, ◌≤◌, ◌<◌, ◌≡◌, true, false, List, ℤ, pos, negsuc, length}
use Rattle.picture.specs.Keys.{done, out_of_range, not_found, not_sound}
use Rattle.picture.specs.Layout.{nobody, least_size, greatest_size, heap_base}
use Rattle.sound.specs.Sound.{sound}
use Rattle.fresh.specs.Fresh.{fresh_key}
use Rattle.errors.specs.Text.{length_word, error_key}
use Rattle.manager.specs.Turn.{pick_answer, tick_key}

-- the key is 0 exactly where it is good, and the refusal's exactly where it isn't
pub record KeyExactly (good : Type 0) (key refusal : ℤ) : Type 0 where
  pub done_where : good → key ≡ done
  pub done_only : key ≡ done → good
  pub refused_where : (good → ⊥) → key ≡ refusal
  pub refused_only : key ≡ refusal → good → ⊥

-- "N .. 1,024 to 16,384, a multiple of 4", the lent length; "H is a multiple of 4, at least 4, and leaves the transient area at least 4"
pub record GoodSizes (length n h : ℕ) : Type 0 where
  pub lent : length ≡ n
  pub least : least_size ≤ n
  pub most : n ≤ greatest_size
  pub fours : n % 4 ≡ 0
  pub heap_fours : h % 4 ≡ 0
  pub heap_least : 4 ≤ h
  pub transient_least : heap_base + h + 4 ≤ n

-- "A bad N or H, or a lent length other than N, answers -4"
abbrev pub FreshOnlyForItsCause : Type 0
FreshOnlyForItsCause = (p : List ℕ) (n h : ℕ) → KeyExactly (GoodSizes (length p) n h) (fresh_key p n h) out_of_range

-- the string whose length word stands at `at` isn't cut short
abbrev pub Whole : List ℕ → ℕ → Type 0
Whole text at = at + 2 + length_word text at ≤ length text

-- the length word of string n of the text stands at `at`, and no string before it is cut short
pub data StringStands (text : List ℕ) : ℕ → ℕ → Type 0 where
  first : StringStands text 0 0
  next : {n at : ℕ} → StringStands text n at → Whole text at → StringStands text (suc n) (at + 2 + length_word text at)

-- there is such a text: key -1 to -21 and its string of the system's text isn't cut short, or a positive key and the string at that offset of the driver's isn't
pub data HasText (system driver : List ℕ) : ℤ → Type 0 where
  system's : {n at : ℕ} → n < 21 → StringStands system n at → Whole system at → HasText system driver (negsuc n)
  driver's : {n : ℕ} → Whole driver (suc n) → HasText system driver (pos (suc n))

-- "Cut short, key below -21, or key 0: -7"
abbrev pub TextOnlyForItsCause : Type 0
TextOnlyForItsCause = (key : ℤ) (system driver : List ℕ) → KeyExactly (HasText system driver key) (error_key key system driver) not_found

-- "On an unsound picture both answer the key -16, pick with number $FFFFFFFF". A job picked may be delivered -16 as its own key, but then the number is its own.
pub record TurnKeys (p : List ℕ) : Type 0 where
  pub pick_refuses : sound p ≡ false → ((pick_answer p).number ≡ nobody) × ((pick_answer p).key ≡ not_sound)
  pub pick_refuses_only : (pick_answer p).number ≡ nobody → (pick_answer p).key ≡ not_sound → sound p ≡ false
  pub tick : KeyExactly (sound p ≡ true) (tick_key p) not_sound

abbrev pub TurnsOnlyForTheirCause : Type 0
TurnsOnlyForTheirCause = (p : List ℕ) → TurnKeys p
