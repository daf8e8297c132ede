-- The free position of a table is not in use, so in a sound picture its record is all zero.
use Prim.Native.Nat.{ℕ, ◌<◌}
use mathlib.Core.Path.{◌≡◌, ◌∙◌}
use mathlib.Core.Bool.{true, false}
use mathlib.Core.List.{List}
use Rattle.words.specs.Words.{word}
use Rattle.masks.proofs.Lowest.{Lowest, lowest_clear_is}
use Rattle.picture.specs.Layout.{positions, heap_base}
use Rattle.picture.specs.Records.{all_zero, members, used}
use Rattle.picture.specs.Numbers.{free_position}
use Rattle.picture.specs.declared.Table.{Table}
use Rattle.picture.proofs.Records.{used_is, all_zero_by, all_zero_same}
use Rattle.sound.specs.Sound.{sound}
use Rattle.sound_facts.proofs.Sound.{Entries, entries_of}
use Rattle.sound_facts.proofs.View.{view}

pub free_position_is_free : (p : List ℕ) (t : Table) → free_position p t < positions t → used p t (free_position p t) ≡ false
unfolding free_position
free_position_is_free p t l = used_is p t _ l ∙ (lowest_clear_is (positions t) (members p t)).free l

-- it is, and it stays so while the longwords before the heap stay
pub free_record_is_zero : (p : List ℕ) → sound p ≡ true → (t : Table) → free_position p t < positions t → all_zero p t (free_position p t) ≡ true
free_record_is_zero p s t l = all_zero_by p t _ (λ f m. (entries_of p (view p s) t).unused (free_position p t) f l m (free_position_is_free p t l))

pub free_record_stays_zero : (p q : List ℕ) → sound p ≡ true → (t : Table) → free_position p t < positions t → ((j : ℕ) → j < heap_base → word q j ≡ word p j)
    → all_zero q t (free_position p t) ≡ true
free_record_stays_zero p q s t l h = all_zero_same p q t (free_position p t) l h ∙ free_record_is_zero p s t l
