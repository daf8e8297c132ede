-- Rule 97 in words: what placing a block in an area leaves. An area is the longwords from base up to e.
use Rattle.std.specs.Prelude.{ℕ, ◌+◌, ◌-◌, ◌/◌, ◌≤◌, ◌<◌, ◌≡◌, ◌⊎◌, List, length}
use Rattle.words.specs.Words.{word}
use Rattle.words.specs.Each.{In}
use Rattle.blocks.specs.Header.{size, kind, holder, start}
use Rattle.blocks.specs.Walk.{starts}
use Rattle.headers.specs.Header.{Outside}
use Rattle.law_areas.specs.Area.{Tiled, Apart, Blank, bytes, free_bytes, used_bytes}

-- q is p with n bytes of kind k, owner o and start address s placed at i in the area from base to e
pub record Placed (p q : List ℕ) (base e i n k o s : ℕ) : Type 0 where
  pub as_long : length q ≡ length p
  pub outside : (j : ℕ) → Outside base e j → word q j ≡ word p j
  -- the new block
  pub there : In i (starts q base e)
  pub its_size : size q i ≡ n
  pub its_kind : kind q i ≡ k
  pub its_owner : holder q i ≡ o
  pub its_start : start q i ≡ s
  pub its_room : (j : ℕ) → i + 4 ≤ j → j < i + n / 4 → word q j ≡ 0
  -- the rest stays free
  pub rest_there : n < size p i → In (i + n / 4) (starts q base e)
  pub rest_size : n < size p i → size q (i + n / 4) ≡ size p i - n
  pub rest_kind : n < size p i → kind q (i + n / 4) ≡ 0
  pub rest_owner : n < size p i → holder q (i + n / 4) ≡ 0
  pub rest_start : n < size p i → start q (i + n / 4) ≡ 0
  pub rest_room : n < size p i → (j : ℕ) → i + n / 4 + 4 ≤ j → j < i + size p i / 4 → word q j ≡ word p j
  -- every other block is as it was, and there are no more
  pub stays : (j : ℕ) → In j (starts p base e) → (j ≡ i → ⊥) → In j (starts q base e)
  pub keeps : (j : ℕ) → In j (starts p base e) → (j ≡ i → ⊥) → (w : ℕ) → j ≤ w → w < j + size p j / 4 → word q w ≡ word p w
  pub only : (j : ℕ) → In j (starts q base e) → (j ≡ i) ⊎ (((n < size p i) × (j ≡ i + n / 4)) ⊎ (In j (starts p base e) × (j ≡ i → ⊥)))
  -- what tiles and has no two free neighbours still does
  pub tiled : Tiled q base e
  pub apart : Apart p base e → Apart q base e
  pub blank : Blank p base e → Blank q base e
  -- the bytes stay the same; n of them are no longer free but in use
  pub same_bytes : bytes q base e ≡ bytes p base e
  pub less_free : free_bytes q base e + n ≡ free_bytes p base e
  pub more_used : used_bytes q base e ≡ used_bytes p base e + n
