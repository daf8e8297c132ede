-- The first four bytes spell PIPE in either case exactly where their small letters do.
use Rattle.std.proofs.Common.{ℕ, ◌≡◌, ◌+◌, ◌≤◌, ◌<◌, ◌||◌, refl, Bool, true, false, List, [], ◌∷◌, length, take, map, arith}
use Rattle.std.specs.Char.{to_ascii_lowercase}
use Rattle.std.proofs.lemmas.Str.Ascii.{lowercase_is}
use lib.Dec.{eqb}
use lib.ListN.{get_or-eq_default}
use borrow.Author.Tests.{eqb-true, eq-eqb, ne_eqb}
use mathlib.Core.Logic.{⊎_elim}
use Rattle.words.proofs.Tests.{both, lt_or_ge, false_true}
use Rattle.names.specs.Names.{byte, letter, pipe}

-- a capital in either case, by its small letter
letter_by : (c b : ℕ) → 65 ≤ c → c ≤ 90 → to_ascii_lowercase b ≡ c + 32 → letter c b ≡ true
unfolding letter
letter_by c b l u h =
    ⊎_elim
    (λ (x : b < 65). let z = (lowercase_is b).1 x in absurd (omega arith))
    (λ (x : 65 ≤ b). ⊎_elim
    (λ (y : b < 91). let z = (lowercase_is b).0 (x, omega arith) in let e : b ≡ c = omega arith in rw (eq-eqb b c e))
    (λ (y : 91 ≤ b). let z = (lowercase_is b).2 (omega arith) in let e : b ≡ c + 32 = omega arith in rw (ne_eqb b c (λ n. omega arith), eq-eqb b (c + 32) e))
    (lt_or_ge b 91))
    (lt_or_ge b 65)

small_letter : (c b : ℕ) → 65 ≤ c → c ≤ 90 → letter c b ≡ true → to_ascii_lowercase b ≡ c + 32
unfolding letter
small_letter c b l u h = go (eqb b c) refl h
  where
    go : (t : Bool) → eqb b c ≡ t → t || eqb b (c + 32) ≡ true → to_ascii_lowercase b ≡ c + 32
    go true z e = let n : b ≡ c = eqb-true b c z in let m = (lowercase_is b).0 (omega arith, omega arith) in omega arith
    go false z e = let n : b ≡ c + 32 = eqb-true b (c + 32) e in let m = (lowercase_is b).2 (omega arith) in omega arith

-- a name that starts with PIPE has four bytes
pub pipe_long : (s : List ℕ) → pipe s ≡ true → 4 ≤ length s
unfolding pipe letter
pipe_long s h =
    let e : letter 69 (byte s 3) ≡ true = (both (letter 80 (byte s 2)) _ (both (letter 73 (byte s 1)) _ (both (letter 80 (byte s 0)) _ h).1).1).1 in
    ⊎_elim (λ (x : length s < 4). let z : byte s 3 ≡ 0 = get_or-eq_default s 0 (omega arith) in absurd (false_true (rw z at e))) (λ (x : 4 ≤ length s). x) (lt_or_ge (length s) 4)

pub spells : (s : List ℕ) → 4 ≤ length s → map to_ascii_lowercase (take 4 s) ≡ 112 ∷ 105 ∷ 112 ∷ 101 ∷ [] → pipe s ≡ true
unfolding pipe
spells [] l h = absurd (omega arith)
spells (a ∷ []) l h = absurd (omega arith)
spells (a ∷ b ∷ []) l h = absurd (omega arith)
spells (a ∷ b ∷ c ∷ []) l h = absurd (omega arith)
spells (a ∷ b ∷ c ∷ d ∷ s) l h =
    let x : to_ascii_lowercase a ≡ 112 = cc in
    let y : to_ascii_lowercase b ≡ 105 = cc in
    let z : to_ascii_lowercase c ≡ 112 = cc in
    let w : to_ascii_lowercase d ≡ 101 = cc in
    rw (letter_by 80 a (omega arith) (omega arith) x, letter_by 73 b (omega arith) (omega arith) y, letter_by 80 c (omega arith) (omega arith) z, letter_by 69 d (omega arith) (omega arith) w)

pub spelled : (s : List ℕ) → 4 ≤ length s → pipe s ≡ true → map to_ascii_lowercase (take 4 s) ≡ 112 ∷ 105 ∷ 112 ∷ 101 ∷ []
unfolding pipe
spelled [] l h = absurd (omega arith)
spelled (a ∷ []) l h = absurd (omega arith)
spelled (a ∷ b ∷ []) l h = absurd (omega arith)
spelled (a ∷ b ∷ c ∷ []) l h = absurd (omega arith)
spelled (a ∷ b ∷ c ∷ d ∷ s) l h =
    let u = both (letter 80 a) _ h in
    let v = both (letter 73 b) _ u.1 in
    let w = both (letter 80 c) (letter 69 d) v.1 in
    rw (small_letter 80 a (omega arith) (omega arith) u.0, small_letter 73 b (omega arith) (omega arith) v.0, small_letter 80 c (omega arith) (omega arith) w.0, small_letter 69 d (omega arith) (omega arith) w.1)
