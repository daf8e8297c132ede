-- A line of which only the first characters are kept: as many as the room for it has, which is more than a good line has. Assumes nothing.
use mathlib.Core.Path.{◌≡◌, refl, sym, ap, ◌∙◌}
use mathlib.Core.Bool.{Bool, true, false}
use mathlib.Core.List.{List, [], ◌∷◌, ◌++◌, append-nil}
use Prim.Native.Nat.{ℕ, zero, suc, ◌+◌, ◌<◌, ◌≤◌, min}
use native.Mathlib.Omega.{arith}
use borrow.Author.Tests.{leb-true, leb-false, ltb-true, ltb-false}
use lib.Dec.{leb, ltb}
use lib.ListN.{length, take, set, length-take, length-set}
use lib.Seq.{sets, take_all, take-suc-set, take-append-le, append_snoc, length-take-le}
use Rattle.program_lines.specs.Frames.{frame}
use Rattle.program_digits.proofs.Reader.{stores_past}
use Rattle.program_lines.proofs.Meaning.{long_bad}

-- a line of more than 512 characters is bad whatever it holds, so that many of it are enough
pub frame_kept : (n : ℕ) (s : List ℕ) → 512 < n → frame (take n s) ≡ frame s
frame_kept n s l = go (leb (length s) n) refl
  where
    go : (b : Bool) → leb (length s) n ≡ b → frame (take n s) ≡ frame s
    go true e = ap frame (take_all n s (leb-true (length s) n e))
    go false e =
        let m : n < length s = leb-false (length s) n e in
        let k : length (take n s) ≡ n = length-take-le n s (omega arith) in
        long_bad (take n s) (omega arith) ∙ sym (long_bad s (omega arith))

-- what is kept of a line and then more of it keeps as much as the whole does
pub kept_more : (n : ℕ) (s t : List ℕ) → take n (take n s ++ t) ≡ take n (s ++ t)
kept_more zero s t = refl
kept_more (suc n) [] t = refl
kept_more (suc n) (c ∷ s) t = ap (λ (r : List ℕ). c ∷ r) (kept_more n s t)

-- a part put behind k characters in a room: the room then has the line as far as it goes
pub kept_in_room : (a : List ℕ) (k : ℕ) (t : List ℕ) → k ≤ length a → take (min (length a) (k + length t)) (sets a k t) ≡ take (length a) (take k a ++ t)
kept_in_room a k [] l =
    let z : min (length a) (k + 0) ≡ k = omega arith in
    let m : length (take k a) ≤ length a = rw (length-take k a) (omega arith) in
    rw (z, append-nil) (sym (take_all (length a) (take k a) m))
kept_in_room a k (c ∷ t) l = go (ltb k (length a)) refl (λ m. kept_in_room (set a k c) (suc k) t m)
  where
    go : (b : Bool) → ltb k (length a) ≡ b
        → (suc k ≤ length (set a k c) → take (min (length (set a k c)) (suc k + length t)) (sets (set a k c) (suc k) t) ≡ take (length (set a k c)) (take (suc k) (set a k c) ++ t))
        → take (min (length a) (k + suc (length t))) (sets a k (c ∷ t)) ≡ take (length a) (take k a ++ c ∷ t)
    go true e h =
        let m : k < length a = ltb-true k (length a) e in
        let f : suc k ≤ length (set a k c) = rw (length-set a k c) (omega arith) in
        let z : k + suc (length t) ≡ suc k + length t = omega arith in
        rw (z) (rw (length-set a k c, take-suc-set a k c m, append_snoc (take k a) c t) at (h f))
    go false e h =
        let m : length a ≤ k = ltb-false k (length a) e in
        let z : min (length a) (k + suc (length t)) ≡ length a = omega arith in
        let y : k ≡ length a = omega arith in
        let w : length a ≤ length (take k a) = rw (length-take k a) (omega arith) in
        rw (z, stores_past a k (c ∷ t) m, take-append-le (length a) (take k a) (c ∷ t) w, take_all k a (omega arith))
