-- Laws of specs/Words.antt.
use Prim.Native.Nat.{ℕ, zero, suc, ◌+◌, ◌-◌, ◌≤◌, ◌<◌}
use mathlib.Core.Path.{◌≡◌, refl, sym, ap, ◌∙◌}
use mathlib.Core.List.{List, [], ◌∷◌}
use lib.ListN.{length, length-set}
use native.Mathlib.Omega.{arith}
use Rattle.words.specs.Words.{word, put, clear}

-- clearing up to `upto`, a longword at a time
pub clear_end : (p : List ℕ) (i upto : ℕ) → upto ≤ i → clear (upto - i) p i ≡ p
unfolding clear
clear_end p i upto h = let z : upto - i ≡ 0 = omega arith in rw z

pub clear_more : (p : List ℕ) (i upto : ℕ) → i < upto → clear (upto - i) p i ≡ clear (upto - (i + 1)) (put p i 0) (i + 1)
unfolding clear
clear_more p i upto l = let z : upto - i ≡ suc (upto - (i + 1)) = omega arith in rw z

pub length_clear : (n : ℕ) (p : List ℕ) (i : ℕ) → length (clear n p i) ≡ length p
unfolding clear
length_clear zero p i = refl
length_clear (suc n) p i = length_clear n (put p i 0) (i + 1) ∙ simp length-set

-- clearing what is zero changes nothing
put_zero : (p : List ℕ) (i : ℕ) → word p i ≡ 0 → put p i 0 ≡ p
put_zero [] i h = refl
put_zero (x ∷ p) zero h = ap (λ (y : ℕ). y ∷ p) (sym h)
put_zero (x ∷ p) (suc i) h = ap (λ (l : List ℕ). x ∷ l) (put_zero p i h)

pub clear_zero : (n : ℕ) (p : List ℕ) (i : ℕ) → ((j : ℕ) → j < n → word p (i + j) ≡ 0) → clear n p i ≡ p
unfolding clear
clear_zero zero p i h = refl
clear_zero (suc n) p i h =
    let z : i + 0 ≡ i = omega arith in
    let here : word p i ≡ 0 = rw z at (h 0 (omega arith)) in
    rw (put_zero p i here) (clear_zero n p (i + 1) (λ j l. let z : i + 1 + j ≡ i + suc j = omega arith in rw z (h (suc j) (omega arith))))
