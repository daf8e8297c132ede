-- The longwords of a picture of which a part was cleared.
use Prim.Native.Nat.{ℕ, zero, suc, ◌+◌, ◌≤◌, ◌<◌}
use mathlib.Core.Path.{◌≡◌, refl, ◌∙◌}
use mathlib.Core.List.{List}
use mathlib.Core.Logic.{⊎_elim, inl, inr}
use lib.ListN.{length, length-set}
use lib.Seq.{get_or-set_same, get_or-set_other}
use native.Mathlib.Omega.{arith}
use Rattle.words.specs.Words.{word, put, clear}
use Rattle.headers.specs.Header.{Outside}
use Rattle.headers.proofs.Header.{same_or_not}

pub clear_other : (n : ℕ) (p : List ℕ) (i j : ℕ) → Outside i (i + n) j → word (clear n p i) j ≡ word p j
unfolding clear
clear_other zero p i j h = refl
clear_other (suc n) p i j (inl h) = clear_other n (put p i 0) (i + 1) j (inl (omega arith)) ∙ get_or-set_other p i j 0 0 (omega arith)
clear_other (suc n) p i j (inr h) = clear_other n (put p i 0) (i + 1) j (inr (omega arith)) ∙ get_or-set_other p i j 0 0 (omega arith)

pub clear_zeros : (n : ℕ) (p : List ℕ) (i j : ℕ) → i + n ≤ length p → i ≤ j → j < i + n → word (clear n p i) j ≡ 0
unfolding clear
clear_zeros zero p i j h a b = absurd (omega arith)
clear_zeros (suc n) p i j h a b =
    ⊎_elim
    (λ (z : j ≡ i). clear_other n (put p i 0) (i + 1) j (inl (omega arith)) ∙ rw z (get_or-set_same p i 0 0 (omega arith)))
    (λ (x : j ≡ i → ⊥). clear_zeros n (put p i 0) (i + 1) j (simp length-set (omega arith)) (omega arith) (omega arith))
    (same_or_not j i)
