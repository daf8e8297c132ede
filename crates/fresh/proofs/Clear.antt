-- A picture that is cleared from its first longword to its last is all zero.
use Prim.Native.Nat.{ℕ, zero, suc, ◌+◌, ◌-◌, ◌≤◌, ◌<◌}
use mathlib.Core.Path.{◌≡◌, refl, sym, ◌∙◌}
use mathlib.Core.Logic.{⊎_elim}
use mathlib.Core.List.{List}
use native.Mathlib.Omega.{arith}
use lib.ListN.{length, replicate, length-set, length-replicate, get_or-replicate}
use lib.Seq.{get_or-set_same, get_or-set_other, ext_get_or}
use Rattle.words.specs.Words.{word, put, clear}
use Rattle.words.proofs.Words.{length_clear}
use Rattle.words.proofs.Tests.{lt_or_ge}

pub cleared_out : (n : ℕ) (p : List ℕ) (i j : ℕ) → j < i → word (clear n p i) j ≡ word p j
unfolding clear
cleared_out zero p i j l = refl
cleared_out (suc n) p i j l = cleared_out n (put p i 0) (i + 1) j (omega arith) ∙ get_or-set_other p i j 0 0 (λ e. omega arith)

pub cleared_in : (n : ℕ) (p : List ℕ) (i j : ℕ) → i ≤ j → j < i + n → i + n ≤ length p → word (clear n p i) j ≡ 0
unfolding clear
cleared_in zero p i j a b f = absurd (omega arith)
cleared_in (suc n) p i j a b f = ⊎_elim
    (λ (l : i < j). cleared_in n (put p i 0) (i + 1) j (omega arith) (omega arith) (simp length-set (omega arith)))
    (λ (l : j ≤ i). let e : j ≡ i = omega arith in rw e (cleared_out n (put p i 0) (i + 1) i (omega arith) ∙ get_or-set_same p i 0 0 (omega arith)))
    (lt_or_ge i j)

pub cleared_all : (p : List ℕ) (n : ℕ) → length p ≡ n → clear (n - 0) p 0 ≡ replicate n 0
cleared_all p n e =
    let z : n - 0 ≡ n = omega arith in
    rw z (ext_get_or 0 (clear n p 0) (replicate n 0) (length_clear n p 0 ∙ e ∙ sym (length-replicate n 0)) (λ i l.
    let m : i < n = rw (length_clear n p 0 ∙ e) at l in
    cleared_in n p 0 i (omega arith) (omega arith) (omega arith) ∙ sym (get_or-replicate n i 0 0 m)))
