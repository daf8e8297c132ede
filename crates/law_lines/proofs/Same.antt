-- What is written is read back as the same numbers. A number's digits are written from the last one up, each below those
-- written before it, so that no digit is written over; words are written upwards. Assumes nothing.
use mathlib.Core.Path.{◌≡◌, refl, ap, ◌∙◌}
use mathlib.Core.Bool.{Bool, true, false}
use mathlib.Core.Logic.{⊎_elim}
use mathlib.Core.List.{List, [], ◌∷◌}
use Prim.Native.Nat.{ℕ, zero, suc, ◌+◌, ◌-◌, ◌*◌, ◌/◌, ◌%◌, ◌^◌, ◌<◌, ◌≤◌}
use native.Mathlib.Nat.{pow-suc, eq-or-lt_of_le, le_of_suc-le-suc}
use native.Mathlib.Omega.{arith}
use borrow.Author.Tests.{lt-ltb, le-ltb, le-leb, ltb-true, ltb-false}
use lib.Dec.{ltb}
use lib.ListN.{length, get_or, set, length-set}
use lib.Seq.{get_or-set_same, get_or-set_other}
use Rattle.std.specs.Prelude.{Some, is_some}
use Rattle.program_digits.specs.Digits.{pick, digit, digits, number, read, numbers}
use Rattle.program_writing.specs.Texts.{capital, past, written, written_words, with_number, with_words, with_answer}
use Rattle.law_lines.specs.Back.{NumberComesBack, AnswerComesBack}
use Rattle.program_writing.proofs.Writer.{length_written, written_other}

digit_capital : (d : ℕ) → d < 16 → digit (capital d) ≡ Some d
unfolding digit capital
digit_capital d l = go (ltb d 10) refl
  where
    go : (b : Bool) → ltb d 10 ≡ b → digit (pick b (d + 48) (d + 55)) ≡ Some d
    go true e =
        let m : d < 10 = ltb-true d 10 e in
        let z : d + 48 - 48 ≡ d = omega arith in
        rw (le-ltb (d + 48) 48 (omega arith), lt-ltb (d + 48) 58 (omega arith), z)
    go false e =
        let m : 10 ≤ d = ltb-false d 10 e in
        let z : d + 55 - 55 ≡ d = omega arith in
        rw (le-ltb (d + 55) 48 (omega arith), le-ltb (d + 55) 58 (omega arith), le-ltb (d + 55) 65 (omega arith), lt-ltb (d + 55) 71 (omega arith), z)

-- the last digit written
written_last : (s : List ℕ) (i n x : ℕ) → i + suc n ≤ length s → digit (get_or (written s i (suc n) x) (i + n) 0) ≡ Some (x % 16)
unfolding written
written_last s i n x l =
    ap digit
    (written_other (set s (i + n) (capital (x % 16))) i n (x / 16) (i + n) (λ m. omega arith)
    ∙ get_or-set_same s (i + n) (capital (x % 16)) 0 (omega arith))
    ∙ digit_capital (x % 16) (omega arith)

number_back : (s : List ℕ) (i n x : ℕ) → i + n ≤ length s → x < 16 ^ n → number (written s i n x) i n ≡ x
unfolding number written
number_back s i zero x l m = omega arith
number_back s i (suc n) x l m =
    let m' : x < 16 ^ n * 16 = rw pow-suc at m in
    let t = set s (i + n) (capital (x % 16)) in
    let f : i + n ≤ length t = simp length-set (omega arith) in
    rw (number_back t i n (x / 16) f (omega arith), written_last s i n x l) (omega arith)

written_digits : (s : List ℕ) (i n x j : ℕ) → i + n ≤ length s → j < n → is_some (digit (get_or (written s i n x) (i + j) 0)) ≡ true
unfolding written
written_digits s i zero x j l m = elim m [ ]
written_digits s i (suc n) x j l m =
    let t = set s (i + n) (capital (x % 16)) in
    let f : i + n ≤ length t = simp length-set (omega arith) in
    ⊎_elim
    (λ (e : j ≡ n). rw (e, written_last s i n x l))
    (λ (k : j < n). written_digits t i n (x / 16) j f k)
    (eq-or-lt_of_le (le_of_suc-le-suc m))

each_digits : (s : List ℕ) (i n : ℕ) → ((j : ℕ) → j < n → is_some (digit (get_or s (i + j) 0)) ≡ true) → digits s i n ≡ true
unfolding digits
each_digits s i zero h = refl
each_digits s i (suc n) h =
    let z : i + 0 ≡ i = omega arith in
    let a : is_some (digit (get_or s i 0)) ≡ true = rw z at (h 0 (omega arith)) in
    rw (a) (each_digits s (i + 1) n (λ j l. let e : i + 1 + j ≡ i + suc j = omega arith in rw e (h (suc j) (omega arith))))

pub number_comes_back : NumberComesBack
unfolding read with_number
number_comes_back s i n x l m b =
    rw (le-leb (i + n) (length s) l, le-leb n 8 m, each_digits (written s i n x) i n (λ j k. written_digits s i n x j l k), number_back s i n x l b)

-- characters below the words written are as they were
words_below : (s : List ℕ) (i : ℕ) (ws : List ℕ) (k : ℕ) → k < i → get_or (written_words s i ws) k 0 ≡ get_or s k 0
unfolding written_words
words_below s i [] k l = refl
words_below s i (x ∷ ws) k l = words_below (written s i 8 x) (i + 8) ws k (omega arith) ∙ written_other s i 8 x k (λ m. omega arith)

number_same : (s t : List ℕ) (i n : ℕ) → ((k : ℕ) → k < i + n → get_or t k 0 ≡ get_or s k 0) → number t i n ≡ number s i n
unfolding number
number_same s t i zero h = refl
number_same s t i (suc n) h = rw (number_same s t i n (λ k l. h k (omega arith)), h (i + n) (omega arith))

numbers_same : (s t : List ℕ) (i w n : ℕ) → ((k : ℕ) → k < i + w * n → get_or t k 0 ≡ get_or s k 0) → numbers t i w n ≡ numbers s i w n
unfolding numbers
numbers_same s t i w zero h = refl
numbers_same s t i w (suc n) h =
    let z : w * suc n ≡ w + w * n = omega arith in
    rw (number_same s t i w (λ k l. h k (omega arith)), numbers_same s t (i + w) w n (λ k l. h k (omega arith)))

words_back : (s : List ℕ) (i : ℕ) (ws : List ℕ) → i + 8 * length ws ≤ length s → ((k : ℕ) → get_or ws k 0 < 2 ^ 32) → numbers (written_words s i ws) i 8 (length ws) ≡ ws
unfolding numbers written_words
words_back s i [] l h = refl
words_back s i (x ∷ ws) l h =
    let t = written s i 8 x in
    let f : i + 8 + 8 * length ws ≤ length t = rw (length_written s i 8 x) (omega arith) in
    let b : x < 16 ^ 8 = h 0 in
    rw (number_same t (written_words t (i + 8) ws) i 8 (λ k m. words_below t (i + 8) ws k m), number_back s i 8 x (omega arith) b, words_back t (i + 8) ws f (λ k. h (suc k)))

pub answer_comes_back : AnswerComesBack
unfolding with_answer with_words past
answer_comes_back s i ws l h =
    rw (le-leb (i + 8 * length ws) (length s) (omega arith))
    (numbers_same (written_words s i ws) (set (written_words s i ws) (i + 8 * length ws) 10) i 8 (length ws) (λ k m. get_or-set_other (written_words s i ws) (i + 8 * length ws) k 10 0 (λ e. omega arith))
    ∙ words_back s i ws (omega arith) h)
