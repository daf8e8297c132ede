-- Laws of digits and words as they are written. Assumes nothing.
use mathlib.Core.Path.{◌≡◌, refl, sym, ap, ◌∙◌}
use mathlib.Core.Bool.{Bool, true, false}
use mathlib.Core.List.{List, [], ◌∷◌, ◌++◌, append-nil, append_assoc}
use lib.Dec.{leb}
use borrow.Author.Tests.{le-leb, lt-leb, leb-true, leb-false}
use Prim.Native.Nat.{ℕ, zero, suc, ◌+◌, ◌-◌, ◌*◌, ◌/◌, ◌%◌, ◌<◌, ◌≤◌}
use native.Mathlib.Numerals.{add-one}
use native.Mathlib.Omega.{arith}
use lib.ListN.{length, get_or, set, take, drop, length-set, drop_of_length-le}
use lib.Seq.{drop-cons, take-suc, take-set-le, take-suc-set, get_or-set_same, get_or-set_other}
use Rattle.program_digits.specs.Digits.{pick}
use Rattle.program_writing.specs.Texts.{capital, past, written, written_words, with_words, with_answer, spelled, spelled_words, answer_text}

-- one digit more to write, and none
module _ (s : List ℕ) (i k x : ℕ) where
  pub written_more : 0 < k → written s i k x ≡ written (set s (i + (k - 1)) (capital (x % 16))) i (k - 1) (x / 16)
  unfolding written
  written_more l =
      let z : k ≡ suc (k - 1) = omega arith in
      ap (λ (n : ℕ). written s i n x) z

  pub written_none : k ≤ 0 → written s i k x ≡ s
  unfolding written
  written_none l = let z : k ≡ 0 = omega arith in rw z

pub length_written : (s : List ℕ) (i n x : ℕ) → length (written s i n x) ≡ length s
unfolding written
length_written s i zero x = refl
length_written s i (suc n) x = length_written (set s (i + n) (capital (x % 16))) i n (x / 16) ∙ length-set s (i + n) (capital (x % 16))

-- one word more to write, and none
module _ (s : List ℕ) (i k : ℕ) (ws : List ℕ) where
  pub words_more : k < length ws → written_words s i (drop k ws) ≡ written_words (written s i 8 (get_or ws k 0)) (i + 8) (drop (k + 1) ws)
  unfolding written_words
  words_more l = rw (drop-cons ws k 0 l, add-one)

  pub words_none : length ws ≤ k → written_words s i (drop k ws) ≡ s
  unfolding written_words
  words_none l = rw (drop_of_length-le ws l)

pub length_words : (s : List ℕ) (i : ℕ) (ws : List ℕ) → length (written_words s i ws) ≡ length s
unfolding written_words
length_words s i [] = refl
length_words s i (x ∷ ws) = length_words (written s i 8 x) (i + 8) ws ∙ length_written s i 8 x

-- room is tested by a difference
pub room_same : (i n l : ℕ) → n ≤ l → leb i (l - n) ≡ leb (i + n) l
room_same i n l h = go (leb i (l - n)) refl
  where
    go : (b : Bool) → leb i (l - n) ≡ b → b ≡ leb (i + n) l
    go true e = let f : i ≤ l - n = leb-true i (l - n) e in sym (le-leb (i + n) l (omega arith))
    go false e = let f : l - n < i = leb-false i (l - n) e in sym (lt-leb (i + n) l (omega arith))

pub length_with_words : (s : List ℕ) (i : ℕ) (ws : List ℕ) → length (with_words s i ws) ≡ length s
unfolding with_words
length_with_words s i ws = go (leb (i + 8 * length ws) (length s))
  where
    go : (b : Bool) → length (pick b (written_words s i ws) s) ≡ length s
    go true = length_words s i ws
    go false = refl

-- the place behind something goes by the text's length alone
pub past_same : (s t : List ℕ) (i n : ℕ) → length t ≡ length s → past t i n ≡ past s i n
unfolding past
past_same s t i n e = rw e

-- the place behind something that starts in the text is in the text
pub past_inside : (s : List ℕ) (i n : ℕ) → i ≤ length s → past s i n ≤ length s
unfolding past
past_inside s i n l = go (leb (i + n) (length s)) refl
  where
    go : (b : Bool) → leb (i + n) (length s) ≡ b → pick b (i + n) i ≤ length s
    go true e = leb-true (i + n) (length s) e
    go false e = l

-- characters outside the digits written are as they were
pub written_other : (s : List ℕ) (i n x k : ℕ) → (i ≤ k → i + n ≤ k) → get_or (written s i n x) k 0 ≡ get_or s k 0
unfolding written
written_other s i zero x k out = refl
written_other s i (suc n) x k out =
    written_other (set s (i + n) (capital (x % 16))) i n (x / 16) k (λ l. let o : i + suc n ≤ k = out l in omega arith)
    ∙ get_or-set_other s (i + n) k (capital (x % 16)) 0 (λ e. let l : i ≤ k = omega arith in let o : i + suc n ≤ k = out l in omega arith)

-- behind what stands before them, the digits written are the number as it is spelled
digits_behind : (s : List ℕ) (i n x : ℕ) → i + n ≤ length s → take (i + n) (written s i n x) ≡ take i s ++ spelled n x
unfolding written spelled
digits_behind s i zero x l = let z : i + 0 ≡ i = omega arith in rw (z, append-nil)
digits_behind s i (suc n) x l =
    let c = capital (x % 16) in
    let t = set s (i + n) c in
    let z : i + suc n ≡ suc (i + n) = omega arith in
    let m : i + n < length (written t i n (x / 16)) = rw (length_written t i n (x / 16), length-set s (i + n) c) (omega arith) in
    let f : i + n ≤ length t = rw (length-set s (i + n) c) (omega arith) in
    rw (z, take-suc (written t i n (x / 16)) (i + n) 0 m, digits_behind t i n (x / 16) f, written_other t i n (x / 16) (i + n) (λ k. omega arith), get_or-set_same s (i + n) c 0 (omega arith), take-set-le i s (i + n) c (omega arith), append_assoc)

words_behind : (s : List ℕ) (i : ℕ) (ws : List ℕ) → i + 8 * length ws ≤ length s → take (i + 8 * length ws) (written_words s i ws) ≡ take i s ++ spelled_words ws
unfolding written_words spelled_words
words_behind s i [] l = let z : i + 0 ≡ i = omega arith in rw (z, append-nil)
words_behind s i (x ∷ ws) l =
    let t = written s i 8 x in
    let z : i + 8 * suc (length ws) ≡ i + 8 + 8 * length ws = omega arith in
    let f : i + 8 + 8 * length ws ≤ length t = rw (length_written s i 8 x) (omega arith) in
    rw (z, words_behind t (i + 8) ws f, digits_behind s i 8 x (omega arith), append_assoc)

-- an answer that fits stands behind what stood before it
pub answer_behind : (s : List ℕ) (i : ℕ) (ws : List ℕ) → i + 8 * length ws < length s → take (i + 8 * length ws + 1) (with_answer s i ws) ≡ take i s ++ answer_text ws
unfolding with_answer with_words past answer_text
answer_behind s i ws l =
    let t = written_words s i ws in
    let e = i + 8 * length ws in
    let f : e < length t = rw (length_words s i ws) (omega arith) in
    rw (le-leb e (length s) (omega arith), add-one e, take-suc-set t e 10 f, words_behind s i ws (omega arith), append_assoc)

pub answer_past : (s : List ℕ) (i : ℕ) (ws : List ℕ) → i + 8 * length ws < length s → past s (past s i (8 * length ws)) 1 ≡ i + 8 * length ws + 1
unfolding past
answer_past s i ws l = rw (le-leb (i + 8 * length ws) (length s) (omega arith), le-leb (i + 8 * length ws + 1) (length s) (omega arith))
