-- Laws of where a line ends, and of a part that is put behind another. Assumes nothing.
use mathlib.Core.Path.{◌≡◌, refl, sym, ap, ◌∙◌}
use mathlib.Core.Bool.{Bool, true, false, cond, ◌||◌}
use mathlib.Core.Logic.{◌≢◌}
use mathlib.Core.List.{List, [], ◌∷◌, ◌++◌}
use Prim.Native.Nat.{ℕ, zero, suc, ◌+◌, ◌-◌, ◌<◌, ◌≤◌, min}
use native.Mathlib.Numerals.{add-one}
use native.Mathlib.Omega.{arith}
use borrow.Author.Tests.{eqb-true, eqb-false, eq-eqb, ne_eqb, ltb-true, ltb-false, lt-ltb, le-ltb, leb-true, leb-false}
use lib.Dec.{eqb, ltb, leb}
use lib.ListN.{length, get_or, set, take, drop, length-drop, drop_of_length-le}
use lib.Seq.{drop-cons, sets, length-sets, length-take-le, take_all}
use Rattle.std.proofs.lemmas.List.{take-append-drop, append_assoc}
use Rattle.std.proofs.lemmas.List.Edits.{sets-eq}
use Rattle.std.proofs.lemmas.List.Recursion.{is_position_or_len}
use Rattle.std.specs.List.{position}
use Rattle.std.specs.Prelude.{Some, None, unwrap_or}
use Rattle.program_digits.specs.Digits.{pick}
use Rattle.program_digits.proofs.Reader.{stores_past}
use Rattle.program_lines.specs.Feeds.{before_feed, line_end}

-- it ends here, further on, or at the end
module _ (s : List ℕ) (i : ℕ) where
  pub end_here : i < length s → get_or s i 0 ≡ 10 → line_end s i ≡ i
  unfolding line_end before_feed
  end_here l e = rw (drop-cons s i 0 l, eq-eqb (get_or s i 0) 10 e) (omega arith)

  pub end_further : i < length s → get_or s i 0 ≢ 10 → line_end s i ≡ line_end s (i + 1)
  unfolding line_end before_feed
  end_further l e = rw (add-one i, drop-cons s i 0 l, ne_eqb (get_or s i 0) 10 e) (omega arith)

  pub end_nowhere : length s ≤ i → line_end s i ≡ i
  unfolding line_end before_feed
  end_nowhere l = rw (drop_of_length-le s {i = i} l) (omega arith)

  end_from : i ≤ line_end s i
  unfolding line_end
  end_from = omega arith

-- a line feed stands within the text or at its end
pub before_all : (s : List ℕ) → before_feed s ≤ length s
unfolding before_feed
before_all [] = omega arith
before_all (c ∷ s) = go (eqb c 10) (before_all s)
  where
    go : (b : Bool) → before_feed s ≤ length s → pick b 0 (suc (before_feed s)) ≤ suc (length s)
    go true l = omega arith
    go false l = omega arith

-- a line ends no earlier than it begins, and within the text where it begins there
pub end_bounds : (s : List ℕ) (i r : ℕ) → line_end s i ≡ r → (i ≤ r) × (i ≤ length s → r ≤ length s)
unfolding line_end
end_bounds s i r e = let m : before_feed (drop i s) ≤ length s - i = rw (length-drop i s) at (before_all (drop i s)) in (omega arith, λ l. omega arith)

-- where the line ends no earlier than n characters on, it ends where it ends from there on
pub end_beyond : (s : List ℕ) (i n : ℕ) → i + n ≤ line_end s i → line_end s i ≡ line_end s (i + n)
end_beyond s i zero l = let z : i + 0 ≡ i = omega arith in rw z
end_beyond s i (suc n) l = further ∙ (end_beyond s (i + 1) n (rw (← further) (omega arith)) ∙ ap (line_end s) z)
  where
    z : i + 1 + n ≡ i + suc n
    z = omega arith

    inside : i < length s
    inside = go (ltb i (length s)) refl
      where
        go : (b : Bool) → ltb i (length s) ≡ b → i < length s
        go true e = ltb-true i (length s) e
        go false e = let h : line_end s i ≡ i = end_nowhere s i (ltb-false i (length s) e) in absurd (omega arith)

    further : line_end s i ≡ line_end s (i + 1)
    further = end_further s i inside (λ (e : get_or s i 0 ≡ 10). let h : line_end s i ≡ i = end_here s i inside e in omega arith)

-- tests one after the other, from either end
or_eight : (a b c d e f g h : Bool) → ((((((a || b) || c) || d) || e) || f) || g) || h ≡ a || (b || (c || (d || (e || (f || (g || (h || false)))))))
or_eight true b c d e f g h = refl
or_eight false true c d e f g h = refl
or_eight false false true d e f g h = refl
or_eight false false false true e f g h = refl
or_eight false false false false true f g h = refl
or_eight false false false false false true g h = refl
or_eight false false false false false false true h = refl
or_eight false false false false false false false true = refl
or_eight false false false false false false false false = refl

-- a line feed stands at a place
abbrev pub is_feed : List ℕ → ℕ → Bool
is_feed s i = eqb (get_or s i 0) 10

-- a line ends among eight characters where one of them is a line feed
module _ (s : List ℕ) (i : ℕ) where
  among : (k n : ℕ) → i + k < length s → k < n → ltb (line_end s (i + k)) (i + n) ≡ is_feed s (i + k) || ltb (line_end s (i + (k + 1))) (i + n)
  among k n l m = go (is_feed s (i + k)) refl
    where
      go : (b : Bool) → is_feed s (i + k) ≡ b → ltb (line_end s (i + k)) (i + n) ≡ b || ltb (line_end s (i + (k + 1))) (i + n)
      go true e = rw (end_here s (i + k) l (eqb-true (get_or s (i + k) 0) 10 e)) (lt-ltb (i + k) (i + n) (omega arith))
      go false e = let z : i + k + 1 ≡ i + (k + 1) = omega arith in rw (end_further s (i + k) l (eqb-false (get_or s (i + k) 0) 10 e), z)

  chain : i + 8 ≤ length s → ltb (line_end s i) (i + 8) ≡ is_feed s i || (is_feed s (i + 1) || (is_feed s (i + 2) || (is_feed s (i + 3) || (is_feed s (i + 4) || (is_feed s (i + 5) || (is_feed s (i + 6) || (is_feed s (i + 7) || false)))))))
  chain l =
      let z : i + 0 ≡ i = omega arith in
      rw z at (among 0 8 (omega arith) (omega arith))
      ∙ rw (among 1 8 (omega arith) (omega arith), among 2 8 (omega arith) (omega arith), among 3 8 (omega arith) (omega arith), among 4 8 (omega arith) (omega arith), among 5 8 (omega arith) (omega arith), among 6 8 (omega arith) (omega arith), among 7 8 (omega arith) (omega arith), le-ltb (line_end s (i + 8)) (i + 8) (end_from s (i + 8)))

  pub end_among_eight : i + 8 ≤ length s → ((((((is_feed s i || is_feed s (i + 1)) || is_feed s (i + 2)) || is_feed s (i + 3)) || is_feed s (i + 4)) || is_feed s (i + 5)) || is_feed s (i + 6)) || is_feed s (i + 7) ≡ ltb (line_end s i) (i + 8)
  end_among_eight l = or_eight (is_feed s i) (is_feed s (i + 1)) (is_feed s (i + 2)) (is_feed s (i + 3)) (is_feed s (i + 4)) (is_feed s (i + 5)) (is_feed s (i + 6)) (is_feed s (i + 7)) ∙ sym (chain l)

-- the first line feed stands where it is first found, and at the end where there is none
feed_first : (s : List ℕ) → unwrap_or (position (λ c. eqb c 10) s) (length s) ≡ before_feed s
unfolding before_feed
feed_first s = rw (← is_position_or_len before_feed (λ c. eqb c 10) refl (λ c t. each (eqb c 10) (before_feed t)) s) (go (ltb (before_feed s) (length s)) refl (before_all s))
  where
    each : (b : Bool) (n : ℕ) → pick b 0 (suc n) ≡ cond b 0 (1 + n)
    each true n = refl
    each false n = omega arith

    go : (b : Bool) → ltb (before_feed s) (length s) ≡ b → before_feed s ≤ length s → unwrap_or (cond b (Some (before_feed s)) None) (length s) ≡ before_feed s
    go true e l = refl
    go false e l = omega (arith, ltb-false (before_feed s) (length s) e)

-- the line ends where a line feed is found in the rest of the text, and at its end where there is none
pub end_found : (s : List ℕ) (i r : ℕ) → i ≤ length s → r ≡ unwrap_or (position (λ c. eqb c 10) (take (length s - i) (drop i s))) (length s - i) → i + r ≡ line_end s i
unfolding line_end
end_found s i r l e =
    let z : take (length s - i) (drop i s) ≡ drop i s = take_all (length s - i) (drop i s) (rw (length-drop i s) (omega arith)) in
    ap (λ (n : ℕ). i + n) (e ∙ rw (z, ← length-drop i s) (feed_first (drop i s)))

-- stores of two parts, one behind the other
stores_parts : (q : List ℕ) (k : ℕ) (t u : List ℕ) → sets q k (t ++ u) ≡ sets (sets q k t) (k + length t) u
stores_parts q k [] u = let z : k + 0 ≡ k = omega arith in rw z
stores_parts q k (v ∷ t) u = let z : k + suc (length t) ≡ suc k + length t = omega arith in rw (stores_parts (set q k v) (suc k) t u, z)

-- of a part that is stored as much is stored as there is room for
pub stores_first : (q : List ℕ) (k n : ℕ) (t : List ℕ) → k + n ≡ min (length q) (k + length t) → take k q ++ (take n t ++ drop (k + n) q) ≡ sets q k t
stores_first q k n t e =
    let m : length (take n t) ≡ n = length-take-le n t (omega arith) in
    let f : k + length (take n t) ≤ length q = omega arith in
    let x = sets q k (take n t) in
    let y : x ≡ take k q ++ (take n t ++ drop (k + n) q) = rw (m, append_assoc (take k q) (take n t) (drop (k + n) q)) at (sets-eq (take n t) q k f) in
    let z : sets q k t ≡ sets x (k + n) (drop n t) = rw (take-append-drop n t, m) at (stores_parts q k (take n t) (drop n t)) in
    sym (z ∙ go (leb (length t) n) refl x (length-sets q k (take n t)) ∙ y)
  where
    go : (b : Bool) → leb (length t) n ≡ b → (x : List ℕ) → length x ≡ length q → sets x (k + n) (drop n t) ≡ x
    go true h x l = rw (drop_of_length-le t (leb-true (length t) n h))
    go false h x l = let g : n < length t = leb-false (length t) n h in stores_past x (k + n) (drop n t) (omega arith)
