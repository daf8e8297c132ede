-- The lines of a chunk, one after the other: what is held and what is written after each is that of the characters taken so far. Assumes nothing.
use Rattle.std.proofs.Common.{◌≡◌, ℕ, suc, ◌+◌, ◌-◌, ◌<◌, ◌≤◌, min, List, [], ◌++◌, length, take, drop, sym, refl, ap, ◌∙◌, append-nil, arith, length-append, length-drop, take-append-drop, length-take, length-take-le, take_all, take-add}
use lib.Seq.{sets, take-length}
use Rattle.program_lines.specs.Feeds.{before_feed, line_end}
use Rattle.program_lines.proofs.Kept.{kept_more, kept_in_room}
use Rattle.program_session.specs.Session.{line_text, line_picture}
use Rattle.program_session.specs.Pieces.{State, with_line, after, gives}
use Rattle.program_session.specs.Rooms.{most_kept, longest_answer, counted, Roomy, Held}
use Rattle.program_session.proofs.States.{after_append, gives_append, ends_line, ends_text, goes_on, says_nothing, same_text, same_picture, held_gives, held_after}

-- n characters of s are taken from a on: the state is held in p and the first k characters of d, and b begins with r characters of what they give, with room for an answer more
pub record Come (a : State) (s : List ℕ) (n : ℕ) (p d : List ℕ) (k : ℕ) (b : List ℕ) (r : ℕ) : Type 0 where
  pub inside : n ≤ length s
  pub short : k ≤ length d
  pub for_line : most_kept ≡ length d
  pub room : r + longest_answer ≤ length b
  pub holds : Held (after a (take n s)) p (take k d)
  pub puts : take r b ≡ gives a (take n s)

pub come_first : (p d : List ℕ) (k : ℕ) (s b : List ℕ) → k ≤ length d → Roomy d b → Come (with_line p (take k d)) s 0 p d k b 0
unfolding after gives
come_first p d k s b l y =
    let e = y.for_line in
    let f = y.for_answer in
    let m : length (take k d) ≤ most_kept = rw (length-take k d) (omega arith) in
    record { inside = omega arith; short = l; for_line = e; room = omega arith; holds = record { pictures = refl; keeps = sym (take_all most_kept (take k d) m) }; puts = refl }

module _ (a : State) (s : List ℕ) (n : ℕ) (p d : List ℕ) (k : ℕ) (b : List ℕ) (r : ℕ) (h : Come a s n p d k b r) where
  -- what is kept and a part of the chunk is the line and that part, as far as a line counts
  line_on : (t : List ℕ) → take most_kept (take k d ++ t) ≡ take most_kept ((after a (take n s)).line ++ t)
  line_on t = ap (λ (u : List ℕ). take most_kept (u ++ t)) h.holds.keeps ∙ kept_more most_kept (after a (take n s)).line t

  -- the characters up to a line feed, behind those taken
  up_to : (e : ℕ) → e ≡ line_end s n → take (e + 1) s ≡ take n s ++ take (suc (before_feed (drop n s))) (drop n s)
  unfolding line_end
  up_to e x =
      let z : e + 1 ≡ n + suc (before_feed (drop n s)) = omega arith in
      ap (λ (i : ℕ). take i s) z ∙ take-add n (suc (before_feed (drop n s))) s

  module _ (e : ℕ) (x : e ≡ line_end s n) (l : e < length s) where
    in_rest : before_feed (drop n s) < length (drop n s)
    unfolding line_end
    in_rest = rw (length-drop n s) (omega (arith, h.inside))

    long : e - n ≡ before_feed (drop n s)
    unfolding line_end
    long = omega arith

    -- a line that ends is answered, and nothing is kept
    pub come_held : (q : List ℕ) → q ≡ line_picture (take k d ++ take (e - n) (drop n s)) p → Held (after a (take (e + 1) s)) q []
    come_held q y =
        let t = take (before_feed (drop n s)) (drop n s) in
        let A = after a (take n s) in
        let y' : q ≡ line_picture (take k d ++ t) p = rw long at y in
        let w : after a (take (e + 1) s) ≡ with_line (line_picture (A.line ++ t) A.picture) [] = ap (after a) (up_to e x) ∙ after_append a (take n s) (take (suc (before_feed (drop n s))) (drop n s)) ∙ ends_line A (drop n s) in_rest in
        rw w (record { pictures = y' ∙ same_picture (take k d ++ t) (A.line ++ t) (line_on t) p ∙ ap (line_picture (A.line ++ t)) h.holds.pictures; keeps = refl })

    pub come_puts : (c : List ℕ) → c ≡ take r b ++ line_text (take k d ++ take (e - n) (drop n s)) p → c ≡ gives a (take (e + 1) s)
    come_puts c y =
        let t = take (before_feed (drop n s)) (drop n s) in
        let A = after a (take n s) in
        let y' : c ≡ take r b ++ line_text (take k d ++ t) p = rw long at y in
        let w : gives a (take (e + 1) s) ≡ gives a (take n s) ++ line_text (A.line ++ t) A.picture = ap (gives a) (up_to e x) ∙ gives_append a (take n s) (take (suc (before_feed (drop n s))) (drop n s)) ∙ ap (λ (u : List ℕ). gives a (take n s) ++ u) (ends_text A (drop n s) in_rest) in
        y' ∙ ap (λ (u : List ℕ). u ++ line_text (take k d ++ t) p) h.puts ∙ ap (λ (u : List ℕ). gives a (take n s) ++ u) (same_text (take k d ++ t) (A.line ++ t) (line_on t) p ∙ ap (line_text (A.line ++ t)) h.holds.pictures) ∙ sym w

  -- a chunk's rest without a line feed is kept
  module _ (x : line_end s n ≡ length s) where
    no_feed : length (drop n s) ≤ before_feed (drop n s)
    unfolding line_end
    no_feed = rw (length-drop n s) (omega arith)

    whole : take (length s) s ≡ take n s ++ drop n s
    whole = take-length s ∙ sym (take-append-drop n s)

    all_rest : take (length s - n) (drop n s) ≡ drop n s
    all_rest = take_all (length s - n) (drop n s) (rw (length-drop n s) (omega arith))

    pub rest_held : (j : ℕ) (c : List ℕ) → j ≡ min (length d) (k + length (take (length s - n) (drop n s))) → c ≡ sets d k (take (length s - n) (drop n s)) → Held (after a (take (length s) s)) p (take j c)
    rest_held j c y z =
        let A = after a (take n s) in
        let w : after a (take (length s) s) ≡ with_line A.picture (A.line ++ drop n s) = ap (after a) whole ∙ after_append a (take n s) (drop n s) ∙ goes_on A (drop n s) no_feed in
        let v : take j c ≡ take most_kept (take k d ++ drop n s) = rw (z, y, all_rest, h.for_line) (kept_in_room d k (drop n s) h.short) in
        rw w (record { pictures = h.holds.pictures; keeps = v ∙ line_on (drop n s) })

    pub rest_puts : take r b ≡ gives a (take (length s) s)
    rest_puts = h.puts ∙ sym (append-nil (gives a (take n s))) ∙ ap (λ (u : List ℕ). gives a (take n s) ++ u) (sym (says_nothing (after a (take n s)) (drop n s) no_feed)) ∙ sym (ap (gives a) whole ∙ gives_append a (take n s) (drop n s))

two_counts : (v w n u : ℕ) → w ≡ counted (v + n) → counted (w + u) ≡ counted (v + (n + u))
two_counts v w n u e = omega arith

-- a chunk taken in pieces: what is held after n characters of it, and after m characters more
module _ (a : State) (s : List ℕ) (n : ℕ) (p k : List ℕ) (h : Held (after a (take n s)) p k) where
  pub piece_held : (m : ℕ) (q l : List ℕ) → Held (after (with_line p k) (take m (take (length s - n) (drop n s)))) q l → Held (after a (take (n + m) s)) q l
  piece_held m q l g =
      let u : take (length s - n) (drop n s) ≡ drop n s = take_all (length s - n) (drop n s) (rw (length-drop n s) (omega arith)) in
      rw (take-add n m s, after_append a (take n s) (take m (drop n s))) (held_after (after a (take n s)) p k h (take m (drop n s)) q l (rw u at g))

  -- what those characters give, counted
  pub piece_counts : (m v w x : ℕ) (t : List ℕ) → w ≡ counted (v + length (gives a (take n s))) → t ≡ gives (with_line p k) (take m (take (length s - n) (drop n s))) → x ≡ counted (w + length t)
      → x ≡ counted (v + length (gives a (take (n + m) s)))
  piece_counts m v w x t f g e =
      let r : take (length s - n) (drop n s) ≡ drop n s = take_all (length s - n) (drop n s) (rw (length-drop n s) (omega arith)) in
      let z : t ≡ gives (after a (take n s)) (take m (drop n s)) = g ∙ ap (λ (u : List ℕ). gives (with_line p k) (take m u)) r ∙ held_gives (after a (take n s)) p k h (take m (drop n s)) in
      let y : length (gives a (take (n + m) s)) ≡ length (gives a (take n s)) + length t =
      ap length (ap (gives a) (take-add n m s) ∙ gives_append a (take n s) (take m (drop n s))) ∙ length-append (gives a (take n s)) (gives (after a (take n s)) (take m (drop n s))) ∙ ap (λ (u : List ℕ). length (gives a (take n s)) + length u) (sym z) in
      e ∙ two_counts v w (length (gives a (take n s))) (length t) f ∙ ap (λ (u : ℕ). counted (v + u)) (sym y)

  pub all_counts : length s ≤ n → (v w : ℕ) → w ≡ counted (v + length (gives a (take n s))) → w ≡ counted (v + length (gives a s))
  all_counts l v w e = rw (take_all n s l) at e

  pub all_held : length s ≤ n → Held (after a s) p k
  all_held l = rw (take_all n s l) at h

pub piece_length : (s : List ℕ) (n : ℕ) → length (take (length s - n) (drop n s)) ≡ length s - n
piece_length s n = length-take-le (length s - n) (drop n s) (rw (length-drop n s) (omega arith))
