-- An input may come in any pieces. By characters: the line at hand is put before the first of the lines still to come. Assumes nothing.
use mathlib.Core.Path.{◌≡◌, refl, sym, ap, ◌∙◌}
use mathlib.Core.Bool.{Bool, true, false}
use mathlib.Core.List.{List, [], ◌∷◌, ◌++◌, append_assoc}
use Prim.Native.Nat.{ℕ, suc}
use lib.Dec.{eqb}
use lib.ListN.{length, take}
use lib.Seq.{take-take}
use native.Mathlib.Omega.{arith}
use borrow.Author.Tests.{ne_eqb}
use Rattle.program_digits.specs.Digits.{pick}
use Rattle.program_session.specs.Session.{first_picture, line_text, line_picture, with_first, lines, texts, session}
use Rattle.program_session.specs.Pieces.{State, with_line, start, step, step_text, after, gives, last_feed, at_end}
use Rattle.program_session.specs.Rooms.{most_kept}
use Rattle.program_session.proofs.States.{Alike, after_append, gives_append, after_alike, gives_alike}
use Rattle.law_session.specs.Cut.{together, written, CutAnywhere, KeptIsEnough}

-- characters before the first of some lines
abbrev before_first : List ℕ → List (List ℕ) → List (List ℕ)
before_first [] ls = ls
before_first (c ∷ k) ls = with_first c (before_first k ls)

first_line : (k : List ℕ) (ls : List (List ℕ)) → before_first k ([] ∷ ls) ≡ k ∷ ls
first_line [] ls = refl
first_line (c ∷ k) ls = ap (with_first c) (first_line k ls)

first_more : (k : List ℕ) (c : ℕ) (ls : List (List ℕ)) → before_first k (with_first c ls) ≡ before_first (k ++ c ∷ []) ls
first_more [] c ls = refl
first_more (d ∷ k) c ls = ap (with_first d) (first_more k c ls)

first_alone : (c : ℕ) (k : List ℕ) → before_first (c ∷ k) [] ≡ (c ∷ k) ∷ []
first_alone c [] = refl
first_alone c (d ∷ k) = ap (with_first c) (first_alone d k)

-- the line at hand and the lines of what is still to come give what a piece gives and then the end
by_characters : (p k s : List ℕ) → texts p (before_first k (lines s)) ≡ gives (with_line p k) s ++ at_end (after (with_line p k) s)
unfolding lines texts gives after last_feed step step_text
by_characters p [] [] = refl
by_characters p (c ∷ k) [] = rw (first_alone c k, ne_eqb (suc (length k)) 0 (λ z. omega arith))
by_characters p k (c ∷ s) = go (eqb c 10) (λ q j. by_characters q j s)
  where
    go : (t : Bool) → ((q j : List ℕ) → texts q (before_first j (lines s)) ≡ gives (with_line q j) s ++ at_end (after (with_line q j) s))
        → texts p (before_first k (pick t ([] ∷ lines s) (with_first c (lines s))))
        ≡ (pick t (line_text k p) [] ++ gives (pick t (with_line (line_picture k p) []) (with_line p (k ++ c ∷ []))) s) ++ at_end (after (pick t (with_line (line_picture k p) []) (with_line p (k ++ c ∷ []))) s)
    go true h = rw (first_line k (lines s), h (line_picture k p) [], append_assoc)
    go false h = rw (first_more k c (lines s)) (h p (k ++ c ∷ []))

-- pieces one after another give what they give together
in_pieces : (a : State) (pieces : List (List ℕ)) → written a pieces ≡ gives a (together pieces) ++ at_end (after a (together pieces))
unfolding written together gives after
in_pieces a [] = refl
in_pieces a (s ∷ pieces) = rw (in_pieces (after a s) pieces, gives_append a s (together pieces), after_append a s (together pieces), append_assoc)

pub cut_anywhere : CutAnywhere
unfolding session start
cut_anywhere pieces = in_pieces start pieces ∙ sym (by_characters first_picture [] (together pieces))

-- a line has characters where something of it is kept
same_emptiness : (s t : List ℕ) → take most_kept s ≡ take most_kept t → eqb (length s) 0 ≡ eqb (length t) 0
same_emptiness [] [] e = refl
same_emptiness (c ∷ s) (d ∷ t) e = ne_eqb (suc (length s)) 0 (λ z. omega arith) ∙ sym (ne_eqb (suc (length t)) 0 (λ z. omega arith))
same_emptiness [] (d ∷ t) e = absurd (let z = ap length e in omega arith)
same_emptiness (c ∷ s) [] e = absurd (let z = ap length e in omega arith)

written_alike : (a b : State) (pieces : List (List ℕ)) → Alike a b → written a pieces ≡ written b pieces
unfolding written last_feed
written_alike a b [] h = gives_alike a b (last_feed a) h ∙ ap (λ (t : Bool). gives b (pick t [] (10 ∷ []))) (same_emptiness a.line b.line h.lines)
written_alike a b (s ∷ pieces) h = rw (gives_alike a b s h, written_alike (after a s) (after b s) pieces (after_alike a b s h))

pub kept_is_enough : KeptIsEnough
kept_is_enough a pieces = written_alike (with_line a.picture (take most_kept a.line)) a pieces (record { pictures = refl; lines = take-take most_kept most_kept a.line (omega arith) })
