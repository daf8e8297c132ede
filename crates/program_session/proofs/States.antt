-- Laws of the state after an input: input comes in pieces, and states that agree in what is kept give the same. Assumes nothing.
use Rattle.std.proofs.Common.{◌≡◌, ℕ, suc, ◌<◌, ◌≤◌, Bool, true, false, eqb, List, [], ◌∷◌, ◌++◌, length, take, sym, refl, ap, ◌∙◌, append_assoc, append-nil, arith, take-take}
use lib.Seq.{append_snoc}
use Rattle.program_digits.specs.Digits.{pick}
use Rattle.program_writing.specs.Texts.{answers_text}
use Rattle.program_lines.specs.Frames.{Frame, frame}
use Rattle.program_lines.specs.Feeds.{before_feed}
use Rattle.program_lines.proofs.Kept.{frame_kept, kept_more}
use Rattle.program_replies.specs.Reply.{reply}
use Rattle.program_session.specs.Session.{line_text, line_picture}
use Rattle.program_session.specs.Pieces.{State, with_line, step, step_text, after, gives}
use Rattle.program_session.specs.Rooms.{most_kept, Held}

-- a piece and then another are one piece
pub after_append : (a : State) (s t : List ℕ) → after a (s ++ t) ≡ after (after a s) t
unfolding after
after_append a [] t = refl
after_append a (c ∷ s) t = after_append (step a c) s t

pub gives_append : (a : State) (s t : List ℕ) → gives a (s ++ t) ≡ gives a s ++ gives (after a s) t
unfolding gives after
gives_append a [] t = refl
gives_append a (c ∷ s) t = rw (gives_append (step a c) s t, append_assoc)

-- a piece up to its first line feed answers the line that it ends
pub ends_line : (a : State) (s : List ℕ) → before_feed s < length s → after a (take (suc (before_feed s)) s) ≡ with_line (line_picture (a.line ++ take (before_feed s) s) a.picture) []
unfolding after step before_feed
ends_line a [] l = elim l [ ]
ends_line a (c ∷ s) l = go (eqb c 10) l (λ b m. ends_line b s m)
  where
    n : ℕ
    n = before_feed s

    go : (t : Bool) → pick t 0 (suc n) < suc (length s)
        → ((b : State) → n < length s → after b (take (suc n) s) ≡ with_line (line_picture (b.line ++ take n s) b.picture) [])
        → after (pick t (with_line (line_picture a.line a.picture) []) (with_line a.picture (a.line ++ c ∷ []))) (take (pick t 0 (suc n)) s)
        ≡ with_line (line_picture (a.line ++ take (pick t 0 (suc n)) (c ∷ s)) a.picture) []
    go true m h = rw append-nil
    go false m h = h (with_line a.picture (a.line ++ c ∷ [])) (omega arith) ∙ rw (append_snoc a.line c (take n s))

pub ends_text : (a : State) (s : List ℕ) → before_feed s < length s → gives a (take (suc (before_feed s)) s) ≡ line_text (a.line ++ take (before_feed s) s) a.picture
unfolding gives step step_text before_feed
ends_text a [] l = elim l [ ]
ends_text a (c ∷ s) l = go (eqb c 10) l (λ b m. ends_text b s m)
  where
    n : ℕ
    n = before_feed s

    go : (t : Bool) → pick t 0 (suc n) < suc (length s)
        → ((b : State) → n < length s → gives b (take (suc n) s) ≡ line_text (b.line ++ take n s) b.picture)
        → pick t (line_text a.line a.picture) [] ++ gives (pick t (with_line (line_picture a.line a.picture) []) (with_line a.picture (a.line ++ c ∷ []))) (take (pick t 0 (suc n)) s)
        ≡ line_text (a.line ++ take (pick t 0 (suc n)) (c ∷ s)) a.picture
    go true m h = append-nil (line_text a.line a.picture) ∙ ap (λ (t : List ℕ). line_text t a.picture) (sym (append-nil a.line))
    go false m h = h (with_line a.picture (a.line ++ c ∷ [])) (omega arith) ∙ rw (append_snoc a.line c (take n s))

-- a piece without a line feed is more of the line, and gives nothing
pub goes_on : (a : State) (s : List ℕ) → length s ≤ before_feed s → after a s ≡ with_line a.picture (a.line ++ s)
unfolding after step before_feed
goes_on a [] l = rw append-nil
goes_on a (c ∷ s) l = go (eqb c 10) l (λ b m. goes_on b s m)
  where
    go : (t : Bool) → suc (length s) ≤ pick t 0 (suc (before_feed s))
        → ((b : State) → length s ≤ before_feed s → after b s ≡ with_line b.picture (b.line ++ s))
        → after (pick t (with_line (line_picture a.line a.picture) []) (with_line a.picture (a.line ++ c ∷ []))) s ≡ with_line a.picture (a.line ++ c ∷ s)
    go true m h = absurd (omega arith)
    go false m h = h (with_line a.picture (a.line ++ c ∷ [])) (omega arith) ∙ rw (append_snoc a.line c s)

pub says_nothing : (a : State) (s : List ℕ) → length s ≤ before_feed s → gives a s ≡ []
unfolding gives step step_text before_feed
says_nothing a [] l = refl
says_nothing a (c ∷ s) l = go (eqb c 10) l (λ b m. says_nothing b s m)
  where
    go : (t : Bool) → suc (length s) ≤ pick t 0 (suc (before_feed s)) → ((b : State) → length s ≤ before_feed s → gives b s ≡ [])
        → pick t (line_text a.line a.picture) [] ++ gives (pick t (with_line (line_picture a.line a.picture) []) (with_line a.picture (a.line ++ c ∷ []))) s ≡ []
    go true m h = absurd (omega arith)
    go false m h = h (with_line a.picture (a.line ++ c ∷ [])) (omega arith)

-- the first characters of two lines decide what they give and leave
module _ (s t : List ℕ) (e : take most_kept s ≡ take most_kept t) (p : List ℕ) where
  same_frame : frame s ≡ frame t
  same_frame = sym (frame_kept most_kept s (omega arith)) ∙ ap frame e ∙ frame_kept most_kept t (omega arith)

  pub same_text : line_text s p ≡ line_text t p
  unfolding line_text
  same_text = ap (λ (f : Frame). answers_text (reply f p).lines) same_frame

  pub same_picture : line_picture s p ≡ line_picture t p
  unfolding line_picture
  same_picture = ap (λ (f : Frame). (reply f p).picture) same_frame

-- states that agree in their picture and in what is kept of their line
pub record Alike (a b : State) : Type 0 where
  pub pictures : a.picture ≡ b.picture
  pub lines : take most_kept a.line ≡ take most_kept b.line

step_alike : (a b : State) (c : ℕ) → Alike a b → Alike (step a c) (step b c)
unfolding step
step_alike a b c h = go (eqb c 10)
  where
    go : (t : Bool) → Alike (pick t (with_line (line_picture a.line a.picture) []) (with_line a.picture (a.line ++ c ∷ []))) (pick t (with_line (line_picture b.line b.picture) []) (with_line b.picture (b.line ++ c ∷ [])))
    go true = record { pictures = same_picture a.line b.line h.lines a.picture ∙ ap (line_picture b.line) h.pictures; lines = refl }
    go false = record { pictures = h.pictures; lines = sym (kept_more most_kept a.line (c ∷ [])) ∙ ap (λ (k : List ℕ). take most_kept (k ++ c ∷ [])) h.lines ∙ kept_more most_kept b.line (c ∷ []) }

step_says_alike : (a b : State) (c : ℕ) → Alike a b → step_text a c ≡ step_text b c
unfolding step_text
step_says_alike a b c h = ap (λ (x : List ℕ). pick (eqb c 10) x []) (same_text a.line b.line h.lines a.picture ∙ ap (line_text b.line) h.pictures)

pub after_alike : (a b : State) (s : List ℕ) → Alike a b → Alike (after a s) (after b s)
unfolding after
after_alike a b [] h = h
after_alike a b (c ∷ s) h = after_alike (step a c) (step b c) s (step_alike a b c h)

pub gives_alike : (a b : State) (s : List ℕ) → Alike a b → gives a s ≡ gives b s
unfolding gives
gives_alike a b [] h = refl
gives_alike a b (c ∷ s) h = rw (step_says_alike a b c h, gives_alike (step a c) (step b c) s (step_alike a b c h))

-- what is held goes on as the state does
module _ (a : State) (p k : List ℕ) (h : Held a p k) where
  pub held_alike : Alike (with_line p k) a
  held_alike = record { pictures = h.pictures; lines = ap (take most_kept) h.keeps ∙ take-take most_kept most_kept a.line (omega arith) }

  pub held_gives : (s : List ℕ) → gives (with_line p k) s ≡ gives a s
  held_gives s = gives_alike (with_line p k) a s held_alike

  pub held_after : (s q l : List ℕ) → Held (after (with_line p k) s) q l → Held (after a s) q l
  held_after s q l g =
      let m = after_alike (with_line p k) a s held_alike in
      record { pictures = g.pictures ∙ m.pictures; keeps = g.keeps ∙ m.lines }

  pub held_picture : (s : List ℕ) → (after (with_line p k) s).picture ≡ (after a s).picture
  held_picture s = (after_alike (with_line p k) a s held_alike).pictures
