-- What is held after some input, as a piece of input goes on from there. Assumes nothing.
use Rattle.std.proofs.Common.{◌≡◌, ℕ, ◌+◌, List, [], ◌++◌, length, take, sym, refl, ap, ◌∙◌, arith, length-append}
use Rattle.program_session.specs.Session.{first_picture}
use Rattle.program_session.specs.Pieces.{State, with_line, start, after, gives}
use Rattle.program_session.specs.Rooms.{counted, Held, Known, Given, Reached}
use Rattle.program_session.proofs.States.{after_append, gives_append, held_gives, held_after, held_picture}

-- counts that come round
round_on : (w m n : ℕ) → w ≡ counted m → counted (w + n) ≡ counted (m + n)
round_on w m n e = omega arith

round_none : (w m : ℕ) → w ≡ counted m → w ≡ counted (w + 0)
round_none w m e = omega arith

-- before any input the first picture is held, and nothing is kept
pub known_first : (p : List ℕ) → p ≡ first_picture → Known p [] 0
unfolding start after gives
known_first p e = ([], record { pictures = e; keeps = refl }, refl)

module _ (p k : List ℕ) (w : ℕ) (h : Known p k w) where
  -- a piece on
  pub known_gives : (s t : List ℕ) → t ≡ gives (with_line p k) s → Given t w
  known_gives s t e = (h.0, s, e ∙ held_gives (after start h.0) p k h.1 s, h.2)

  -- the characters that the input gives, counted with those of a piece more
  counts_on : (s : List ℕ) (v : ℕ) → v ≡ counted (w + length (gives (with_line p k) s)) → v ≡ counted (length (gives start (h.0 ++ s)))
  counts_on s v e =
      let l : length (gives start (h.0 ++ s)) ≡ length (gives start h.0) + length (gives (with_line p k) s) =
      ap length (gives_append start h.0 s) ∙ length-append (gives start h.0) (gives (after start h.0) s) ∙ ap (λ (t : List ℕ). length (gives start h.0) + length t) (sym (held_gives (after start h.0) p k h.1 s)) in
      e ∙ round_on w (length (gives start h.0)) (length (gives (with_line p k) s)) h.2 ∙ ap counted (sym l)

  pub known_after : (s q l : List ℕ) (v : ℕ) → Held (after (with_line p k) s) q l → v ≡ counted (w + length (gives (with_line p k) s)) → Known q l v
  known_after s q l v g e = (h.0 ++ s, rw (after_append start h.0 s) (held_after (after start h.0) p k h.1 s q l g), counts_on s v e)

  -- a count stays below where it comes round
  pub known_count : w ≡ counted (w + 0)
  known_count = round_none w (length (gives start h.0)) h.2

  pub known_picture : (s q : List ℕ) → q ≡ (after (with_line p k) s).picture → Reached q
  known_picture s q e = (h.0 ++ s, e ∙ held_picture (after start h.0) p k h.1 s ∙ ap (λ (a : State). a.picture) (sym (after_append start h.0 s)))

  pub known_part : (s q : List ℕ) → ((n : ℕ) × (q ≡ (after (with_line p k) (take n s)).picture)) → Reached q
  known_part s q e = known_picture (take e.0 s) q e.1

  -- no further
  pub known_reached : Reached p
  known_reached = (h.0, h.1.pictures)
