-- A line's answer as it stands in the output's room. Assumes nothing.
use Rattle.std.proofs.Common.{◌≡◌, ℕ, ◌+◌, ◌*◌, ◌<◌, ◌≤◌, min, ◌≢◌, List, [], ◌∷◌, ◌++◌, length, take, sym, refl, ap, ◌∙◌, append-nil, arith, length-take, take-take, ne_eqb}
use lib.Seq.{sets}
use Rattle.program_writing.specs.Texts.{past, answer_text, answers_text, with_answer}
use Rattle.program_writing.proofs.Writer.{answer_behind, answer_past}
use Rattle.program_lines.specs.Frames.{Frame, reports, frame}
use Rattle.program_reports.specs.Reports.{reported}
use Rattle.program_lines.proofs.Kept.{kept_in_room}
use Rattle.program_replies.specs.Reply.{reply, Replied}
use Rattle.program_session.specs.Session.{line_text, line_picture}
use Rattle.program_session.specs.Rooms.{most_kept, longest_answer, Answered, Ended}
use Rattle.program_session.specs.Pieces.{with_line, step, step_text, after, gives, last_feed}
use Rattle.program_session.proofs.States.{same_text, same_picture}

-- a reply of at most eight longwords, written where there is room for it, answers its line
pub reply_answers : (line p q e d a : List ℕ) (r n : ℕ) → Replied (reply (frame line) p) r q e d → r ≤ 8 → n + longest_answer ≤ length a
    → Answered line p q a n (with_answer a n (take r d)) (past a (past a n (8 * length (take r d))) 1)
unfolding line_text line_picture answers_text
reply_answers line p q e d a r n h l m =
    let ws = take r d in
    let k : length ws ≤ 8 = rw (length-take r d) (omega arith) in
    let f : n + 8 * length ws < length a = omega arith in
    let g : answers_text (reply (frame line) p).lines ≡ answer_text ws = ap answers_text h.gives ∙ append-nil (answer_text ws) in
    rw (answer_past a n ws f)
    (record { leaves = h.leaves; puts = answer_behind a n ws f ∙ ap (λ (t : List ℕ). take n a ++ t) (sym g); within = omega arith })

-- a report that is written behind what is used answers its line
pub report_answers : (line p q a b : List ℕ) (top n r : ℕ) → (frame line ≡ reports top) × (q ≡ p) → (r ≤ n + longest_answer) × (take r b ≡ take n a ++ answers_text (reported q top)) → Answered line p q a n b r
unfolding line_text line_picture
report_answers line p q a b top n r e h = record {
  leaves = e.1 ∙ ap (λ (f : Frame). (reply f p).picture) (sym e.0);
  puts = h.1 ∙ ap (λ (s : List ℕ). take n a ++ answers_text (reported s top)) e.1 ∙ ap (λ (f : Frame). take n a ++ answers_text (reply f p).lines) (sym e.0);
  within = h.0;
}

-- a line is answered by what is kept of it
pub kept_answers : (line part p q a : List ℕ) (k n : ℕ) (b : List ℕ) (r : ℕ) → most_kept ≡ length line → k ≤ length line
    → Answered (take (min (length line) (k + length part)) (sets line k part)) p q a n b r → Answered (take k line ++ part) p q a n b r
kept_answers line part p q a k n b r e l h =
    let s = take (min (length line) (k + length part)) (sets line k part) in
    let t = take k line ++ part in
    let x : s ≡ take most_kept t = rw e (kept_in_room line k part l) in
    let y : take most_kept s ≡ take most_kept t = ap (take most_kept) x ∙ take-take most_kept most_kept t (omega arith) in
    record { leaves = h.leaves ∙ same_picture s t y p; puts = h.puts ∙ ap (λ (u : List ℕ). take n a ++ u) (same_text s t y p); within = h.within }

-- the end of input answers what is kept of a line
pub nothing_ends : (p b : List ℕ) → Ended (with_line p []) p b 0
unfolding last_feed after gives
nothing_ends p b = record { leaves = refl; fits = omega arith; puts = refl }

pub line_ends : (p k q b : List ℕ) (r : ℕ) → length k ≢ 0 → r ≤ length b → q ≡ line_picture k p → take r b ≡ line_text k p → Ended (with_line p k) q b r
unfolding last_feed after gives step step_text
line_ends p k q b r l m e f =
    let z : last_feed (with_line p k) ≡ 10 ∷ [] = rw (ne_eqb (length k) 0 l) in
    record { leaves = rw z e; fits = m; puts = rw (z, append-nil) f }
