-- Lines of a report, written one after the other.
use Prim.Native.Nat.{ℕ, ◌+◌, ◌*◌, ◌≤◌, ◌<◌}
use mathlib.Core.Path.{◌≡◌, sym, ap, ◌∙◌}
use mathlib.Core.List.{List, [], ◌∷◌, ◌++◌, map, append-nil, append_assoc}
use native.Mathlib.Omega.{arith}
use native.Mathlib.Numerals.{add-one}
use lib.ListN.{length, get_or, take, drop, drop_of_length-le}
use lib.Seq.{drop-cons}
use Rattle.program_writing.specs.Texts.{past, answer_text, with_answer, answers_text}
use Rattle.program_writing.proofs.Writer.{answer_behind, answer_past}
use Rattle.report_lines.specs.declared.JobLine.{JobLine}
use Rattle.report_table.specs.Longwords.{line_longwords}

-- what the lines from i on give
abbrev pub left : List JobLine → ℕ → List ℕ
left ls i = answers_text (map line_longwords (drop i ls))

-- the characters of a text before a place are used, and what is left to write stands behind them
abbrev pub Goes : List ℕ → List ℕ → ℕ → List JobLine → ℕ → Type 0
Goes all s place ls i = all ≡ take place s ++ left ls i

pub goes_none : (all s : List ℕ) (place : ℕ) (ls : List JobLine) (i : ℕ) → length ls ≤ i → Goes all s place ls i → take place s ≡ all
unfolding answers_text
goes_none all s place ls i l h =
    let z : drop i ls ≡ [] = drop_of_length-le ls {i = i} l in
    sym (h ∙ rw (z, append-nil))

-- an answer of five longwords takes 41 characters
pub place_behind : (s : List ℕ) (place : ℕ) (l : JobLine) (ws : List ℕ) (r : ℕ) → place + 41 ≤ length s → ws ≡ line_longwords l → r ≡ past s (past s place (8 * length ws)) 1 → r ≡ place + 41
place_behind s place l ws r m w e = e ∙ ap (λ (vs : List ℕ). past s (past s place (8 * length vs)) 1) w ∙ answer_past s place (line_longwords l) (omega arith) ∙ omega arith

pub goes_on : (all s t : List ℕ) (place r : ℕ) (ls : List JobLine) (i : ℕ) (d : JobLine) (ws : List ℕ) → i < length ls → place + 41 ≤ length s
    → ws ≡ line_longwords (get_or ls i d) → t ≡ with_answer s place ws → r ≡ place + 41 → Goes all s place ls i → Goes all t r ls (i + 1)
unfolding answers_text
goes_on all s t place r ls i d ws a m w f e h =
    let l = get_or ls i d in
    let y : drop i ls ≡ l ∷ drop (i + 1) ls = drop-cons ls i d a ∙ rw (add-one i) in
    let u : t ≡ with_answer s place (line_longwords l) = f ∙ ap (with_answer s place) w in
    let k : take (place + 8 * length (line_longwords l) + 1) t ≡ take place s ++ answer_text (line_longwords l) = rw u (answer_behind s place (line_longwords l) (omega arith)) in
    let q : r ≡ place + 8 * length (line_longwords l) + 1 = omega arith in
    h ∙ rw (y, q, k, append_assoc)

-- a key alone takes 9
pub key_behind : (s t : List ℕ) (place r x y : ℕ) → place + 41 ≤ length s → y ≡ x → t ≡ with_answer s place (y ∷ []) → r ≡ past s (past s place 8) 1
    → (r ≡ place + 9) × (take r t ≡ take place s ++ answers_text ((x ∷ []) ∷ []))
unfolding answers_text
key_behind s t place r x y m e f g =
    let q : r ≡ place + 8 * 1 + 1 = g ∙ answer_past s place (x ∷ []) (omega arith) in
    (q ∙ omega arith, rw (q, f, e, append-nil) (answer_behind s place (x ∷ []) (omega arith)))
