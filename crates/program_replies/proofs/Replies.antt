-- Replies as they stand in the registers' room. Assumes nothing.
use Prim.Native.Nat.{ℕ, ◌≤◌}
use mathlib.Core.Path.{◌≡◌, refl, sym, ap, subst, ◌∙◌}
use mathlib.Core.List.{List, [], ◌∷◌}
use native.Mathlib.Omega.{arith}
use lib.IntN.{ℤ}
use lib.ListN.{length, take, drop_of_length-le}
use lib.Seq.{sets, length-sets, take_all}
use Rattle.calls.specs.Outcome.{Meets}
use Rattle.program_writing.proofs.Room.{first_of, rest_of, all_of}
use Rattle.manager.specs.Door.{called}
use Rattle.program_replies.specs.declared.Answer.{Answer}
use Rattle.program_replies.specs.declared.Answer.TheVariants.{Longwords, Report}
use Rattle.program_lines.specs.Frames.{Frame, reports, registers_of, name_of}
use Rattle.program_lines.proofs.Meaning.{Trapped}
use Rattle.program_replies.specs.Reply.{one_line, reply, Replied, Comes}

-- a reply put at the start of a room is given
pub put_there : (ws q a : List ℕ) → length ws ≤ length a → Replied (one_line ws q) (length ws) q a (sets a 0 ws)
put_there ws q a l = record { counts = rw (length-sets a 0 ws) l; leaves = refl; gives = ap (λ (vs : List ℕ). vs ∷ []) (sym (first_of a ws l)); keeps = rest_of a ws l }

-- a line without registers leaves its room, and its reply is that of its kind
pub lone_replied : (f g : Frame) (r : ℕ) (p q a b d : List ℕ) → f ≡ g → registers_of g ≡ [] → b ≡ sets a 0 (registers_of f) → Replied (reply g p) r q b d → Replied (reply f p) r q a d
lone_replied f g r p q a b d e n x h =
    let z : b ≡ a = x ∙ ap (sets a 0) (ap registers_of e ∙ n) in
    subst (λ (y : Frame). Replied (reply y p) r q a d) (sym e) (subst (λ (w : List ℕ). Replied (reply g p) r q w d) z h)

-- what a trap answers on the registers and the name of a line is the line's reply
pub trap_replied : (f : Frame) (n k : ℕ) (p a b q d : List ℕ) (r : ℤ) → Trapped f n k → 8 ≡ length a → 223 ≡ length b
    → Meets (called n p (sets a 0 (registers_of f)) (take k (sets b 0 (name_of f)))) r q d → length d ≡ 8 → Replied (reply f p) 8 q a d
trap_replied f n k p a b q d r t x y m l =
    let s = t.short in
    let e = t.eight in
    let g = all_of a (registers_of f) (e ∙ x) in
    let z = t.counts in
    let w : take k (sets b 0 (name_of f)) ≡ name_of f = ap (λ (i : ℕ). take i (sets b 0 (name_of f))) (sym z) ∙ first_of b (name_of f) (omega arith) in
    let o : Meets (called n p (registers_of f) (name_of f)) r q d = rw (g, w) at m in
    subst (λ (h : Frame). Replied (reply h p) 8 q a d) (sym t.is)
    (record { counts = omega arith; leaves = o.leaves; gives = ap (λ (vs : List ℕ). vs ∷ []) (sym (take_all 8 d (omega arith) ∙ o.gives)); keeps = drop_of_length-le d {i = 8} (omega arith) ∙ sym (drop_of_length-le a {i = 8} (omega arith)) })

-- what a frame comes to, by its answer
module _ (f : Frame) (p q a d : List ℕ) (x : Answer) (h : Comes f p x q a d) where
  pub comes_longwords : (r : ℕ) → x ≡ Longwords r → Replied (reply f p) r q a d
  comes_longwords r e = subst (λ (y : Answer). Comes f p y q a d) e h

  pub comes_report : (top : ℕ) → x ≡ Report top → (f ≡ reports top) × (q ≡ p)
  comes_report top e = subst (λ (y : Answer). Comes f p y q a d) e h
