-- What $2 answers is the member with the next greater tag, and what its record says.
use Prim.Native.Nat.{ℕ, ◌+◌, ◌≤◌}
use mathlib.Core.Path.{◌≡◌, refl, ◌∙◌}
use mathlib.Core.Bool.{Bool, true, false, cond}
use mathlib.Core.Logic.{⊎_elim, inl, inr}
use mathlib.Core.List.{List}
use native.Mathlib.Omega.{arith}
use lib.IntN.{pos}
use lib.ListN.{length, length-set}
use lib.Seq.{get_or-set_same, get_or-set_other}
use borrow.Author.Tests.{eq-eqb, ne_eqb}
use Rattle.words.specs.Words.{word, put}
use Rattle.words.specs.Signed.{eq_z}
use Rattle.words.proofs.Signed.{eq_z_true}
use Rattle.picture.specs.Keys.{done}
use Rattle.picture.specs.Records.{number, owner, base, priority, timeout}
use Rattle.picture.specs.Numbers.{tag, position, live}
use Rattle.picture.specs.declared.Table.TheVariants.{Jobs}
use Rattle.picture.proofs.Records.{used_below}
use Rattle.sound.specs.Sound.{sound}
use Rattle.calls.specs.Outcome.{Outcome, succeed}
use Rattle.calls.specs.Call.{outcome}
use Rattle.calls.specs.Found.{job_position}
use Rattle.calls.specs.Registers.{D1, D2, D3, A0, A1, meant}
use Rattle.calls.proofs.Call.{where_all_pass, done_only_where_all_pass, refusals}
use Rattle.calls.proofs.Found.{job_stands, job_that_passes_is_live, job_check_gives_no_other}
use Rattle.tree.specs.Tree.{tree, in_tree}
use Rattle.law_owners.specs.Under.{Under}
use Rattle.law_owners.proofs.Members.{in_tree_says, tree_says, tree_has}
use Rattle.law_owners.proofs.Owners.{owners_in_order}
use Rattle.asking.specs.Next.{next_member}
use Rattle.asking.specs.Ask.{standing, room, answered, ask, top_position}
use Rattle.law_asking.specs.Answer.{NextMember, Answers}
use Rattle.law_asking.proofs.Next.{the_next_member_has_the_next_greater_tag}

module _ (p : List ℕ) (s : sound p ≡ true) (t : ℕ) where
  -- the computed next member, in the words of the tree
  pub next_of_the_tree : (g : ℕ) → NextMember p t g (next_member p (tree p t) g)
  next_of_the_tree g =
      let N = the_next_member_has_the_next_greater_tag p (tree p t) g in
      record {
        some = ⊎_elim inl (λ w. let m = tree_says p (owners_in_order p s) t w.0 w.1.0 w.1.1.0 in inr (w.0, (m.0, (m.1, w.1.1.1)))) N.some;
        least = λ k u m. N.least k (used_below p Jobs k u) (tree_has p (owners_in_order p s) t k u m);
      }

  -- the registers behind one another: what is written last at a place is read there
  module _ (k x : ℕ) (d : List ℕ) (l : length d ≡ 8) where
    abbrev n1 : ℕ
    n1 = next_member p (tree p t) (tag (number p Jobs k))

    abbrev d1 : List ℕ
    d1 = put d 1 n1

    abbrev d2 : List ℕ
    d2 = put d1 2 (owner p Jobs k)

    abbrev d3 : List ℕ
    d3 = put d2 3 (standing p k)

    abbrev d4 : List ℕ
    d4 = put d3 4 (room p k)

    abbrev d5 : List ℕ
    d5 = put d4 5 0

    abbrev d0 : List ℕ
    d0 = put d5 0 x

    in_D1 : D1 d0 ≡ n1
    in_D1 =
        get_or-set_other d5 0 1 x 0 (λ q. omega arith)
        ∙ get_or-set_other d4 5 1 0 0 (λ q. omega arith)
        ∙ get_or-set_other d3 4 1 (room p k) 0 (λ q. omega arith)
        ∙ get_or-set_other d2 3 1 (standing p k) 0 (λ q. omega arith)
        ∙ get_or-set_other d1 2 1 (owner p Jobs k) 0 (λ q. omega arith)
        ∙ get_or-set_same d 1 n1 0 (omega arith)

    in_D2 : D2 d0 ≡ owner p Jobs k
    in_D2 =
        get_or-set_other d5 0 2 x 0 (λ q. omega arith)
        ∙ get_or-set_other d4 5 2 0 0 (λ q. omega arith)
        ∙ get_or-set_other d3 4 2 (room p k) 0 (λ q. omega arith)
        ∙ get_or-set_other d2 3 2 (standing p k) 0 (λ q. omega arith)
        ∙ get_or-set_same d1 2 (owner p Jobs k) 0 (simp length-set (omega arith))

    in_D3 : D3 d0 ≡ standing p k
    in_D3 =
        get_or-set_other d5 0 3 x 0 (λ q. omega arith)
        ∙ get_or-set_other d4 5 3 0 0 (λ q. omega arith)
        ∙ get_or-set_other d3 4 3 (room p k) 0 (λ q. omega arith)
        ∙ get_or-set_same d2 3 (standing p k) 0 (simp length-set (omega arith))

    in_A0 : A0 d0 ≡ room p k
    in_A0 =
        get_or-set_other d5 0 4 x 0 (λ q. omega arith)
        ∙ get_or-set_other d4 5 4 0 0 (λ q. omega arith)
        ∙ get_or-set_same d3 4 (room p k) 0 (simp length-set (omega arith))

    in_A1 : A1 d0 ≡ 0
    in_A1 = get_or-set_other d5 0 5 x 0 (λ q. omega arith) ∙ get_or-set_same d4 5 0 0 (simp length-set (omega arith))

    -- D1 has the next member's number
    pub told_in_D1 : D1 (put (answered p d t k) 0 x) ≡ next_member p (tree p t) (tag (number p Jobs k))
    unfolding answered
    told_in_D1 = in_D1

    -- D0 has its key, and A2 and A3 stay
    pub told_in_D0 : word (put (answered p d t k) 0 x) 0 ≡ x
    unfolding answered
    told_in_D0 = get_or-set_same d5 0 x 0 (simp length-set (omega arith))

    pub others_stay : (i : ℕ) → 6 ≤ i → word (put (answered p d t k) 0 x) i ≡ word d i
    unfolding answered
    others_stay i h =
        get_or-set_other d5 0 i x 0 (λ q. omega arith)
        ∙ get_or-set_other d4 5 i 0 0 (λ q. omega arith)
        ∙ get_or-set_other d3 4 i (room p k) 0 (λ q. omega arith)
        ∙ get_or-set_other d2 3 i (standing p k) 0 (λ q. omega arith)
        ∙ get_or-set_other d1 2 i (owner p Jobs k) 0 (λ q. omega arith)
        ∙ get_or-set_other d 1 i n1 0 (λ q. omega arith)

    standing_awake : timeout p k ≡ pos 0 → standing p k ≡ priority p k
    unfolding standing
    standing_awake z = rw (z) (omega arith)

    standing_suspended : (timeout p k ≡ pos 0 → ⊥) → standing p k ≡ 0xFF00_0000 + priority p k
    unfolding standing
    standing_suspended n = go (eq_z (timeout p k) (pos 0)) refl
      where
        go : (b : Bool) → eq_z (timeout p k) (pos 0) ≡ b → cond b 0 0xFF00_0000 + priority p k ≡ 0xFF00_0000 + priority p k
        go true e = absurd (n (eq_z_true (timeout p k) (pos 0) e))
        go false e = refl

    room_zero : k ≡ 0 → room p k ≡ 0
    unfolding room
    room_zero z = rw (eq-eqb k 0 z)

    room_first : (k ≡ 0 → ⊥) → room p k ≡ base p Jobs k + 16
    unfolding room
    room_first n = rw (ne_eqb k 0 n)

    -- what $2 answers for the job at position k
    pub answers_so : Answers p t k (put (answered p d t k) 0 x)
    unfolding answered
    answers_so = record {
      next = rw in_D1 (next_of_the_tree (tag (number p Jobs k)));
      its_owner = in_D2;
      awake = λ z. in_D3 ∙ standing_awake z;
      suspended = λ n. in_D3 ∙ standing_suspended n;
      job_zero = λ z. in_A0 ∙ room_zero z;
      first_byte = λ n. in_A0 ∙ room_first n;
      nought = in_A1;
    }

-- where $2 is done, the job asked is a member of the tree of D2, and it is answered for that job
pub ask_where_done : (P : Outcome → Type 0) (p d : List ℕ) → sound p ≡ true
    → (live p Jobs (D2 d) ≡ true → live p Jobs (meant p (D1 d)) ≡ true → Under p (position (D2 d)) (position (meant p (D1 d))) → P (succeed p (answered p d (position (D2 d)) (position (meant p (D1 d))))))
    → (outcome ask p d).key ≡ done → P (outcome ask p d)
unfolding ask
ask_where_done P p d s f h =
    let r = done_only_where_all_pass ask p d (search (refusals, job_check_gives_no_other) depth 12) h in
    let top : live p Jobs (D2 d) ≡ true = job_that_passes_is_live p (D2 d) (search) in
    let job : live p Jobs (meant p (D1 d)) ≡ true = job_that_passes_is_live p (meant p (D1 d)) (search) in
    let i : in_tree p (top_position p d) (job_position p d) ≡ true = search in
    let u : in_tree p (position (D2 d)) (position (meant p (D1 d))) ≡ true = rw (job_stands p (D2 d) top, job_stands p (meant p (D1 d)) job) at i in
    rw (where_all_pass ask p d r, job_stands p (D2 d) top, job_stands p (meant p (D1 d)) job) (f top job (in_tree_says p (owners_in_order p s) (position (D2 d)) (position (meant p (D1 d))) u).1)
