-- What stays: the facts of a picture p hold of a picture q that agrees with it where they look.
use Prim.Native.Nat.{ℕ, zero, suc, ◌+◌, ◌-◌, ◌*◌, ◌/◌, ◌%◌, ◌≤◌, ◌<◌}
use mathlib.Core.Path.{◌≡◌, refl, sym, ap, ◌∙◌, subst}
use mathlib.Core.Bool.{Bool, true, false, ◌&&◌}
use mathlib.Core.Logic.{⊎_elim, ◌⊎◌, inl, inr}
use mathlib.Core.List.{List, [], ◌∷◌}
use native.Mathlib.Omega.{arith}
use lib.ListN.{length}
use lib.Dec.{ltb, leb, eqb}
use Rattle.words.specs.Words.{word}
use Rattle.words.specs.Each.{In}
use Rattle.words.proofs.Tests.{both, lt_or_ge, false_true}
use Rattle.picture.specs.Layout.{nobody, size_word, current_word, last_word, heap_word, zero_word, heap_base, positions, width, from, upto}
use Rattle.picture.specs.Records.{slot, field, number, owner, base, priority, accumulated, timeout, waited_for, ending, used, ready, members}
use Rattle.picture.specs.Numbers.{tag, position, live}
use Rattle.picture.specs.declared.Table.{Table}
use Rattle.picture.specs.declared.Table.TheVariants.{Jobs, Channels}
use Rattle.picture.specs.declared.Area.{Area}
use Rattle.picture.specs.declared.Area.TheVariants.{Heap, Transient}
use Rattle.picture.proofs.Records.{slot_within, used_below}
use Rattle.picture.proofs.Numbers.{Live, live_is, is_live}
use Rattle.blocks.specs.Header.{size, kind, kind_of, queue_kind, job_kind, holder, start, queue_length, queue_oldest, queue_count, queue_zero, rounded}
use Rattle.blocks.specs.Walk.{good, next, starts, blocks}
use Rattle.blocks.proofs.Walk.{Good, is_good, good_is, next_good, next_up, next_le, starts_end, starts_more}
use Rattle.blocks.proofs.Starts.{starts_in, next_same}
use Rattle.sound_matching.specs.Match.{first, area_of, has_block}
use Rattle.sound_matching.proofs.Counts.{Matches}
use Rattle.sound_matching.proofs.Matched.{Matched}
use Rattle.sound_records.specs.Rules.{may_be_unowned}
use Rattle.sound_facts.proofs.View.{has_block_used}
use Rattle.sound_facts.proofs.Sound.{Sizes, Queue, Waits, Owned, Entries, Jobs_fine, Channels_fine, Fits, Tiled, Current, Sound}

-- positions in use, entries with a block, and live numbers
module _ (p q : List ℕ) (t : Table) (m : members q t ≡ members p t) where
  pub used_same : (k : ℕ) → used q t k ≡ used p t k
  unfolding used
  used_same k = rw m

  pub has_block_same : (k : ℕ) → has_block q t k ≡ has_block p t k
  unfolding has_block
  has_block_same k = rw (used_same k)

  pub live_same : ((k : ℕ) → k < positions t → number q t k ≡ number p t k) → (n : ℕ) → live q t n ≡ live p t n
  unfolding live
  live_same s n = rw (used_same (position n)) (go (used p t (position n)) refl)
    where
      go : (b : Bool) → used p t (position n) ≡ b → b && eqb (number q t (position n)) n ≡ b && eqb (number p t (position n)) n
      go true u = rw (s (position n) (used_below p t (position n) u))
      go false u = refl

-- a live number stays live
abbrev pub Lives : List ℕ → List ℕ → Type 0
Lives p q = (n : ℕ) → live p Jobs n ≡ true → live q Jobs n ≡ true

pub owned_kept : (p q : List ℕ) (may : Bool) (n : ℕ) → Lives p q → Owned p may n → Owned q may n
owned_kept p q may n l o = ⊎_elim inl (λ e. inr (l n e)) o

-- the records of a table
pub record EntriesSame (p q : List ℕ) (t : Table) : Type 0 where
  pub mask : members q t ≡ members p t
  pub last : word q (last_word t) ≡ word p (last_word t)
  pub numbers : (k : ℕ) → k < positions t → number q t k ≡ number p t k
  pub owners : (k : ℕ) → k < positions t → owner q t k ≡ owner p t k

pub entries_same : (p q : List ℕ) (t : Table) → EntriesSame p q t → Lives p q → ((k f : ℕ) → k < positions t → f < width t → used q t k ≡ false → field q t k f ≡ 0) → Entries p t → Entries q t
entries_same p q t s l z E =
    let u : (k : ℕ) → used q t k ≡ true → used p t k ≡ true = λ k h. sym (used_same p q t s.mask k) ∙ h in
    let b : (k : ℕ) → used q t k ≡ true → k < positions t = λ k h. used_below q t k h in
    record {
      unused = z;
      place = λ k h. rw (s.numbers k (b k h)) (E.place k (u k h));
      tagged = λ k c. let d = sym (has_block_same p q t s.mask k) ∙ c in rw (s.numbers k (b k (has_block_used q t k c))) (E.tagged k d);
      once = λ j k g h e. E.once j k (u j g) (u k h) (rw (s.numbers j (b j g), s.numbers k (b k h)) at e);
      owned = λ k h. rw (s.owners k (b k h)) (owned_kept p q (may_be_unowned t) (owner p t k) l (E.owned k (u k h)));
      given = λ k h. rw (s.numbers k (b k h), s.last) (E.given k (u k h));
    }

-- the blocks from b to e depend on the longwords between
starts_by : (n : ℕ) (p q : List ℕ) (i e : ℕ) → e - i ≤ n → ((j : ℕ) → i ≤ j → j < e → word q j ≡ word p j) → starts q i e ≡ starts p i e
starts_by zero p q i e h s = starts_end q i e (omega arith) ∙ sym (starts_end p i e (omega arith))
starts_by (suc n) p q i e h s = ⊎_elim
    (λ (l : i < e).
    let u = next_up p i e l in
    starts_more q i e l ∙ ap (λ (x : ℕ). i ∷ starts q x e) (next_same p q i e (s i (omega arith) l))
    ∙ ap (λ (x : List ℕ). i ∷ x) (starts_by n p q (next p i e) e (omega arith) (λ j a b. s j (omega arith) b))
    ∙ sym (starts_more p i e l))
    (λ (l : e ≤ i). starts_end q i e l ∙ sym (starts_end p i e l))
    (lt_or_ge i e)

pub starts_between : (p q : List ℕ) (i e : ℕ) → ((j : ℕ) → i ≤ j → j < e → word q j ≡ word p j) → starts q i e ≡ starts p i e
starts_between p q i e s = starts_by (e - i) p q i e (omega arith) s

-- the block after a block is a block
next_by : (n : ℕ) (p : List ℕ) (b e i : ℕ) → e - b ≤ n → In i (starts p b e) → next p i e < e → In (next p i e) (starts p b e)
next_by zero p b e i h m l = absurd (subst (In i) (starts_end p b e (omega arith)) m)
next_by (suc n) p b e i h m l = ⊎_elim
    (λ (o : b < e). let u = next_up p b e o in rw (starts_more p b e o) (go o u (rw (starts_more p b e o) at m) (λ x. next_by n p (next p b e) e i (omega arith) x l)))
    (λ (o : e ≤ b). absurd (subst (In i) (starts_end p b e o) m))
    (lt_or_ge b e)
  where
    go : b < e → (b < next p b e) × (next p b e ≤ e) → (i ≡ b) ⊎ In i (starts p (next p b e) e) → (In i (starts p (next p b e) e) → In (next p i e) (starts p (next p b e) e)) → (next p i e ≡ b) ⊎ In (next p i e) (starts p (next p b e) e)
    go o u (inl z) r = inr (rw (starts_more p (next p b e) e (subst (λ (x : ℕ). next p x e < e) z l)) (inl (ap (λ (x : ℕ). next p x e) z)))
    go o u (inr y) r = inr (r y)

pub next_in : (p : List ℕ) (b e i : ℕ) → In i (starts p b e) → next p i e < e → In (next p i e) (starts p b e)
next_in p b e i m l = next_by (e - b) p b e i (omega arith) m l

-- a good block lies within its area
pub within : (p : List ℕ) (i e : ℕ) → good p i e ≡ true → i < e → i + size p i / 4 ≤ e
within p i e g l = let h = is_good p i e g in let x = h.within in omega arith

-- an area whose longwords are the same, and whose owners are still live
pub record AreaSame (p q : List ℕ) (a : Area) : Type 0 where
  pub starts : from q a ≡ from p a
  pub stops : upto q a ≡ upto p a
  pub same : (i : ℕ) → from p a ≤ i → i < upto p a → word q i ≡ word p i

pub blocks_same : (p q : List ℕ) (a : Area) → AreaSame p q a → blocks q a ≡ blocks p a
blocks_same p q a s = rw (s.starts, s.stops) (starts_between p q (from p a) (upto p a) s.same)

module _ (p q : List ℕ) (a : Area) (s : AreaSame p q a) (T : Tiled p a) where
  -- a longword of a block
  pub in_block : (i f : ℕ) → In i (blocks p a) → f < size p i / 4 → word q (i + f) ≡ word p (i + f)
  in_block i f m l =
      let b = starts_in p (from p a) (upto p a) i m in
      let w = within p i (upto p a) (T.whole i m) b.1 in
      s.same (i + f) (omega (arith, b.0)) (omega arith)

  four : (i : ℕ) → In i (blocks p a) → 4 ≤ size p i / 4
  four i m = let g = is_good p i (upto p a) (T.whole i m) in let l = g.least in omega arith

  head : (i : ℕ) → In i (blocks p a) → word q i ≡ word p i
  head i m = let b = starts_in p (from p a) (upto p a) i m in s.same i b.0 b.1

  pub kind_same : (i : ℕ) → In i (blocks p a) → kind q i ≡ kind p i
  kind_same i m = let f = four i m in in_block i 1 m (omega arith)

  pub holder_same : (i : ℕ) → In i (blocks p a) → holder q i ≡ holder p i
  holder_same i m = let f = four i m in in_block i 2 m (omega arith)

  start_same : (i : ℕ) → In i (blocks p a) → start q i ≡ start p i
  start_same i m = let f = four i m in in_block i 3 m (omega arith)

  good_same : (i : ℕ) → In i (blocks p a) → good q i (upto p a) ≡ good p i (upto p a)
  unfolding good
  good_same i m = rw (head i m)

  queue_same : (i : ℕ) → In i (blocks p a) → Queue p i → Queue q i
  queue_same i m u =
      let l : 8 ≤ size p i / 4 = let z = u.long in let o = u.least in rw z (omega arith) in
      let n = in_block i 4 m (omega arith) in
      record {
        least = rw n u.least;
        most = rw n u.most;
        long = rw (head i m, n) u.long;
        oldest = rw (in_block i 5 m (omega arith), n) u.oldest;
        held = rw (in_block i 6 m (omega arith), n) u.held;
        nought = rw (in_block i 7 m (omega arith)) u.nought;
      }

  pub tiled_same : Lives p q → Tiled q a
  tiled_same l =
      let B = blocks_same p q a s in
      let old : (i : ℕ) → In i (blocks q a) → In i (blocks p a) = λ i m. subst (In i) B m in
      record {
        whole = λ i m. rw s.stops (good_same i (old i m) ∙ T.whole i (old i m));
        fits = λ i m. subst (Fits a) (sym (kind_same i (old i m))) (T.fits i (old i m));
        starts_zero = λ i m. rw (kind_same i (old i m), start_same i (old i m)) (T.starts_zero i (old i m));
        free_zero = λ i m e. rw (holder_same i (old i m), start_same i (old i m)) (T.free_zero i (old i m) (sym (kind_same i (old i m)) ∙ e));
        queue = λ i m e. queue_same i (old i m) (T.queue i (old i m) (sym (kind_same i (old i m)) ∙ e));
        lone = λ i m e n z. lone_same i (old i m) (sym (kind_same i (old i m)) ∙ e) (rw s.stops at n) (rw s.stops at z);
        held = λ i m. held_same i (old i m) (T.held i (old i m));
      }
    where
      lone_same : (i : ℕ) → In i (blocks p a) → kind p i ≡ 0 → next q i (upto p a) < upto p a → kind q (next q i (upto p a)) ≡ 0 → ⊥
      lone_same i m e n z =
          let x : next q i (upto p a) ≡ next p i (upto p a) = next_same p q i (upto p a) (head i m) in
          let y : next p i (upto p a) < upto p a = rw x at n in
          let w = next_in p (from p a) (upto p a) i m y in
          T.lone i m e y (sym (kind_same (next p i (upto p a)) w) ∙ (rw x at z))

      held_same : (i : ℕ) → In i (blocks p a) → (kind p i ≡ 0) ⊎ (((kind p i ≡ job_kind) × (holder p i ≡ nobody)) ⊎ (live p Jobs (holder p i) ≡ true)) → (kind q i ≡ 0) ⊎ (((kind q i ≡ job_kind) × (holder q i ≡ nobody)) ⊎ (live q Jobs (holder q i) ≡ true))
      held_same i m o = rw (kind_same i m, holder_same i m) (⊎_elim inl (λ x. inr (⊎_elim inl (λ y. inr (l (holder p i) y)) x)) o)

-- entries and blocks that are the same still match
pub record MatchSame (p q : List ℕ) (t : Table) : Type 0 where
  pub mask : members q t ≡ members p t
  pub owners : (k : ℕ) → k < positions t → owner q t k ≡ owner p t k
  pub bases : (k : ℕ) → k < positions t → base q t k ≡ base p t k
  pub walk : blocks q (area_of t) ≡ blocks p (area_of t)
  pub kinds : (i : ℕ) → In i (blocks p (area_of t)) → kind q i ≡ kind p i
  pub holders : (i : ℕ) → In i (blocks p (area_of t)) → holder q i ≡ holder p i

pub matched_same : (p q : List ℕ) (t : Table) → MatchSame p q t → Matched p t → Matched q t
matched_same p q t s M =
    let old : (i : ℕ) → In i (blocks q (area_of t)) → In i (blocks p (area_of t)) = λ i m. subst (In i) s.walk m in
    record {
      home = λ k l c. let h = M.home k l (sym (has_block_same p q t s.mask k) ∙ c) in (h.0, (subst (In h.0) (sym s.walk) h.1.0, onto k h.0 l h.1.0 h.1.1));
      heir = λ i m e. let h = M.heir i (old i m) (sym (s.kinds i (old i m)) ∙ e) in (h.0, (h.1.0, onto h.0 i h.1.0 (old i m) h.1.1));
      apart = λ j k i x y m v w. M.apart j k i x y (old i m) (back j i x (old i m) v) (back k i y (old i m) w);
    }
  where
    onto : (k i : ℕ) → k < positions t → In i (blocks p (area_of t)) → Matches p t k i → Matches q t k i
    onto k i l m o = record { has = has_block_same p q t s.mask k ∙ o.has; sorts = s.kinds i m ∙ o.sorts; place = s.bases k l ∙ o.place; held = s.owners k l ∙ o.held ∙ sym (s.holders i m) }

    back : (k i : ℕ) → k < positions t → In i (blocks p (area_of t)) → Matches q t k i → Matches p t k i
    back k i l m o = record { has = sym (has_block_same p q t s.mask k) ∙ o.has; sorts = sym (s.kinds i m) ∙ o.sorts; place = sym (s.bases k l) ∙ o.place; held = sym (s.owners k l) ∙ o.held ∙ s.holders i m }
