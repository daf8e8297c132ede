-- A table without the entries of a mask, and the jobs that are woken, longword by longword.
use Prim.Native.Nat.{ℕ, zero, suc, ◌+◌, ◌-◌, ◌*◌, ◌≤◌, ◌<◌, ◌^◌}
use mathlib.Core.Path.{◌≡◌, refl, sym, ap, ◌∙◌, subst}
use mathlib.Core.Bool.{Bool, true, false, ◌&&◌, not, cond}
use mathlib.Core.Logic.{⊎_elim, ◌⊎◌, inl, inr}
use mathlib.Core.List.{List}
use lib.ListN.{length, length-set}
use lib.Seq.{get_or-set_same, get_or-set_other}
use lib.Dec.{eqb}
use lib.IntN.{pos}
use native.Mathlib.Omega.{arith}
use native.Mathlib.Nat.{eq-or-lt_of_le, le_of_suc-le-suc, not-suc-le-zero}
use Rattle.words.specs.Words.{word, put, clear}
use Rattle.words.specs.Bits.{bit}
use Rattle.words.proofs.Tests.{lt_or_ge}
use Rattle.picture.specs.Layout.{first_job, positions, width, first_record, heap_base}
use Rattle.picture.specs.Records.{slot, field, waited_for, delivered, used, key_field, timeout_field, wait_field, with_key, with_timeout, with_wait, members}
use Rattle.picture.specs.declared.Table.{Table}
use Rattle.picture.specs.declared.Table.TheVariants.{Jobs, Channels}
use Rattle.picture.proofs.Records.{slot_within, used_is, used_past}
use Rattle.picture.proofs.Members.{Spares, holds_low, spares_past, positions_within, members_same, with_members_other, members_with}
use Rattle.masks.specs.Masks.{set_width, without}
use Rattle.masks.proofs.Masks.{without_at}
use Rattle.headers.specs.Header.{Outside}
use Rattle.law_areas.proofs.Clear.{clear_other, clear_zeros}
use Rattle.freeing.specs.Sweep.{named}
use Rattle.emptying.specs.Each.{each}
use Rattle.emptying.specs.Taken.{waits, woken, blanked, emptied}
use Rattle.emptying.proofs.Steps.{length_each, length_woken, length_blanked, length_emptied}

-- a longword that no step touches
pub each_other : (s : List ℕ → ℕ → List ℕ) (n : ℕ) (p : List ℕ) (x : ℕ) → ((q : List ℕ) (k : ℕ) → k < n → word (s q k) x ≡ word q x) → word (each s n p) x ≡ word p x
unfolding each
each_other s zero p x h = refl
each_other s (suc n) p x h = h (each s n p) n (omega arith) ∙ each_other s n p x (λ q k l. h q k (omega arith))

-- a longword that only the step at j touches
pub each_at : (s : List ℕ → ℕ → List ℕ) (n j : ℕ) (p : List ℕ) (x : ℕ) → j < n → ((q : List ℕ) (k : ℕ) → k < n → (k ≡ j → ⊥) → word (s q k) x ≡ word q x) → word (each s n p) x ≡ word (s (each s j p) j) x
unfolding each
each_at s zero j p x l h = absurd (not-suc-le-zero l)
each_at s (suc n) j p x l h = ⊎_elim
    (λ (e : j ≡ n). ap (λ (i : ℕ). word (s (each s i p) i) x) (sym e))
    (λ (m : j < n). h (each s n p) n (omega arith) (λ z. omega arith) ∙ each_at s n j p x m (λ q k i. h q k (omega arith)))
    (eq-or-lt_of_le (le_of_suc-le-suc l))

-- beside the records of a table
abbrev pub Beside : Table → ℕ → Type 0
Beside t x = Outside (first_record t) (first_record t + width t * positions t) x

beside_record : (t : Table) (k x : ℕ) → k < positions t → Beside t x → Outside (slot t k) (slot t k + width t) x
beside_record Jobs k x l (inl h) = inl (omega arith)
beside_record Jobs k x l (inr h) = inr (omega arith)
beside_record Channels k x l (inl h) = inl (omega arith)
beside_record Channels k x l (inr h) = inr (omega arith)

-- beside another record of the table
beside_other : (t : Table) (j k f : ℕ) → (k ≡ j → ⊥) → f < width t → Outside (slot t k) (slot t k + width t) (slot t j + f)
beside_other Jobs j k f n l = ⊎_elim (λ (h : j < k). inl (omega arith)) (λ (h : k ≤ j). inr (omega arith)) (lt_or_ge j k)
beside_other Channels j k f n l = ⊎_elim (λ (h : j < k). inl (omega arith)) (λ (h : k ≤ j). inr (omega arith)) (lt_or_ge j k)

-- the records stand behind the longwords before the tables
records_behind : (t : Table) → first_job ≤ first_record t
records_behind Jobs = omega arith
records_behind Channels = omega arith

-- one record
blanked_other : (t : Table) (m : ℕ) (p : List ℕ) (k x : ℕ) → Outside (slot t k) (slot t k + width t) x → word (blanked t m p k) x ≡ word p x
unfolding blanked
blanked_other t m p k x o = go (bit m k)
  where
    go : (b : Bool) → word (cond b (clear (width t) p (slot t k)) p) x ≡ word p x
    go true = clear_other (width t) p (slot t k) x o
    go false = refl

blanked_at : (t : Table) (m : ℕ) (p : List ℕ) (k f : ℕ) → heap_base ≤ length p → k < positions t → f < width t → word (blanked t m p k) (slot t k + f) ≡ cond (bit m k) 0 (word p (slot t k + f))
unfolding blanked
blanked_at t m p k f long l h = go (bit m k)
  where
    go : (b : Bool) → word (cond b (clear (width t) p (slot t k)) p) (slot t k + f) ≡ cond b 0 (word p (slot t k + f))
    go true = let w = slot_within t k l in clear_zeros (width t) p (slot t k) (slot t k + f) (omega arith) (omega arith) (omega arith)
    go false = refl

-- a table without the entries of m
module _ (p : List ℕ) (t : Table) (m : ℕ) where
  pub emptied_other : (x : ℕ) → Beside t x → Spares t x → word (emptied p t m) x ≡ word p x
  unfolding emptied
  emptied_other x b n =
      with_members_other (each (blanked t m) (positions t) p) t (without (members (each (blanked t m) (positions t) p) t) m) x n
      ∙ each_other (blanked t m) (positions t) p x (λ q k l. blanked_other t m q k x (beside_record t k x l b))

  module _ (long : heap_base ≤ length p) where
    pub emptied_record : (k f : ℕ) → k < positions t → f < width t → word (emptied p t m) (slot t k + f) ≡ cond (bit m k) 0 (word p (slot t k + f))
    unfolding emptied
    emptied_record k f l h =
        with_members_other (each (blanked t m) (positions t) p) t (without (members (each (blanked t m) (positions t) p) t) m) (slot t k + f) (let b = records_behind t in spares_past t (slot t k + f) (omega arith))
        ∙ each_at (blanked t m) (positions t) k p (slot t k + f) l (λ q j i n. blanked_other t m q j (slot t k + f) (beside_other t k j f n h))
        ∙ blanked_at t m (each (blanked t m) k p) k f (rw (length_each (blanked t m) (length_blanked t m) k p) long) l h
        ∙ ap (cond (bit m k) 0) (each_other (blanked t m) k p (slot t k + f) (λ q j i. blanked_other t m q j (slot t k + f) (beside_other t k j f (λ z. omega arith) h)))

    pub emptied_mask : members (emptied p t m) t ≡ without (members p t) m
    unfolding emptied
    emptied_mask =
        members_with (each (blanked t m) (positions t) p) t (without (members (each (blanked t m) (positions t) p) t) m) (rw (length_each (blanked t m) (length_blanked t m) (positions t) p) (omega arith))
        ∙ ap (λ (x : ℕ). without x m) (members_same p (each (blanked t m) (positions t) p) t (λ j h.
        let a = holds_low t j h in
        let b = records_behind t in
        each_other (blanked t m) (positions t) p j (λ q k l. blanked_other t m q k j (beside_record t k j l (inl (omega arith))))))

-- the positions in use of a picture whose mask is without that of m
module _ (p q : List ℕ) (t : Table) (m : ℕ) (fits : m < 2 ^ set_width) (h : members q t ≡ without (members p t) m) where
  used_bit : (k : ℕ) → k < positions t → used q t k ≡ not (bit m k) && bit (members p t) k
  used_bit k l = used_is q t k l ∙ rw h (without_at (members p t) m k (let w = positions_within t in omega arith) fits)

  pub out_of_use : (k : ℕ) → bit m k ≡ true → used q t k ≡ false
  out_of_use k b = ⊎_elim (λ (l : k < positions t). used_bit k l ∙ rw b) (λ (l : positions t ≤ k). used_past q t k l) (lt_or_ge k (positions t))

  pub in_use : (k : ℕ) → bit m k ≡ false → used q t k ≡ used p t k
  in_use k b = ⊎_elim (λ (l : k < positions t). used_bit k l ∙ rw b (sym (used_is p t k l))) (λ (l : positions t ≤ k). used_past q t k l ∙ sym (used_past p t k l)) (lt_or_ge k (positions t))

-- waking writes timeout, wait and key of a job that waits
abbrev Spared : ℕ → ℕ → Type 0
Spared k x = (f : ℕ) → timeout_field ≤ f → f ≤ key_field → x ≡ slot Jobs k + f → ⊥

woken_other : (m key : ℕ) (p : List ℕ) (k x : ℕ) → Spared k x → word (woken m key p k) x ≡ word p x
unfolding woken
woken_other m key p k x s = go (waits p m k)
  where
    go : (b : Bool) → word (cond b (with_key (with_wait (with_timeout p k (pos 0)) k 0) k key) p) x ≡ word p x
    go true =
        get_or-set_other (with_wait (with_timeout p k (pos 0)) k 0) (slot Jobs k + key_field) x key 0 (s key_field (omega arith) (omega arith))
        ∙ get_or-set_other (with_timeout p k (pos 0)) (slot Jobs k + wait_field) x 0 0 (s wait_field (omega arith) (omega arith))
        ∙ get_or-set_other p (slot Jobs k + timeout_field) x 0 0 (s timeout_field (omega arith) (omega arith))
    go false = refl

module _ (m key : ℕ) (p : List ℕ) (k : ℕ) (l : k < positions Jobs) (long : heap_base ≤ length p) where
  woken_timeout : field (woken m key p k) Jobs k timeout_field ≡ cond (waits p m k) 0 (field p Jobs k timeout_field)
  unfolding woken
  woken_timeout = go (waits p m k)
    where
      go : (b : Bool) → word (cond b (with_key (with_wait (with_timeout p k (pos 0)) k 0) k key) p) (slot Jobs k + timeout_field) ≡ cond b 0 (field p Jobs k timeout_field)
      go true =
          get_or-set_other (with_wait (with_timeout p k (pos 0)) k 0) (slot Jobs k + key_field) (slot Jobs k + timeout_field) key 0 (λ z. omega arith)
          ∙ get_or-set_other (with_timeout p k (pos 0)) (slot Jobs k + wait_field) (slot Jobs k + timeout_field) 0 0 (λ z. omega arith)
          ∙ get_or-set_same p (slot Jobs k + timeout_field) 0 0 (omega arith)
      go false = refl

  woken_wait : waited_for (woken m key p k) k ≡ cond (waits p m k) 0 (waited_for p k)
  unfolding woken
  woken_wait = go (waits p m k)
    where
      go : (b : Bool) → word (cond b (with_key (with_wait (with_timeout p k (pos 0)) k 0) k key) p) (slot Jobs k + wait_field) ≡ cond b 0 (waited_for p k)
      go true =
          get_or-set_other (with_wait (with_timeout p k (pos 0)) k 0) (slot Jobs k + key_field) (slot Jobs k + wait_field) key 0 (λ z. omega arith)
          ∙ get_or-set_same (with_timeout p k (pos 0)) (slot Jobs k + wait_field) 0 0 (simp length-set (omega arith))
      go false = refl

  woken_key : delivered (woken m key p k) k ≡ cond (waits p m k) key (delivered p k)
  unfolding woken
  woken_key = go (waits p m k)
    where
      go : (b : Bool) → word (cond b (with_key (with_wait (with_timeout p k (pos 0)) k 0) k key) p) (slot Jobs k + key_field) ≡ cond b key (delivered p k)
      go true = get_or-set_same (with_wait (with_timeout p k (pos 0)) k 0) (slot Jobs k + key_field) key 0 (simp length-set (omega arith))
      go false = refl

-- who waits depends on the mask of jobs and the job's wait
pub waits_same : (p q : List ℕ) (m k : ℕ) → used q Jobs k ≡ used p Jobs k → waited_for q k ≡ waited_for p k → waits q m k ≡ waits p m k
unfolding waits
waits_same p q m k u w = rw (u, w)

used_with : (p q : List ℕ) (k : ℕ) → members q Jobs ≡ members p Jobs → used q Jobs k ≡ used p Jobs k
unfolding used
used_with p q k h = rw h

-- all that wait are woken
module _ (m key : ℕ) (p : List ℕ) where
  pub wakes_other : (x : ℕ) → ((k : ℕ) → k < positions Jobs → Spared k x) → word (each (woken m key) (positions Jobs) p) x ≡ word p x
  wakes_other x s = each_other (woken m key) (positions Jobs) p x (λ q k l. woken_other m key q k x (s k l))

  module _ (k : ℕ) (l : k < positions Jobs) (long : heap_base ≤ length p) where
    so_far : List ℕ
    so_far = each (woken m key) k p

    so_long : heap_base ≤ length so_far
    unfolding so_far
    so_long = rw (length_each (woken m key) (length_woken m key) k p) long

    -- the record of k is not touched before k's turn
    before : (f : ℕ) → f < width Jobs → word so_far (slot Jobs k + f) ≡ word p (slot Jobs k + f)
    unfolding so_far
    before f h = each_other (woken m key) k p (slot Jobs k + f) (λ q j i. woken_other m key q j (slot Jobs k + f) (λ g a b z. omega arith))

    waited : waits so_far m k ≡ waits p m k
    unfolding so_far
    waited = waits_same p so_far m k
        (used_with p so_far k (members_same p so_far Jobs (λ x h. let l = holds_low Jobs x h in each_other (woken m key) k p x (λ q j i. woken_other m key q j x (λ g a b z. omega arith)))))
        (before wait_field (omega arith))

    turn : (f : ℕ) → f < width Jobs → word (each (woken m key) (positions Jobs) p) (slot Jobs k + f) ≡ word (woken m key so_far k) (slot Jobs k + f)
    unfolding so_far
    turn f h = each_at (woken m key) (positions Jobs) k p (slot Jobs k + f) l (λ q j i n. woken_other m key q j (slot Jobs k + f) (λ g a b z. n (omega arith)))

    pub wakes_timeout : field (each (woken m key) (positions Jobs) p) Jobs k timeout_field ≡ cond (waits p m k) 0 (field p Jobs k timeout_field)
    wakes_timeout = turn timeout_field (omega arith) ∙ woken_timeout m key so_far k l so_long ∙ rw (waited, before timeout_field (omega arith))

    pub wakes_wait : waited_for (each (woken m key) (positions Jobs) p) k ≡ cond (waits p m k) 0 (waited_for p k)
    wakes_wait = turn wait_field (omega arith) ∙ woken_wait m key so_far k l so_long ∙ rw (waited, before wait_field (omega arith))

    pub wakes_key : delivered (each (woken m key) (positions Jobs) p) k ≡ cond (waits p m k) key (delivered p k)
    wakes_key = turn key_field (omega arith) ∙ woken_key m key so_far k l so_long ∙ rw (waited, before key_field (omega arith))
