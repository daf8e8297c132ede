-- The tables after the jobs of a mask m and the channels of a mask c were taken out.
use Prim.Native.Nat.{ℕ, zero, suc, ◌+◌, ◌-◌, ◌*◌, ◌≤◌, ◌<◌, ◌^◌}
use mathlib.Core.Path.{◌≡◌, refl, sym, ap, ◌∙◌, subst}
use mathlib.Core.Bool.{Bool, true, false, ◌&&◌, not, cond}
use mathlib.Core.Logic.{⊎_elim, ◌⊎◌, inl, inr}
use mathlib.Core.List.{List}
use lib.ListN.{length, length-set}
use lib.Seq.{get_or-set_same, get_or-set_other}
use native.Mathlib.Omega.{arith}
use Rattle.words.specs.Words.{word, put}
use Rattle.words.specs.Bits.{bit}
use Rattle.picture.specs.Layout.{nobody, current_word, positions, width, first_record, heap_base}
use Rattle.picture.specs.Records.{slot, field, base_field, priority_field, accumulated_field, timeout_field, wait_field, key_field, priority, accumulated, waited_for, delivered, used, members}
use Rattle.picture.specs.declared.Table.{Table}
use Rattle.picture.specs.declared.Table.TheVariants.{Jobs, Channels}
use Rattle.picture.proofs.Records.{slot_within, shared}
use Rattle.picture.proofs.Members.{Holds, Spares, holds_low, spares_past, spares_current, spares_other, members_same, jobs_apart, channels_apart}
use Rattle.masks.specs.Masks.{set_width, without}
use Rattle.sound_facts.proofs.Same.{used_same}
use Rattle.calls.specs.Writes.{with_nobody}
use Rattle.emptying.specs.Each.{each}
use Rattle.emptying.specs.Taken.{waits, woken, emptied, taken}
use Rattle.emptying.proofs.Steps.{length_each, length_woken, length_emptied}
use Rattle.law_ending.proofs.Tables.{Beside, emptied_other, emptied_record, emptied_mask, out_of_use, in_use, waits_same, wakes_other, wakes_timeout, wakes_wait, wakes_key}

-- the mask of a table's entries that go
abbrev pub going : ℕ → ℕ → Table → ℕ
going m c Jobs = m
going m c Channels = c

-- q is p without the jobs of m and the channels of c, whose waiters are woken with the key
pub record Taken (p q : List ℕ) (m c key : ℕ) : Type 0 where
  pub long : length q ≡ length p
  pub current : word q current_word ≡ nobody
  pub head : (x : ℕ) → x < first_record Jobs → (x ≡ current_word → ⊥) → ((t : Table) → Spares t x) → word q x ≡ word p x
  pub dies : (t : Table) (k : ℕ) → bit (going m c t) k ≡ true → used q t k ≡ false
  pub stays : (t : Table) (k : ℕ) → bit (going m c t) k ≡ false → used q t k ≡ used p t k
  pub blank : (t : Table) (k f : ℕ) → k < positions t → f < width t → bit (going m c t) k ≡ true → field q t k f ≡ 0
  pub same : (t : Table) (k f : ℕ) → k < positions t → f ≤ base_field → bit (going m c t) k ≡ false → field q t k f ≡ field p t k f
  pub same_job : (k f : ℕ) → k < positions Jobs → f < width Jobs → (f ≡ timeout_field → ⊥) → (f ≡ wait_field → ⊥) → (f ≡ key_field → ⊥) → bit m k ≡ false → field q Jobs k f ≡ field p Jobs k f
  pub same_channel : (k f : ℕ) → k < positions Channels → f < width Channels → bit c k ≡ false → field q Channels k f ≡ field p Channels k f
  pub frames : (k : ℕ) → k < positions Jobs → bit m k ≡ false → field q Jobs k timeout_field ≡ cond (waits p m k) 0 (field p Jobs k timeout_field)
  pub wait : (k : ℕ) → k < positions Jobs → bit m k ≡ false → waited_for q k ≡ cond (waits p m k) 0 (waited_for p k)
  pub gets : (k : ℕ) → k < positions Jobs → bit m k ≡ false → delivered q k ≡ cond (waits p m k) key (delivered p k)

module _ (p : List ℕ) (m c key : ℕ) (long : heap_base ≤ length p) (mf : m < 2 ^ set_width) (cf : c < 2 ^ set_width) where
  w : List ℕ
  w = each (woken m key) (positions Jobs) p

  j : List ℕ
  j = emptied w Jobs m

  q : List ℕ
  q = with_nobody (emptied j Channels c)

  long_w : length w ≡ length p
  unfolding w
  long_w = length_each (woken m key) (length_woken m key) (positions Jobs) p

  long_j : length j ≡ length p
  unfolding j
  long_j = length_emptied w Jobs m ∙ long_w

  long_q : length q ≡ length p
  unfolding q
  long_q = simp length-set (length_emptied j Channels c ∙ long_j)

  w_long : heap_base ≤ length w
  w_long = rw long_w long

  j_long : heap_base ≤ length j
  j_long = rw long_j long

  -- longwords but the first record's number of a table: nobody is written at 1
  past_current : (x : ℕ) → (x ≡ current_word → ⊥) → word q x ≡ word (emptied j Channels c) x
  unfolding q
  past_current x n = get_or-set_other (emptied j Channels c) current_word x nobody 0 n

  -- a field of a job's record
  job_field : (k f : ℕ) → k < positions Jobs → f < width Jobs → field q Jobs k f ≡ cond (bit m k) 0 (field w Jobs k f)
  unfolding j
  job_field k f l h =
      past_current (slot Jobs k + f) (λ z. omega arith)
      ∙ emptied_other j Channels c (slot Jobs k + f) (inl (omega arith)) (spares_past Channels (slot Jobs k + f) (omega arith))
      ∙ emptied_record w Jobs m w_long k f l h

  -- those that waking leaves
  job_same : (k f : ℕ) → k < positions Jobs → f < width Jobs → (f ≡ timeout_field → ⊥) → (f ≡ wait_field → ⊥) → (f ≡ key_field → ⊥) → field w Jobs k f ≡ field p Jobs k f
  unfolding w
  job_same k f l h n₅ n₆ n₇ = wakes_other m key p (slot Jobs k + f) (λ i o g a b z. omega arith)

  channel_field : (k f : ℕ) → k < positions Channels → f < width Channels → field q Channels k f ≡ cond (bit c k) 0 (field p Channels k f)
  unfolding j w
  channel_field k f l h =
      past_current (slot Channels k + f) (λ z. omega arith)
      ∙ emptied_record j Channels c j_long k f l h
      ∙ ap (cond (bit c k) 0) (emptied_other w Jobs m (slot Channels k + f) (inr (omega arith)) (spares_past Jobs (slot Channels k + f) (omega arith)) ∙ wakes_other m key p (slot Channels k + f) (λ i o g a b z. omega arith))

  low : (x : ℕ) → x < first_record Jobs → word w x ≡ word p x
  unfolding w
  low x l = wakes_other m key p x (λ i o g a b z. omega arith)

  -- nobody is written at no table's set
  behind_current : (t : Table) → members q t ≡ members (emptied j Channels c) t
  behind_current t = members_same (emptied j Channels c) q t (λ x h. past_current x (λ e. spares_current t (subst (Holds t) e h)))

  low_members : (t : Table) → members w t ≡ members p t
  low_members t = members_same p w t (λ x h. low x (holds_low t x h))

  job_mask : members q Jobs ≡ without (members p Jobs) m
  unfolding j
  job_mask =
      behind_current Jobs
      ∙ members_same j (emptied j Channels c) Jobs (λ x h. let l = holds_low Jobs x h in emptied_other j Channels c x (inl (omega arith)) (spares_other Channels Jobs jobs_apart x h))
      ∙ emptied_mask w Jobs m w_long
      ∙ ap (λ (x : ℕ). without x m) (low_members Jobs)

  channel_mask : members q Channels ≡ without (members p Channels) c
  unfolding j
  channel_mask =
      behind_current Channels
      ∙ emptied_mask j Channels c j_long
      ∙ ap (λ (x : ℕ). without x c) (members_same w j Channels (λ x h. emptied_other w Jobs m x (inl (holds_low Channels x h)) (spares_other Jobs Channels channels_apart x h)) ∙ low_members Channels)

  dies_by : (t : Table) (k : ℕ) → bit (going m c t) k ≡ true → used q t k ≡ false
  dies_by Jobs k b = out_of_use p q Jobs m mf job_mask k b
  dies_by Channels k b = out_of_use p q Channels c cf channel_mask k b

  stays_by : (t : Table) (k : ℕ) → bit (going m c t) k ≡ false → used q t k ≡ used p t k
  stays_by Jobs k b = in_use p q Jobs m mf job_mask k b
  stays_by Channels k b = in_use p q Channels c cf channel_mask k b

  blank_by : (t : Table) (k f : ℕ) → k < positions t → f < width t → bit (going m c t) k ≡ true → field q t k f ≡ 0
  blank_by Jobs k f l h b = job_field k f l h ∙ rw b
  blank_by Channels k f l h b = channel_field k f l h ∙ rw b

  same_job_by : (k f : ℕ) → k < positions Jobs → f < width Jobs → (f ≡ timeout_field → ⊥) → (f ≡ wait_field → ⊥) → (f ≡ key_field → ⊥) → bit m k ≡ false → field q Jobs k f ≡ field p Jobs k f
  same_job_by k f l h n₅ n₆ n₇ b = job_field k f l h ∙ rw b (job_same k f l h n₅ n₆ n₇)

  same_channel_by : (k f : ℕ) → k < positions Channels → f < width Channels → bit c k ≡ false → field q Channels k f ≡ field p Channels k f
  same_channel_by k f l h b = channel_field k f l h ∙ rw b

  same_by : (t : Table) (k f : ℕ) → k < positions t → f ≤ base_field → bit (going m c t) k ≡ false → field q t k f ≡ field p t k f
  same_by Jobs k f l h b = same_job_by k f l (omega arith) (λ e. omega arith) (λ e. omega arith) (λ e. omega arith) b
  same_by Channels k f l h b = same_channel_by k f l (omega arith) b

  jw : (x : ℕ) → x < first_record Jobs → Spares Jobs x → word j x ≡ word w x
  unfolding j
  jw x l o = emptied_other w Jobs m x (inl l) o

  is_taken : Taken p q m c key
  unfolding q w
  is_taken = record {
    long = long_q;
    current = get_or-set_same (emptied j Channels c) current_word nobody 0 (rw (length_emptied j Channels c, long_j) (omega arith));
    head = λ x l n o. past_current x n ∙ emptied_other j Channels c x (inl (omega arith)) (o Channels) ∙ jw x l (o Jobs) ∙ low x l;
    dies = dies_by;
    stays = stays_by;
    blank = blank_by;
    same = same_by;
    same_job = same_job_by;
    same_channel = same_channel_by;
    frames = λ k l b. job_field k timeout_field l (omega arith) ∙ rw b (wakes_timeout m key p k l long);
    wait = λ k l b. job_field k wait_field l (omega arith) ∙ rw b (wakes_wait m key p k l long);
    gets = λ k l b. job_field k key_field l (omega arith) ∙ rw b (wakes_key m key p k l long);
  }

  -- the areas are not touched
  q_above : (x : ℕ) → heap_base ≤ x → word q x ≡ word p x
  unfolding j w
  q_above x l =
      past_current x (λ z. omega arith)
      ∙ emptied_other j Channels c x (inr (omega arith)) (spares_past Channels x (omega arith))
      ∙ emptied_other w Jobs m x (inr (omega arith)) (spares_past Jobs x (omega arith))
      ∙ wakes_other m key p x (λ i o g a b z. omega arith)

  pub taken_tables : Taken p (taken p m c key) m c key
  unfolding taken q j w
  taken_tables = is_taken

  pub taken_above : (x : ℕ) → heap_base ≤ x → word (taken p m c key) x ≡ word p x
  unfolding taken q j w
  taken_above x l = q_above x l

-- what a job outside the tree has accumulated, and its priority
pub taken_gains : (p q : List ℕ) (m c key : ℕ) → Taken p q m c key → (k : ℕ) → k < positions Jobs → bit m k ≡ false → accumulated q k ≡ accumulated p k
taken_gains p q m c key T k l b = T.same_job k accumulated_field l (omega arith) (λ e. omega arith) (λ e. omega arith) (λ e. omega arith) b

pub taken_priority : (p q : List ℕ) (m c key : ℕ) → Taken p q m c key → (k : ℕ) → k < positions Jobs → bit m k ≡ false → priority q k ≡ priority p k
taken_priority p q m c key T k l b = T.same_job k priority_field l (omega arith) (λ e. omega arith) (λ e. omega arith) (λ e. omega arith) b

-- the same, from a picture with the same tables
pub taken_from : (p y q : List ℕ) (m c key : ℕ) → length y ≡ length p → ((x : ℕ) → x < heap_base → word y x ≡ word p x) → Taken y q m c key → Taken p q m c key
taken_from p y q m c key long low T = record {
  long = T.long ∙ long;
  current = T.current;
  head = λ x l n o. T.head x l n o ∙ low x (omega arith);
  dies = T.dies;
  stays = λ t k b. T.stays t k b ∙ uses t k;
  blank = T.blank;
  same = λ t k f l h b. T.same t k f l h b ∙ fields t k f l (shared t f h);
  same_job = λ k f l h n₅ n₆ n₇ b. T.same_job k f l h n₅ n₆ n₇ b ∙ fields Jobs k f l h;
  same_channel = λ k f l h b. T.same_channel k f l h b ∙ fields Channels k f l h;
  frames = λ k l b. T.frames k l b ∙ rw (waited k l, fields Jobs k timeout_field l (omega arith));
  wait = λ k l b. T.wait k l b ∙ rw (waited k l, fields Jobs k wait_field l (omega arith));
  gets = λ k l b. T.gets k l b ∙ rw (waited k l, fields Jobs k key_field l (omega arith));
}
  where
    fields : (t : Table) (k f : ℕ) → k < positions t → f < width t → field y t k f ≡ field p t k f
    fields t k f l h = let w = slot_within t k l in low (slot t k + f) (omega arith)

    uses : (t : Table) (k : ℕ) → used y t k ≡ used p t k
    uses t k = used_same p y t (members_same p y t (λ x h. let l = holds_low t x h in low x (omega arith))) k

    waited : (k : ℕ) → k < positions Jobs → waits y m k ≡ waits p m k
    waited k l = waits_same p y m k (uses Jobs k) (fields Jobs k wait_field l (omega arith))
