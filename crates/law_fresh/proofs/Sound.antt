-- A fresh picture is sound.
use Prim.Native.Nat.{ℕ, zero, suc, ◌+◌, ◌-◌, ◌*◌, ◌/◌, ◌%◌, ◌^◌, ◌≤◌, ◌<◌}
use mathlib.Core.Path.{◌≡◌, refl, sym, ap, ◌∙◌, subst}
use mathlib.Core.Bool.{Bool, true, false, ◌&&◌}
use mathlib.Core.Logic.{⊎_elim, ◌⊎◌, inl, inr}
use mathlib.Core.List.{List, [], ◌∷◌}
use native.Mathlib.Omega.{arith}
use lib.ListN.{length, get_or, replicate, length-set, length-replicate, get_or-replicate, get_or-eq_default}
use lib.Seq.{get_or-set_same, get_or-set_other}
use Rattle.words.specs.Words.{word, put}
use Rattle.words.specs.Each.{In}
use Rattle.picture.specs.Layout.{nobody, size_word, current_word, last_word, heap_word, zero_word, heap_base, positions, width, from, upto, greatest_priority}
use Rattle.picture.specs.Records.{slot, field, number_field, owner_field, base_field, priority_field, accumulated_field, timeout_field, wait_field, owner, priority, used, ready, members, with_members}
use Rattle.picture.specs.Numbers.{tag, position, live}
use Rattle.picture.specs.declared.Table.{Table}
use Rattle.picture.specs.declared.Table.TheVariants.{Jobs, Channels}
use Rattle.picture.specs.declared.Area.{Area}
use Rattle.picture.specs.declared.Area.TheVariants.{Heap, Transient}
use Rattle.picture.proofs.Records.{used_below, used_is}
use Rattle.picture.proofs.Numbers.{is_live}
use Rattle.picture.proofs.Timeout.{Timely, timely_zero, timeout_zero, ready_by}
use Rattle.picture.proofs.Members.{Holds, Spares, holds_low, spares_size, spares_current, spares_heap, spares_zero, spares_last, spares_past, spares_other, channels_apart, members_same, members_none, length_with_members, with_members_other, members_with}
use Rattle.blocks.specs.Header.{header_width, kind_field, holder_field, start_field, size, kind, kind_of}
use Rattle.blocks.specs.Walk.{good, next, starts, blocks}
use Rattle.blocks.proofs.Walk.{Good, good_is, next_good, starts_end, starts_more}
use Rattle.sound_matching.specs.Match.{first, area_of, has_block}
use Rattle.sound_matching.proofs.Counts.{Matches}
use Rattle.sound_matching.proofs.Matched.{Matched}
use Rattle.sound.specs.Sound.{sound}
use Rattle.sound_facts.proofs.Sound.{Sound, Entries, Jobs_fine, Channels_fine, Tiled, Fits}
use Rattle.sound_facts.proofs.View.{sound_again}
use Rattle.words.proofs.Tests.{both, false_true, lt_or_ge}
use lib.Dec.{leb, eqb}
use lib.Pow.{pow_pos}
use native.Mathlib.Nat.{pow-suc, div-eq_of_lt, zero-div}
use borrow.Author.Tests.{eqb-true, eqb-false, leb-true}
use Rattle.fresh.specs.Fresh.{first_priority, fresh, fresh_good}
use Rattle.fresh.proofs.Good.{Sizes, sizes}

zeros : (n i : ℕ) → word (replicate n 0) i ≡ 0
zeros n i = ⊎_elim (λ l. get_or-replicate n i 0 0 l) (λ l. get_or-eq_default (replicate n 0) 0 (rw (length-replicate {A = ℕ} n 0) l)) (lt_or_ge i n)

pub length_fresh : (n h : ℕ) → length (fresh n h) ≡ n
unfolding fresh
length_fresh n h = simp (length-set, length_with_members, length-replicate)

module _ (n h : ℕ) (g : Sizes n n h) where
  abbrev q : List ℕ
  q = fresh n h

  -- job 0's owner and priority
  abbrev zero_owner : ℕ
  zero_owner = slot Jobs 0 + owner_field

  abbrev zero_priority : ℕ
  zero_priority = slot Jobs 0 + priority_field

  -- each longword of a fresh picture
  record At : Type 0 where
    size : word q size_word ≡ n
    heap : word q heap_word ≡ h
    mask : members q Jobs ≡ 1
    owner : word q zero_owner ≡ nobody
    priority : word q zero_priority ≡ first_priority
    heap_block : word q heap_base ≡ h * 4
    transient_block : word q (heap_base + h) ≡ (n - (heap_base + h)) * 4
    other : (i : ℕ) → (i ≡ size_word → ⊥) → (i ≡ heap_word → ⊥) → Spares Jobs i → (i ≡ zero_owner → ⊥) → (i ≡ zero_priority → ⊥) → (i ≡ heap_base → ⊥) → (i ≡ heap_base + h → ⊥) → word q i ≡ 0

  abbrev p0 : List ℕ
  p0 = replicate n 0

  abbrev p1 : List ℕ
  p1 = put p0 size_word n

  abbrev p2 : List ℕ
  p2 = put p1 heap_word h

  abbrev p3 : List ℕ
  p3 = with_members p2 Jobs 1

  abbrev p4 : List ℕ
  p4 = put p3 zero_owner nobody

  abbrev p5 : List ℕ
  p5 = put p4 zero_priority first_priority

  abbrev p6 : List ℕ
  p6 = put p5 heap_base (h * 4)

  abbrev p7 : List ℕ
  p7 = put p6 (heap_base + h) ((n - (heap_base + h)) * 4)

  long : (l : List ℕ) (i v : ℕ) → length l ≡ n → length (put l i v) ≡ n
  long l i v e = simp length-set e

  l0 : length p0 ≡ n
  l0 = length-replicate {A = ℕ} n 0

  skip : (l : List ℕ) (i j v : ℕ) → (j ≡ i → ⊥) → word (put l i v) j ≡ word l j
  skip l i j v d = get_or-set_other l i j v 0 d

  -- job 0's record and the two blocks are written last
  before_those : (j : ℕ) → (j ≡ zero_owner → ⊥) → (j ≡ zero_priority → ⊥) → (j ≡ heap_base → ⊥) → (j ≡ heap_base + h → ⊥) → word p7 j ≡ word p3 j
  before_those j d9 d11 dh dt = skip p6 (heap_base + h) j _ dt ∙ skip p5 heap_base j _ dh ∙ skip p4 zero_priority j _ d11 ∙ skip p3 zero_owner j _ d9

  at : At
  unfolding fresh
  at =
      let a = g.heap_most in
      let b = g.heap_least in
      let c = g.least in
      let l1 = long p0 size_word n l0 in
      let l2 = long p1 heap_word h l1 in
      let l3 : length p3 ≡ n = length_with_members p2 Jobs 1 ∙ l2 in
      let l4 = long p3 zero_owner nobody l3 in
      let l5 = long p4 zero_priority first_priority l4 in
      let l6 = long p5 heap_base (h * 4) l5 in
      record {
        size = before_those size_word (λ e. omega arith) (λ e. omega arith) (λ e. omega arith) (λ e. omega arith) ∙ with_members_other p2 Jobs 1 size_word (spares_size Jobs) ∙ skip p1 heap_word size_word _ (λ e. omega arith) ∙ get_or-set_same p0 size_word n 0 (omega (arith, l0));
        heap = before_those heap_word (λ e. omega arith) (λ e. omega arith) (λ e. omega arith) (λ e. omega arith) ∙ with_members_other p2 Jobs 1 heap_word (spares_heap Jobs) ∙ get_or-set_same p1 heap_word h 0 (omega arith);
        mask =
            members_same p3 p7 Jobs (λ j x. let y = holds_low Jobs j x in before_those j (λ e. omega arith) (λ e. omega arith) (λ e. omega arith) (λ e. omega arith))
            ∙ members_with p2 Jobs 1 (omega arith);
        owner = skip p6 (heap_base + h) zero_owner _ (λ e. omega arith) ∙ skip p5 heap_base zero_owner _ (λ e. omega arith) ∙ skip p4 zero_priority zero_owner _ (λ e. omega arith) ∙ get_or-set_same p3 zero_owner nobody 0 (omega arith);
        priority = skip p6 (heap_base + h) zero_priority _ (λ e. omega arith) ∙ skip p5 heap_base zero_priority _ (λ e. omega arith) ∙ get_or-set_same p4 zero_priority first_priority 0 (omega arith);
        heap_block = skip p6 (heap_base + h) heap_base _ (λ e. omega arith) ∙ get_or-set_same p5 heap_base (h * 4) 0 (omega arith);
        transient_block = get_or-set_same p6 (heap_base + h) ((n - (heap_base + h)) * 4) 0 (omega arith);
        other = λ i d0 d4 d5 d9 d11 dh dt. before_those i d9 d11 dh dt ∙ with_members_other p2 Jobs 1 i d5 ∙ skip p1 heap_word i _ d4 ∙ skip p0 size_word i _ d0 ∙ zeros n i;
      }

  -- only job 0 is in use, and no channel
  bit_one : (k : ℕ) → eqb (1 / 2 ^ k % 2) 1 ≡ true → k ≡ 0
  bit_one zero e = refl
  bit_one (suc k) e =
      let a : 2 ^ suc k ≡ 2 ^ k * 2 = pow-suc 2 k in
      let b = pow_pos k in
      let l : 1 < 2 ^ suc k = omega arith in
      let z : 1 / 2 ^ suc k % 2 ≡ 0 = ap (λ (x : ℕ). x % 2) (div-eq_of_lt l) in
      let y = eqb-true (1 / 2 ^ suc k % 2) 1 e in
      absurd (omega arith)

  jobs_used : (k : ℕ) → used q Jobs k ≡ true → k ≡ 0
  jobs_used k u = bit_one k (rw at.mask at (sym (used_is q Jobs k (used_below q Jobs k u)) ∙ u))

  no_channel : (k : ℕ) → used q Channels k ≡ true → ⊥
  no_channel k u =
      let z : members q Channels ≡ 0 = members_none q Channels (λ j x.
      let y = holds_low Channels j x in
      let b = g.heap_least in
      at.other j (λ e. spares_size Channels (subst (Holds Channels) e x)) (λ e. spares_heap Channels (subst (Holds Channels) e x)) (spares_other Jobs Channels channels_apart j x) (λ e. omega arith) (λ e. omega arith) (λ e. omega arith) (λ e. omega arith)) in
      let y = rw (z, zero-div (2 ^ k)) at (sym (used_is q Channels k (used_below q Channels k u)) ∙ u) in
      false_true y

  zero_used : used q Jobs 0 ≡ true
  zero_used = used_is q Jobs 0 (omega arith) ∙ rw at.mask

  -- the fields of records: job 0's owner and priority, and zeros
  blank_field : (t : Table) (k f : ℕ) → k < positions t → f < width t → (slot t k + f ≡ zero_owner → ⊥) → (slot t k + f ≡ zero_priority → ⊥) → field q t k f ≡ 0
  blank_field Jobs k f a b x y = let c = g.heap_least in at.other (slot Jobs k + f) (λ e. omega arith) (λ e. omega arith) (spares_past Jobs (slot Jobs k + f) (omega arith)) x y (λ e. omega arith) (λ e. omega arith)
  blank_field Channels k f a b x y = let c = g.heap_least in at.other (slot Channels k + f) (λ e. omega arith) (λ e. omega arith) (spares_past Jobs (slot Channels k + f) (omega arith)) x y (λ e. omega arith) (λ e. omega arith)

  field_zero : (k f : ℕ) → k < positions Jobs → f < width Jobs → (f ≡ owner_field → ⊥) → (f ≡ priority_field → ⊥) → field q Jobs k f ≡ 0
  field_zero k f a b x y = blank_field Jobs k f a b (λ e. x (omega arith)) (λ e. y (omega arith))

  -- each area is one free block
  single : (b e : ℕ) → b < e → (e - b) % 4 ≡ 0 → 4 ≤ e - b → size q b ≡ (e - b) * 4 → starts q b e ≡ b ∷ []
  single b e l m o z =
      let w : good q b e ≡ true = good_is q b e (record { whole = rw z (omega arith); least = rw z (omega arith); within = rw z (omega arith) }) in
      let y : b + size q b / 4 ≡ e = rw z (omega arith) in
      starts_more q b e l ∙ ap (λ (x : ℕ). b ∷ starts q x e) (next_good q b e w ∙ y) ∙ ap (λ (x : List ℕ). b ∷ x) (starts_end q e e (omega arith))

  upto_is : (a : Area) → (from q a < upto q a) × ((upto q a - from q a) % 4 ≡ 0) × (4 ≤ upto q a - from q a) × (size q (from q a) ≡ (upto q a - from q a) * 4)
  upto_is Heap =
      let c = g.heap_least in
      let d = g.heap_fours in
      rw at.heap (omega arith, omega arith, omega arith, at.heap_block ∙ (let z : h * 4 ≡ (heap_base + h - heap_base) * 4 = omega arith in z))
  upto_is Transient =
      let c = g.heap_most in
      let d = g.heap_fours in
      let e = g.fours in
      rw (at.heap, at.size) (omega arith, omega arith, omega arith, at.transient_block)

  block_first : (a : Area) (i : ℕ) → In i (blocks q a) → i ≡ from q a
  block_first a i m = let u = upto_is a in ⊎_elim (λ e. e) absurd (rw (single (from q a) (upto q a) u.0 u.1 u.2 u.3) at m)

  header_zero : (a : Area) (f : ℕ) → 0 < f → f < header_width → word q (from q a + f) ≡ 0
  header_zero Heap f l m = let c = g.heap_least in at.other (heap_base + f) (λ e. omega arith) (λ e. omega arith) (spares_past Jobs (heap_base + f) (omega arith)) (λ e. omega arith) (λ e. omega arith) (λ e. omega arith) (λ e. omega arith)
  header_zero Transient f l m = let c = g.heap_least in rw at.heap (at.other (heap_base + h + f) (λ e. omega arith) (λ e. omega arith) (spares_past Jobs (heap_base + h + f) (omega arith)) (λ e. omega arith) (λ e. omega arith) (λ e. omega arith) (λ e. omega arith))

  kind_free : (a : Area) (i : ℕ) → In i (blocks q a) → kind q i ≡ 0
  kind_free a i m = ap (λ (x : ℕ). kind q x) (block_first a i m) ∙ header_zero a kind_field (omega arith) (omega arith)

  tiled : (a : Area) → Tiled q a
  tiled a = record {
    whole = λ i m. let u = upto_is a in let z = u.3 in let l = u.0 in let f = u.1 in let o = u.2 in rw (block_first a i m) (good_is q (from q a) (upto q a) (record { whole = rw z (omega arith); least = rw z (omega arith); within = rw z (omega arith) }));
    fits = λ i m. fits a (kind q i) (kind_free a i m);
    starts_zero = λ i m. inr (ap (λ (x : ℕ). word q (x + start_field)) (block_first a i m) ∙ header_zero a start_field (omega arith) (omega arith));
    free_zero = λ i m e. (ap (λ (x : ℕ). word q (x + holder_field)) (block_first a i m) ∙ header_zero a holder_field (omega arith) (omega arith), ap (λ (x : ℕ). word q (x + start_field)) (block_first a i m) ∙ header_zero a start_field (omega arith) (omega arith));
    queue = λ i m e. let z = kind_free a i m in absurd (omega arith);
    lone = λ i m e l z. alone i (block_first a i m) l;
    held = λ i m. inl (kind_free a i m);
  }
    where
      fits : (a : Area) (k : ℕ) → k ≡ 0 → Fits a k
      fits Heap k e = omega arith
      fits Transient k e = inl e

      alone : (i : ℕ) → i ≡ from q a → next q i (upto q a) < upto q a → ⊥
      alone i e l =
          let u = upto_is a in
          let z = u.3 in
          let x = u.0 in
          let f = u.1 in
          let o = u.2 in
          let w : good q (from q a) (upto q a) ≡ true = good_is q (from q a) (upto q a) (record { whole = rw z (omega arith); least = rw z (omega arith); within = rw z (omega arith) }) in
          let y : from q a + size q (from q a) / 4 ≡ upto q a = rw z (omega arith) in
          let v : next q i (upto q a) ≡ upto q a = ap (λ (j : ℕ). next q j (upto q a)) e ∙ next_good q (from q a) (upto q a) w ∙ y in
          omega arith

  nothing_has_block : (t : Table) (k : ℕ) → has_block q t k ≡ true → ⊥
  unfolding has_block
  nothing_has_block Jobs k c = let b = both (leb 1 k) (used q Jobs k) c in let l = leb-true 1 k b.0 in let z = jobs_used k b.1 in omega arith
  nothing_has_block Channels k c = no_channel k (both (leb 0 k) (used q Channels k) c).1

  kind_positive : (t : Table) → kind_of t ≡ 0 → ⊥
  kind_positive Jobs e = omega arith
  kind_positive Channels e = omega arith

  matched : (t : Table) → Matched q t
  matched t = record {
    home = λ k l c. absurd (nothing_has_block t k c);
    heir = λ i m e. absurd (kind_positive t (sym e ∙ kind_free (area_of t) i m));
    apart = λ j k i a b m v w. absurd (nothing_has_block t j v.has);
  }

  job_entries : Entries q Jobs
  job_entries = record {
    unused = λ k f l m u. ⊎_elim
        (λ (o : 0 < k). blank_field Jobs k f l m (λ e. omega arith) (λ e. omega arith))
        (λ (o : k ≤ 0). let z : k ≡ 0 = omega arith in absurd (false_true (sym (subst (λ (x : ℕ). used q Jobs x ≡ false) z u) ∙ zero_used)))
        (lt_or_ge 0 k);
    place = λ k u. let z = jobs_used k u in rw (z, field_zero 0 number_field (omega arith) (omega arith) (λ e. omega arith) (λ e. omega arith));
    tagged = λ k c. absurd (nothing_has_block Jobs k c);
    once = λ j k u v e. let y = jobs_used j u in let z = jobs_used k v in omega arith;
    owned = λ k u. let z = jobs_used k u in inl (refl, rw z at.owner);
    given = λ k u. let z = jobs_used k u in rw (z, field_zero 0 number_field (omega arith) (omega arith) (λ e. omega arith) (λ e. omega arith)) (omega arith);
  }

  channel_entries : Entries q Channels
  channel_entries = record {
    unused = λ k f l m u. blank_field Channels k f l m (λ e. omega arith) (λ e. omega arith);
    place = λ k u. absurd (no_channel k u);
    tagged = λ k c. absurd (nothing_has_block Channels k c);
    once = λ j k u v e. absurd (no_channel j u);
    owned = λ k u. absurd (no_channel k u);
    given = λ k u. absurd (no_channel k u);
  }

  urgent : (k : ℕ) → k < positions Jobs → priority q k ≤ greatest_priority
  urgent k l = ⊎_elim
      (λ (o : 0 < k). let z = blank_field Jobs k priority_field l (omega arith) (λ e. omega arith) (λ e. omega arith) in omega arith)
      (λ (o : k ≤ 0). let z : k ≡ 0 = omega arith in rw z (let y = at.priority in omega arith))
      (lt_or_ge 0 k)

  pub fresh_is_sound : sound q ≡ true
  fresh_is_sound =
      let z = length_fresh n h in
      let o : (i : ℕ) → 0 < i → i < zero_owner → (i ≡ heap_word → ⊥) → Spares Jobs i → word q i ≡ 0 = λ i a b x y. let c = g.heap_least in at.other i (λ e. omega arith) x y (λ e. omega arith) (λ e. omega arith) (λ e. omega arith) (λ e. omega arith) in
      let f : (k f : ℕ) → k < positions Jobs → f < width Jobs → (f ≡ owner_field → ⊥) → (f ≡ priority_field → ⊥) → field q Jobs k f ≡ 0 = field_zero in
      sound_again q (record {
        sizes = record {
          long = at.size ∙ sym z;
          least = rw z g.least;
          most = rw z g.most;
          fours = rw z g.fours;
          heap_fours = rw at.heap g.heap_fours;
          heap_least = rw at.heap g.heap_least;
          heap_most = rw (at.heap, z) g.heap_most;
          nought = o zero_word (omega arith) (omega arith) (λ e. omega arith) (spares_zero Jobs);
          last = elim [ Jobs ↦ rw (o (last_word Jobs) (omega arith) (omega arith) (λ e. omega arith) (spares_last Jobs Jobs)) (omega arith) | Channels ↦ rw (o (last_word Channels) (omega arith) (omega arith) (λ e. omega arith) (spares_last Jobs Channels)) (omega arith) ];
        };
        jobs = record {
          entries = job_entries;
          zero_lives = zero_used;
          zero_number = f 0 number_field (omega arith) (omega arith) (λ e. omega arith) (λ e. omega arith);
          zero_base = f 0 base_field (omega arith) (omega arith) (λ e. omega arith) (λ e. omega arith);
          zero_unowned = at.owner;
          urgent = urgent;
          gained = λ k l. rw (f k accumulated_field l (omega arith) (λ e. omega arith) (λ e. omega arith)) (omega arith);
          frames = λ k l. subst Timely (sym (timeout_zero q k (f k timeout_field l (omega arith) (λ e. omega arith) (λ e. omega arith)))) timely_zero;
          older = λ k u. inl (rw (jobs_used k u) at.owner);
          waits = λ k l. inl (f k wait_field l (omega arith) (λ e. omega arith) (λ e. omega arith));
          idle = λ k l. inl (f k accumulated_field l (omega arith) (λ e. omega arith) (λ e. omega arith));
        };
        channels = record { entries = channel_entries; one = λ k u. absurd (no_channel k u) };
        tiled = tiled;
        matched = matched;
        current = inr current;
      })
    where
      current : (live q Jobs (word q current_word) ≡ true) × (ready q (position (word q current_word)) ≡ true)
      current =
          let c = g.heap_least in
          let z : word q current_word ≡ 0 = at.other current_word (λ e. omega arith) (λ e. omega arith) (spares_current Jobs) (λ e. omega arith) (λ e. omega arith) (λ e. omega arith) (λ e. omega arith) in
          rw z (is_live q Jobs 0 (record { used = zero_used; names = field_zero 0 number_field (omega arith) (omega arith) (λ e. omega arith) (λ e. omega arith) }), ready_by q 0 (rw at.priority (omega arith)) (timeout_zero q 0 (field_zero 0 timeout_field (omega arith) (omega arith) (λ e. omega arith) (λ e. omega arith))))
