-- The law of turns. After s picks that were not the job's it has accumulated s times its priority, held at h, while ever fewer others hold
-- much: at most n - 1 - min s (k + 1) of them more than g * k. So by the bound nobody else can hold as much as the job. Assumes nothing.
use mathlib.Core.Path.{sym, subst, ap}
use mathlib.Core.Bool.{Bool, true, false, not, ◌&&◌}
use mathlib.Core.Logic.{◌≢◌, by_cases}
use mathlib.Core.List.{List, Memᴰ}
use Prim.Native.Nat.{ℕ, zero, suc, ◌+◌, ◌*◌, ◌-◌, ◌/◌, ◌≤◌, ◌<◌, min}
use native.Mathlib.Nat.{div-lt_iff_lt-mul, mul-le-mul_left, mul_comm, mul-suc, suc-mul, le-div_iff_mul-le}
use native.Mathlib.Decide.{ℕ_discrete, dec_lt}
use native.Mathlib.Omega.{arith}
use lib.Dec.{T, eqb, ltb, ltb→lt, lt→ltb, eqb_refl, eqb→eq, T_not, not_T}
use lib.ListN.{length, take, drop, length-take, length-drop}
use Rattle.law_fairness.specs.Turns.{Turn, Turns, none, turn}
use Rattle.law_fairness.specs.Law.{within, LawOfTurns, LawOfTurns_32, LawOfTurns_64}
use Rattle.law_fairness.proofs.Count.{count, count_lt, count_none, count_some, count_all}

and_left : (x y : Bool) → T (x && y) → T x
and_left true y t = tt
and_left false y t = t

and_right : (x y : Bool) → T (x && y) → T y
and_right true y t = t
and_right false y t = absurd t

and_both : (x y : Bool) → T x → T y → T (x && y)
and_both true y t u = u
and_both false y t u = t

-- position i is another than j
abbrev other : ℕ → ℕ → Bool
other j i = not (eqb i j)

-- position i is another than j, and has accumulated more than x
abbrev over : ℕ → (ℕ → ℕ) → ℕ → ℕ → Bool
over j a x i = other j i && ltb x (a i)

not_self : (j : ℕ) → T (other j j) → ⊥
not_self j t = T_not (eqb j j) t (eqb_refl j)

other→ne : (j i : ℕ) → T (other j i) → i ≢ j
other→ne j i t e = not_self j (subst (λ (x : ℕ). T (other j x)) e t)

ne→other : (j i : ℕ) → i ≢ j → T (other j i)
ne→other j i h = not_T (eqb i j) (λ t. h (eqb→eq i j t))

over→other : (j : ℕ) (a : ℕ → ℕ) (x i : ℕ) → T (over j a x i) → T (other j i)
over→other j a x i t = and_left (other j i) (ltb x (a i)) t

over→gt : (j : ℕ) (a : ℕ → ℕ) (x i : ℕ) → T (over j a x i) → x < a i
over→gt j a x i t = ltb→lt x (a i) (and_right (other j i) (ltb x (a i)) t)

mk_over : (j : ℕ) (a : ℕ → ℕ) (x i : ℕ) → i ≢ j → x < a i → T (over j a x i)
mk_over j a x i h l = and_both (other j i) (ltb x (a i)) (ne→other j i h) (lt→ltb x (a i) l)

-- after s picks that were not j's, at most this many others have accumulated more than g * k
abbrev Few : ℕ → ℕ → ℕ → ℕ → (ℕ → ℕ) → Type 0
Few n g j s a = (k : ℕ) → count (over j a (g * k)) n ≤ n - 1 - min s (k + 1)

module _ (n g h j p : ℕ) (jn : j < n) where
  few_start : (a : ℕ → ℕ) → Few n g j 0 a
  few_start a k =
      omega (
        arith,
        count_lt (over j a (g * k)) (λ _. true) n (λ i l t. tt) j jn tt (λ t. not_self j (over→other j a (g * k) j t)),
        count_all n,
      )

  module _ (a b : ℕ → ℕ) (m : ℕ) (r : Turn n g h j p a m b) (mj : m ≢ j) where
    -- whoever has more than g * (k + 1) afterwards is not the one picked, and had more than g * k
    was_over : (k i : ℕ) → i < n → T (over j b (g * suc k) i) → T (over j a (g * k) i)
    was_over k i l t =
        let o : g * suc k < b i = over→gt j b (g * suc k) i t in
        let ij : i ≢ j = other→ne j i (over→other j b (g * suc k) i t) in
        let im : i ≢ m = λ e. omega (arith, ap b e, r.spent mj) in
        mk_over j a (g * k) i ij (omega (arith, r.gains i l ij im, mul-suc g k))

    -- the one picked has nothing afterwards
    not_over : (x : ℕ) → T (over j b x m) → ⊥
    not_over x t = omega (arith, over→gt j b x m t, r.spent mj)

    few_next : (s k : ℕ) → Few n g j s a → Dec (g * k < a m) → count (over j b (g * suc k)) n ≤ n - 1 - min (suc s) (suc k + 1)
    few_next s k few (yes l) =
        omega (
          arith,
          count_lt (over j b (g * suc k)) (over j a (g * k)) n (was_over k) m r.inside (mk_over j a (g * k) m mj l) (not_over (g * suc k)),
          few k,
        )
    few_next s k few (no o) =
        omega (
          arith,
          count_none (over j b (g * suc k)) n λ i l t. o (omega (arith, r.most i l, over→gt j a (g * k) i (was_over k i l t))),
        )

    few_step : (s : ℕ) → Few n g j s a → Few n g j (suc s) b
    few_step s few zero =
        omega (
          arith,
          count_lt (over j b (g * 0)) (other j) n (λ i l. over→other j b (g * 0) i) m r.inside (ne→other j m mj) (not_over (g * 0)),
          count_lt (other j) (λ _. true) n (λ i l t. tt) j jn tt (not_self j),
          count_all n,
        )
    few_step s few (suc k) = few_next s k few (dec_lt (g * k) (a m))

    -- our own: p more with each pick, held at h
    ours_step : (s : ℕ) → min h (s * p) ≤ a j → min h (suc s * p) ≤ b j
    ours_step s o = omega (arith, r.ours mj, suc-mul s p)

    -- no pick of another comes as late as the bound
    in_time : (s : ℕ) → 0 < p → p ≤ g → g * (n - 2) < h → Few n g j s a → min h (s * p) ≤ a j → g * (n - 2) / p < s → ⊥
    in_time s p0 p1 enough few own late =
        let far : g * (n - 2) < s * p = (div-lt_iff_lt-mul p0).0 late in
        let many : n - 2 ≤ g * (n - 2) / p = (le-div_iff_mul-le p0).1 (omega (arith, mul-le-mul_left (n - 2) p1, mul_comm g (n - 2))) in
        let most : g * (n - 2) < a m = omega (arith, r.most j jn) in
        omega (arith, count_some (over j a (g * (n - 2))) n m r.inside (mk_over j a (g * (n - 2)) m mj most), few (n - 2))

module _ (n g h j p : ℕ) (enough : g * (n - 2) < h) (jn : j < n) (p0 : 0 < p) (p1 : p ≤ g) where
  from : {a : ℕ → ℕ} {taken : List ℕ} (s : ℕ) → s < within n g p → Few n g j s a → min h (s * p) ≤ a j → Turns n g h j p a taken → within n g p ≤ s + length taken → Memᴰ j taken
  from s early few own none long = absurd (omega arith)
  from s early few own (turn {a = a} {b = b} {m = m} {taken = taken} r rs) long =
      by_cases (ℕ_discrete m j) (λ e. Memᴰ.head (sym e)) λ mj.
      Memᴰ.tail
      (from (suc s)
      (by_cases (dec_lt (suc s) (within n g p)) (λ l. l) (λ l. absurd (in_time n g h j p jn a b m r mj s p0 p1 enough few own (omega arith))))
      (few_step n g h j p jn a b m r mj s few)
      (ours_step n g h j p jn a b m r mj s own)
      rs
      (omega arith))

  -- so many picks have one of the job's
  pub picked_among : {a : ℕ → ℕ} {taken : List ℕ} → Turns n g h j p a taken → within n g p ≤ length taken → Memᴰ j taken
  picked_among {a} rs long = from 0 (omega arith) (few_start n g h j p jn a) (omega arith) rs (omega arith)

-- the picks from the k-th on are picks in a row, and so are the first k
later : {n g h j p : ℕ} {a : ℕ → ℕ} {taken : List ℕ} (k : ℕ) → Turns n g h j p a taken → (b : ℕ → ℕ) × Turns n g h j p b (drop k taken)
later {a = a} zero rs = (a, rs)
later {a = a} (suc k) none = (a, none)
later (suc k) (turn r rs) = later k rs

sooner : {n g h j p : ℕ} {a : ℕ → ℕ} {taken : List ℕ} (k : ℕ) → Turns n g h j p a taken → Turns n g h j p a (take k taken)
sooner zero rs = none
sooner (suc k) none = none
sooner (suc k) (turn r rs) = turn r (sooner k rs)

-- a row of w in a list has w elements
pub length_row : (w k : ℕ) (l : List ℕ) → k + w ≤ length l → w ≤ length (take w (drop k l))
length_row w k l long = omega (arith, length-take w (drop k l), length-drop k l)

pub law_of_turns : LawOfTurns
law_of_turns n g h enough j p jn p0 p1 a taken rs k long =
    let w = later k rs in
    picked_among n g h j p (omega arith) jn p0 p1 (sooner (within n g p) w.1) (length_row (within n g p) k taken long)

pub law_of_turns_32 : LawOfTurns_32
law_of_turns_32 = law_of_turns 32 127 8191 (omega arith)

pub law_of_turns_64 : LawOfTurns_64
law_of_turns_64 = law_of_turns 64 127 8191 (omega arith)
