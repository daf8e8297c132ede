-- Digits one after the other: what is left to read is worth the same.
use Prim.Native.Nat.{ℕ, suc, ◌+◌, ◌-◌, ◌*◌, ◌^◌, ◌≤◌, ◌<◌}
use mathlib.Core.Path.{◌≡◌, refl, sym, ◌∙◌}
use mathlib.Core.Bool.{Bool, true, false, ◌&&◌, cond}
use mathlib.Core.List.{List, [], ◌∷◌}
use lib.ListN.{length, drop, drop_of_length-le}
use lib.Seq.{drop-cons}
use lib.Dec.{leb, eqb}
use native.Mathlib.Nat.{pow-suc}
use native.Mathlib.Numerals.{add-one}
use native.Mathlib.Omega.{arith}
use borrow.Author.Tests.{le-leb, leb-true}
use Rattle.std.proofs.Common.{Ok, Err}
use Rattle.words.specs.Each.{all}
use Rattle.words.proofs.Tests.{both, false_true, otherwise}
use Rattle.sound_areas.specs.Rules.{longest_queue}
use Rattle.names.specs.Names.{good, number_in, byte, pipe, digit, worth, number, numbered, named}
use Rattle.names.specs.declared.NameFault.TheVariants.{Foreign, Unnumbered, Bare}

module _ (s : List ℕ) (i : ℕ) (l : i < length s) where
  pub digits_more : digit (byte s i) ≡ true → all digit (drop i s) ≡ all digit (drop (i + 1) s)
  digits_more h = rw (add-one i, drop-cons s i 0 l, h)

  pub digits_not : digit (byte s i) ≡ false → all digit (drop i s) ≡ false
  digits_not h = rw (drop-cons s i 0 l, h)

  pub worth_more : (n : ℕ) → worth n (drop i s) ≡ worth (n * 10 + (byte s i - 48)) (drop (i + 1) s)
  worth_more n = rw (add-one i, drop-cons s i 0 l)

pub digits_end : (s : List ℕ) (i : ℕ) → length s ≤ i → all digit (drop i s) ≡ true
digits_end s i h = rw (drop_of_length-le s h)

pub worth_end : (s : List ℕ) (i n : ℕ) → length s ≤ i → worth n (drop i s) ≡ n
worth_end s i n h = rw (drop_of_length-le s h)

-- a digit is a byte from 48 to 57
pub digit_is : (b : ℕ) → digit b ≡ true → (48 ≤ b) × (b ≤ 57)
unfolding digit
digit_is b h = let a = both _ _ h in (leb-true _ _ a.0, leb-true _ _ a.1)

-- k digits are worth less than 10 ^ k
pub digits_fit : (k n b : ℕ) → n < 10 ^ k → (48 ≤ b) × (b ≤ 57) → n * 10 + (b - 48) < 10 ^ suc k
digits_fit k n b h d =
    let q : 10 ^ suc k ≡ 10 ^ k * 10 = pow-suc 10 k in
    let x = d.1 in
    omega arith

-- what a good number says
parts : (l : List ℕ) → number l ≡ true → ((1 ≤ length l) × (length l ≤ 5)) × ((all digit l ≡ true) × ((1 ≤ worth 0 l) × (worth 0 l ≤ longest_queue)))
unfolding number
parts l h =
    let a = both (leb 1 (length l) && leb (length l) 5) _ h in
    let b = both (leb 1 (length l)) (leb (length l) 5) a.0 in
    let c = both (all digit l) _ a.1 in
    let d = both (leb 1 (worth 0 l)) (leb (worth 0 l) longest_queue) c.1 in
    ((leb-true _ _ b.0, leb-true _ _ b.1), (c.0, (leb-true _ _ d.0, leb-true _ _ d.1)))

refused : (l : List ℕ) → (number l ≡ true → ⊥) → numbered l ≡ Err Unnumbered
unfolding numbered
refused l n = rw (otherwise _ n)

-- every way to fail, and the way to pass
pub too_many : (l : List ℕ) → 5 < length l → numbered l ≡ Err Unnumbered
too_many l h = refused l (λ e. let p = (parts l e).0 in omega arith)

pub other_byte : (l : List ℕ) → all digit l ≡ false → numbered l ≡ Err Unnumbered
other_byte l h = refused l (λ e. false_true (sym h ∙ (parts l e).1.0))

pub too_small : (l : List ℕ) → worth 0 l < 1 → numbered l ≡ Err Unnumbered
too_small l h = refused l (λ e. let p = (parts l e).1.1 in omega arith)

pub too_few : (s : List ℕ) → length s ≤ 5 → numbered (drop 5 s) ≡ Err Unnumbered
too_few s h = rw (drop_of_length-le s h) (too_small [] (omega arith))

pub too_great : (l : List ℕ) → longest_queue < worth 0 l → numbered l ≡ Err Unnumbered
too_great l h = refused l (λ e. let p = (parts l e).1.1 in omega arith)

pub just_right : (l : List ℕ) → length l ≤ 5 → all digit l ≡ true → 1 ≤ worth 0 l → worth 0 l ≤ longest_queue → numbered l ≡ Ok (worth 0 l)
unfolding numbered number
just_right [] b h w m = absurd (omega arith)
just_right (x ∷ l) b h w m = rw (le-leb 1 (length (x ∷ l)) (omega arith), le-leb (length (x ∷ l)) 5 b, h, le-leb 1 (worth 0 (x ∷ l)) w, le-leb (worth 0 (x ∷ l)) longest_queue m)

small : (l : List ℕ) → number_in (numbered l) ≤ longest_queue
unfolding numbered number_in
small l = go (number l) refl
  where
    go : (b : Bool) → number l ≡ b → number_in (cond b (Ok (worth 0 l)) (Err Unnumbered)) ≤ longest_queue
    go true h = (parts l h).1.1.1
    go false h = omega arith

-- the n of a good name is one that a queue can have
least : (l : List ℕ) → good (numbered l) ≡ true → 1 ≤ number_in (numbered l)
unfolding numbered number_in good
least l g = go (number l) refl g
  where
    go : (b : Bool) → number l ≡ b → good (cond b (Ok (worth 0 l)) (Err Unnumbered)) ≡ true → 1 ≤ number_in (cond b (Ok (worth 0 l)) (Err Unnumbered))
    go true h e = (parts l h).1.1.0
    go false h e = absurd (false_true e)

pub number_some : (s : List ℕ) → good (named s) ≡ true → 1 ≤ number_in (named s)
unfolding named number_in good
number_some s g = go (pipe s) (eqb (length s) 4) (eqb (byte s 4) 95) g
  where
    go : (a b c : Bool) → good (cond a (cond b (Err Bare) (cond c (numbered (drop 5 s)) (Err Foreign))) (Err Foreign)) ≡ true → 1 ≤ number_in (cond a (cond b (Err Bare) (cond c (numbered (drop 5 s)) (Err Foreign))) (Err Foreign))
    go true true c e = absurd (false_true e)
    go true false true e = least (drop 5 s) e
    go true false false e = absurd (false_true e)
    go false b c e = absurd (false_true e)

-- the n of a name is that of a queue
pub number_small : (s : List ℕ) → number_in (named s) ≤ longest_queue
unfolding named number_in
number_small s = go (pipe s) (eqb (length s) 4) (eqb (byte s 4) 95)
  where
    go : (a b c : Bool) → number_in (cond a (cond b (Err Bare) (cond c (numbered (drop 5 s)) (Err Foreign))) (Err Foreign)) ≤ longest_queue
    go true true c = omega arith
    go true false true = small (drop 5 s)
    go true false false = omega arith
    go false b c = omega arith
