-- A list of checks gives a list of reasons where each check tells its fault: the verdict of the one is the key of the other.
use mathlib.Core.Path.{◌≡◌, refl, sym, ◌∙◌}
use mathlib.Core.Bool.{Bool, true, false, cond}
use mathlib.Core.List.{List, [], ◌∷◌, ◌++◌}
use mathlib.Core.Logic.{◌⊎◌, inl, inr}
use lib.IntN.{ℤ}
use Rattle.picture.specs.Keys.{done}
use Rattle.calls.specs.Call.{Check, verdict}
use Rattle.law_causes.specs.Faults.{Fault}
use Rattle.law_causes.specs.Reasons.{Reason, Because, NoneOf}

-- a check tells whether a fault is there: it fails with the key where it is, and passes where it isn't
pub record Tells (wrong : Type 0) (c : Check) (k : ℤ) : Type 0 where
  pub fails : c.0 ≡ false → wrong × (c.1 ≡ k)
  pub passes : c.0 ≡ true → wrong → ⊥

module _ (W : Fault → Type 0) where
  -- the key of the checks is that of the reasons, both ways
  pub record Gives (l : List Check) (m : List Reason) : Type 0 where
    pub because : (k : ℤ) → verdict l ≡ k → Because W k m
    pub key : (k : ℤ) → Because W k m → verdict l ≡ k

  pub gives_none : Gives [] []
  gives_none = record { because = λ k e. sym e; key = λ k e. sym e }

  -- a check that tells its fault, before checks that give theirs where it passes
  pub gives_more : (c : Check) (r : Reason) (l : List Check) (m : List Reason) → Tells (W r.0) c r.1 → (c.0 ≡ true → Gives l m) → Gives (c ∷ l) (r ∷ m)
  gives_more c r l m T G = record { because = λ k. to k c.0 refl; key = λ k. back k c.0 refl }
    where
      to : (k : ℤ) (b : Bool) → c.0 ≡ b → cond b (verdict l) c.1 ≡ k → (W r.0 × (k ≡ r.1)) ⊎ ((W r.0 → ⊥) × Because W k m)
      to k true q z = inr (T.passes q, (G q).because k z)
      to k false q z = let f = T.fails q in inl (f.0, sym z ∙ f.1)

      back : (k : ℤ) (b : Bool) → c.0 ≡ b → (W r.0 × (k ≡ r.1)) ⊎ ((W r.0 → ⊥) × Because W k m) → cond b (verdict l) c.1 ≡ k
      back k true q (inl z) = absurd (T.passes q z.0)
      back k true q (inr z) = (G q).key k z.1
      back k false q (inl z) = (T.fails q).1 ∙ sym z.1
      back k false q (inr z) = absurd (z.0 (T.fails q).0)

  -- checks with the same verdict give the same
  pub gives_same : (l j : List Check) (m : List Reason) → verdict l ≡ verdict j → Gives j m → Gives l m
  gives_same l j m e G = record { because = λ k z. G.because k (sym e ∙ z); key = λ k z. e ∙ G.key k z }

  module _ (k : ℤ) where
    -- where none of the first faults is there, the key is the one that the others give
    pub because_behind : (l m : List Reason) → NoneOf W l → Because W k m → Because W k (l ++ m)
    because_behind [] m n b = b
    because_behind (r ∷ l) m n b = inr (n.0, because_behind l m n.1 b)

    -- no reason of a list has the key
    abbrev pub NoKey : List Reason → Type 0
    NoKey [] = Unit {0}
    NoKey (r ∷ l) = (k ≡ r.1 → ⊥) × NoKey l

    -- then none of their faults is there, and the key is the one that the others give
    pub behind_because : (l m : List Reason) → NoKey l → Because W k (l ++ m) → NoneOf W l × Because W k m
    behind_because [] m n b = (tt, b)
    behind_because (r ∷ l) m n (inl z) = absurd (n.0 z.1)
    behind_because (r ∷ l) m n (inr z) = let w = behind_because l m n.1 z.1 in ((z.0, w.0), w.1)

    pub no_key_no_because : (l : List Reason) → NoKey l → (k ≡ done → ⊥) → Because W k l → ⊥
    no_key_no_because [] n d b = d b
    no_key_no_because (r ∷ l) n d (inl z) = n.0 z.1
    no_key_no_because (r ∷ l) n d (inr z) = no_key_no_because l n.1 d z.1
