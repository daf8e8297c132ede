-- Where the jobs of a sound picture live on in another and keep their owners, each is in the same trees there.
use Prim.Native.Nat.{ℕ}
use mathlib.Core.Path.{◌≡◌, sym, ap, ◌∙◌, subst}
use mathlib.Core.Bool.{true}
use mathlib.Core.Logic.{⊎_elim}
use mathlib.Core.List.{List}
use Rattle.picture.specs.Records.{number, owner, used}
use Rattle.picture.specs.Numbers.{position, live}
use Rattle.picture.specs.declared.Table.TheVariants.{Jobs}
use Rattle.picture.proofs.Numbers.{Live, live_is, is_live}
use Rattle.sound.specs.Sound.{sound}
use Rattle.law_owners.specs.Under.{Under}
use Rattle.law_owners.proofs.Owners.{Owners, nobody_is_no_job, owners_in_order}

module _ (p q : List ℕ) (s : sound p ≡ true) (z : sound q ≡ true) (lives : (n : ℕ) → live p Jobs n ≡ true → live q Jobs n ≡ true)
    (keeps : (n : ℕ) → live p Jobs n ≡ true → owner q Jobs (position n) ≡ owner p Jobs (position n)) where
  P : Owners p
  P = owners_in_order p s

  Q : Owners q
  Q = owners_in_order q z

  -- the number of a position in use is live
  number_lives : (k : ℕ) → used p Jobs k ≡ true → live p Jobs (number p Jobs k) ≡ true
  number_lives k u = let e = P.place k u in is_live p Jobs (number p Jobs k) (record { used = ap (used p Jobs) e ∙ u; names = ap (number p Jobs) e })

  -- a position in use is in use there, with the same number and owner
  still : (k : ℕ) → used p Jobs k ≡ true → Live q Jobs (number p Jobs k)
  still k u = live_is q Jobs (number p Jobs k) (lives (number p Jobs k) (number_lives k u))

  used_there : (k : ℕ) → used p Jobs k ≡ true → used q Jobs k ≡ true
  used_there k u = ap (used q Jobs) (sym (P.place k u)) ∙ (still k u).used

  number_there : (k : ℕ) → used p Jobs k ≡ true → number q Jobs k ≡ number p Jobs k
  number_there k u = ap (number q Jobs) (sym (P.place k u)) ∙ (still k u).names

  owner_there : (k : ℕ) → used p Jobs k ≡ true → owner q Jobs k ≡ owner p Jobs k
  owner_there k u = let e = P.place k u in ap (owner q Jobs) (sym e) ∙ keeps (number p Jobs k) (number_lives k u) ∙ ap (owner p Jobs) e

  pub under_there : (t k : ℕ) → used p Jobs k ≡ true → Under p t k → Under q t k
  under_there t k u (Under.top e) = Under.top e
  under_there t k u (Under.owned {j = j} v e w) = Under.owned (used_there j v) (owner_there k u ∙ e ∙ sym (number_there j v)) (under_there t j v w)

  pub under_before : (t k : ℕ) → used p Jobs k ≡ true → Under q t k → Under p t k
  under_before t k u (Under.top e) = Under.top e
  under_before t k u (Under.owned {j = j} v e w) =
      let named : owner p Jobs k ≡ number q Jobs j = sym (owner_there k u) ∙ e in
      ⊎_elim
      (λ n. absurd (nobody_is_no_job q j Q v (sym named ∙ n)))
      (λ l.
      let L = live_is p Jobs (owner p Jobs k) l.0 in
      let here : position (owner p Jobs k) ≡ j = ap position named ∙ Q.place j v in
      let x : used p Jobs j ≡ true = subst (λ (i : ℕ). used p Jobs i ≡ true) here L.used in
      Under.owned x (sym L.names ∙ ap (number p Jobs) here) (under_before t j x w))
      (P.older k u)
