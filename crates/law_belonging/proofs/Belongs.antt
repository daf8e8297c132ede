-- In a sound picture a job whose record names an owner belongs to it: the header of its block names it too, and the trees follow.
use Prim.Native.Nat.{ℕ, ◌≤◌}
use mathlib.Core.Path.{◌≡◌, sym, ap, ◌∙◌, subst}
use mathlib.Core.Bool.{true}
use mathlib.Core.Logic.{⊎_elim}
use mathlib.Core.List.{List}
use native.Mathlib.Omega.{arith}
use borrow.Author.Tests.{le-leb}
use Rattle.picture.specs.Layout.{nobody}
use Rattle.picture.specs.Records.{owner, used}
use Rattle.picture.specs.Numbers.{position, live}
use Rattle.picture.specs.declared.Table.TheVariants.{Jobs}
use Rattle.picture.proofs.Records.{used_below}
use Rattle.picture.proofs.Numbers.{Live, live_is}
use Rattle.sound_matching.specs.Match.{has_block}
use Rattle.sound.specs.Sound.{sound}
use Rattle.sound_facts.proofs.Sound.{Sound}
use Rattle.sound_facts.proofs.View.{view}
use Rattle.law_owners.specs.Under.{Under}
use Rattle.law_belonging.specs.Belonging.{Belongs}

module _ (p : List ℕ) (s : sound p ≡ true) (n o : ℕ) (lives : live p Jobs n ≡ true) (owned : owner p Jobs (position n) ≡ o) (some : o ≡ nobody → ⊥) where
  S : Sound p
  S = view p s

  L : Live p Jobs n
  L = live_is p Jobs n lives

  owner_lives : live p Jobs o ≡ true
  owner_lives = ⊎_elim (λ e. absurd (some (sym owned ∙ e.1))) (λ l. subst (λ (x : ℕ). live p Jobs x ≡ true) owned l) (S.jobs.entries.owned (position n) L.used)

  O : Live p Jobs o
  O = live_is p Jobs o owner_lives

  -- job 0 has no owner
  not_zero : 1 ≤ position n
  not_zero = let z : position n ≡ 0 → ⊥ = (λ e. some (sym owned ∙ ap (owner p Jobs) e ∙ S.jobs.zero_unowned)) in omega arith

  has : has_block p Jobs (position n) ≡ true
  unfolding has_block
  has = rw (le-leb 1 (position n) not_zero, L.used)

  -- the job that the record names stands at its position
  upwards : (t : ℕ) → (t ≡ position n → ⊥) → Under p t (position n) → Under p t (position o)
  upwards t m (Under.top e) = absurd (m (sym e))
  upwards t m (Under.owned {j = j} u e w) =
      let z : j ≡ position o = sym (S.jobs.entries.place j u) ∙ ap position (sym e ∙ owned) in
      subst (Under p t) z w

  pub belongs : Belongs p n o
  belongs =
      let home = (S.matched Jobs).home (position n) (used_below p Jobs (position n) L.used) has in
      record {
        lives = lives;
        owner_lives = owner_lives;
        in_record = owned;
        block = home.0;
        its_block = home.1.1.place;
        there = home.1.0;
        in_header = sym home.1.1.held ∙ owned;
        in_each = λ t w. Under.owned O.used (owned ∙ sym O.names) w;
        in_no_other = upwards;
      }
