-- Entries and blocks still match one to one where old pairs stay as they were and each new entry has a new block.
use Prim.Native.Nat.{ℕ, ◌<◌}
use mathlib.Core.Path.{◌≡◌, sym, ◌∙◌, subst}
use mathlib.Core.Bool.{true}
use mathlib.Core.Logic.{⊎_elim, ◌⊎◌}
use mathlib.Core.List.{List}
use native.Mathlib.Omega.{arith}
use Rattle.words.specs.Each.{In}
use Rattle.picture.specs.Layout.{positions}
use Rattle.picture.specs.Records.{owner, base}
use Rattle.picture.specs.declared.Table.{Table}
use Rattle.blocks.specs.Header.{kind, kind_of, holder}
use Rattle.blocks.specs.Walk.{blocks}
use Rattle.sound_matching.specs.Match.{area_of, has_block}
use Rattle.sound_matching.proofs.Counts.{Matches}
use Rattle.sound_matching.proofs.Matched.{Matched}

-- the entry at position k has its block, base and owner as before
pub record Still (p q : List ℕ) (t : Table) (k : ℕ) : Type 0 where
  pub before : has_block p t k ≡ true
  pub now_too : has_block q t k ≡ true
  pub base_as_was : base q t k ≡ base p t k
  pub owner_as_was : owner q t k ≡ owner p t k

-- the block at i is there, of its kind and owner, as before
pub record Stands (p q : List ℕ) (t : Table) (i : ℕ) : Type 0 where
  pub before : In i (blocks p (area_of t))
  pub now_too : In i (blocks q (area_of t))
  pub kind_as_was : kind q i ≡ kind p i
  pub holder_as_was : holder q i ≡ holder p i

-- New k i: the entry at k and its block at i are new
pub record Rematched (p q : List ℕ) (t : Table) (New : ℕ → ℕ → Type 0) : Type 0 where
  pub entries : (k : ℕ) → k < positions t → has_block q t k ≡ true → Still p q t k ⊎ ((i : ℕ) × New k i)
  pub homes : (k i : ℕ) → Still p q t k → In i (blocks p (area_of t)) → Matches p t k i → Stands p q t i
  pub standing : (i : ℕ) → In i (blocks q (area_of t)) → kind q i ≡ kind_of t → Stands p q t i ⊎ ((k : ℕ) × New k i)
  pub heirs : (k i : ℕ) → k < positions t → Stands p q t i → Matches p t k i → Still p q t k
  pub new_matches : (k i : ℕ) → New k i → (k < positions t) × (In i (blocks q (area_of t)) × Matches q t k i)
  pub new_block : (k i : ℕ) → New k i → In i (blocks p (area_of t)) → kind p i ≡ kind_of t → ⊥
  pub once : (j k i : ℕ) → New j i → New k i → j ≡ k

pub still_matched : (p q : List ℕ) (t : Table) (New : ℕ → ℕ → Type 0) → Rematched p q t New → Matched p t → Matched q t
still_matched p q t New R M = record {
  home = λ k l c. ⊎_elim
      (λ (s : Still p q t k).
      let h = M.home k l s.before in
      let b = R.homes k h.0 s h.1.0 h.1.1 in
      (h.0, (b.now_too, onto k h.0 s b h.1.1)))
      (λ (n : (i : ℕ) × New k i). let o = R.new_matches k n.0 n.1 in (n.0, o.1))
      (R.entries k l c);
  heir = λ i m z. ⊎_elim
      (λ (b : Stands p q t i).
      let h = M.heir i b.before (sym b.kind_as_was ∙ z) in
      (h.0, (h.1.0, onto h.0 i (R.heirs h.0 i h.1.0 b h.1.1) b h.1.1)))
      (λ (n : (k : ℕ) × New k i). let o = R.new_matches n.0 i n.1 in (n.0, (o.0, o.1.1)))
      (R.standing i m z);
  apart = λ j k i x y m v w. ⊎_elim
      (λ (b : Stands p q t i). M.apart j k i x y b.before (old j i x b v) (old k i y b w))
      (λ (n : (k : ℕ) × New k i). R.once j k i (fresh j i x n.0 n.1 v) (fresh k i y n.0 n.1 w))
      (R.standing i m v.sorts);
}
  where
    onto : (k i : ℕ) → Still p q t k → Stands p q t i → Matches p t k i → Matches q t k i
    onto k i s b o = record { has = s.now_too; sorts = b.kind_as_was ∙ o.sorts; place = s.base_as_was ∙ o.place; held = s.owner_as_was ∙ o.held ∙ sym b.holder_as_was }

    -- an old block is an old entry's
    old : (k i : ℕ) → k < positions t → Stands p q t i → Matches q t k i → Matches p t k i
    old k i l b o = ⊎_elim
        (λ (s : Still p q t k). record { has = s.before; sorts = sym b.kind_as_was ∙ o.sorts; place = sym s.base_as_was ∙ o.place; held = sym s.owner_as_was ∙ o.held ∙ b.holder_as_was })
        (λ (n : (i : ℕ) × New k i).
        let a = (R.new_matches k n.0 n.1).1.1.place in
        let c = o.place in
        let z : n.0 ≡ i = omega arith in
        absurd (R.new_block k i (subst (New k) z n.1) b.before (sym b.kind_as_was ∙ o.sorts)))
        (R.entries k l o.has)

    -- a new block is a new entry's
    fresh : (k i : ℕ) → k < positions t → (j : ℕ) → New j i → Matches q t k i → New k i
    fresh k i l j f o = ⊎_elim
        (λ (s : Still p q t k).
        let h = M.home k l s.before in
        let a = h.1.1.place in
        let b = s.base_as_was in
        let c = o.place in
        let z : h.0 ≡ i = omega arith in
        absurd (R.new_block j i f (subst (λ (x : ℕ). In x (blocks p (area_of t))) z h.1.0) (subst (λ (x : ℕ). kind p x ≡ kind_of t) z h.1.1.sorts)))
        (λ (n : (i : ℕ) × New k i).
        let a = (R.new_matches k n.0 n.1).1.1.place in
        let c = o.place in
        let z : n.0 ≡ i = omega arith in
        subst (New k) z n.1)
        (R.entries k l o.has)
