-- rule 78: "the member with the next greater tag, or 0": of the members with a greater tag the one with the smallest.
use Rattle.std.specs.Prelude.{ℕ, zero, suc, Bool, ◌&&◌, ◌||◌, cond, List, eqb, ltb}
use Rattle.words.specs.Bits.{bit}
use Rattle.picture.specs.Layout.{positions}
use Rattle.picture.specs.Records.{number}
use Rattle.picture.specs.Numbers.{tag}
use Rattle.picture.specs.declared.Table.TheVariants.{Jobs}

-- the job at position k is a member of m, has a greater tag than g, and a smaller one than the job n; 0 is none
unfoldable pub nearer : List ℕ → ℕ → ℕ → ℕ → ℕ → Bool
nearer p m g n k = bit m k && (ltb g (tag (number p Jobs k)) && (eqb n 0 || ltb (tag (number p Jobs k)) (tag n)))

-- of the members of m below position i
unfoldable pub next_below : ℕ → List ℕ → ℕ → ℕ → ℕ
next_below zero p m g = 0
next_below (suc i) p m g = let n = next_below i p m g in cond (nearer p m g n i) (number p Jobs i) n

-- the number of the member of m with the next tag after g, or 0: in plain words `the_next_member_has_the_next_greater_tag` (law_asking/proofs/Next.antt)
unfoldable pub next_member : List ℕ → ℕ → ℕ → ℕ
next_member p m g = next_below (positions Jobs) p m g
