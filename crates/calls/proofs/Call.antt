-- What every guarded call has, by induction over its list of checks: the first check that fails gives its key, and a refusal changes
-- nothing else.
use Prim.Native.Nat.{ℕ, ◌+◌, ◌*◌}
use mathlib.Core.Path.{◌≡◌, refl, sym, ap, ◌∙◌}
use mathlib.Core.Bool.{Bool, true, false, cond}
use mathlib.Core.List.{List, [], ◌∷◌, ◌++◌}
use native.Mathlib.Omega.{arith}
use lib.IntN.{ℤ, pos, negsuc}
use Rattle.picture.specs.Keys.{done, not_complete, invalid_job, out_of_memory, channel_not_open, not_found, bad_name, bad_parameter}
use Rattle.calls.specs.Outcome.{Outcome, refuse, succeed}
use Rattle.calls.specs.Call.{Check, Guarded, Call, settled, outcome, verdict}

-- all checks of a list pass
abbrev pub Passed : List Check → Type 0
Passed [] = Unit {0}
Passed (c ∷ l) = (c.0 ≡ true) × Passed l

-- what holds of every refusal, and of o where all checks pass, holds of what they settle
settled_ways : (P : Outcome → Type 0) (l : List Check) (p d : List ℕ) (o : Outcome) → ((k : ℤ) → P (refuse k p d)) → (Passed l → P o) → P (settled l p d o)
settled_ways P [] p d o r f = f tt
settled_ways P (c ∷ l) p d o r f = go c.0 refl (λ g. settled_ways P l p d o r g)
  where
    go : (b : Bool) → c.0 ≡ b → ((Passed l → P o) → P (settled l p d o)) → P (cond b (settled l p d o) (refuse c.1 p d))
    go true e again = again (λ h. f (e, h))
    go false e again = r c.1

settled_passed : (l : List Check) (p d : List ℕ) (o : Outcome) → Passed l → settled l p d o ≡ o
settled_passed [] p d o h = refl
settled_passed (c ∷ l) p d o h = rw h.0 (settled_passed l p d o h.1)

settled_key : (l : List Check) (p d : List ℕ) (o : Outcome) → o.key ≡ done → (settled l p d o).key ≡ verdict l
settled_key [] p d o e = e
settled_key (c ∷ l) p d o e = go c.0 (settled_key l p d o e)
  where
    go : (b : Bool) → (settled l p d o).key ≡ verdict l → (cond b (settled l p d o) (refuse c.1 p d)).key ≡ cond b (verdict l) c.1
    go true r = r
    go false r = refl

-- what a guarded call leaves where all its checks pass
abbrev pub success : Guarded → Outcome
success g = succeed g.picture g.registers

module _ (c : Call) (p d : List ℕ) where
  -- what holds of every refusal, and of the effect where all checks pass, holds of the call
  pub of_each_way : (P : Outcome → Type 0) → ((k : ℤ) → P (refuse k p d)) → (Passed (c p d).checks → P (success (c p d))) → P (outcome c p d)
  unfolding outcome
  of_each_way P r f = settled_ways P (c p d).checks p d (success (c p d)) r f

  pub where_all_pass : Passed (c p d).checks → outcome c p d ≡ success (c p d)
  unfolding outcome
  where_all_pass h = settled_passed (c p d).checks p d (success (c p d)) h

  -- "A refusal writes D0 only"
  pub refusal_changes_nothing : ((outcome c p d).key ≡ done → ⊥) → ((outcome c p d).picture ≡ p) × ((outcome c p d).registers ≡ d)
  refusal_changes_nothing = of_each_way (λ (o : Outcome). (o.key ≡ done → ⊥) → (o.picture ≡ p) × (o.registers ≡ d)) (λ k n. (refl, refl)) (λ h n. absurd (n refl))

  -- the first check that fails gives its key
  pub key_is_the_verdict : (outcome c p d).key ≡ verdict (c p d).checks
  unfolding outcome
  key_is_the_verdict = settled_key (c p d).checks p d (success (c p d)) refl

-- no check of a list gives the key k
abbrev pub Never : ℤ → List Check → Type 0
Never k [] = Unit {0}
Never k (c ∷ l) = (c.0 ≡ false → c.1 ≡ k → ⊥) × Never k l

-- then that key comes from the checks behind them, all of them having passed
pub key_from_behind : (k : ℤ) (l m : List Check) → Never k l → verdict (l ++ m) ≡ k → Passed l × (verdict m ≡ k)
key_from_behind k [] m n e = (tt, e)
key_from_behind k (c ∷ l) m n e = go c.0 refl (λ z. key_from_behind k l m n.1 z) e
  where
    go : (b : Bool) → c.0 ≡ b → (verdict (l ++ m) ≡ k → Passed l × (verdict m ≡ k)) → cond b (verdict (l ++ m)) c.1 ≡ k → ((c.0 ≡ true) × Passed l) × (verdict m ≡ k)
    go true q again z = let r = again z in ((q, r.0), r.1)
    go false q again z = absurd (n.0 q z)

-- and where they pass the verdict is that of the checks behind them
pub verdict_from_behind : (l m : List Check) → Passed l → verdict (l ++ m) ≡ verdict m
verdict_from_behind [] m h = refl
verdict_from_behind (c ∷ l) m h = rw h.0 (verdict_from_behind l m h.1)

all_pass_where_done : (l : List Check) → Never done l → verdict l ≡ done → Passed l
all_pass_where_done [] n e = tt
all_pass_where_done (c ∷ l) n e = go c.0 refl (λ z. all_pass_where_done l n.1 z) e
  where
    go : (b : Bool) → c.0 ≡ b → (verdict l ≡ done → Passed l) → cond b (verdict l) c.1 ≡ done → (c.0 ≡ true) × Passed l
    go true q again z = (q, again z)
    go false q again z = absurd (n.0 q z)

-- a call whose checks never give 0 answers 0 only where all of them pass
pub done_only_where_all_pass : (c : Call) (p d : List ℕ) → Never done (c p d).checks → (outcome c p d).key ≡ done → Passed (c p d).checks
done_only_where_all_pass c p d n e = all_pass_where_done (c p d).checks n (sym (key_is_the_verdict c p d) ∙ e)

-- a number by which keys differ
abbrev mark : ℤ → ℕ
mark (pos n) = 2 * n
mark (negsuc n) = 2 * n + 1

pub keys_differ : (j k : ℤ) → (mark j ≡ mark k → ⊥) → j ≡ k → ⊥
keys_differ j k n e = n (ap mark e)

-- no key of a refusal is 0
pub not_complete_refuses : not_complete ≡ done → ⊥
not_complete_refuses = keys_differ not_complete done (λ e. omega arith)

pub invalid_job_refuses : invalid_job ≡ done → ⊥
invalid_job_refuses = keys_differ invalid_job done (λ e. omega arith)

pub out_of_memory_refuses : out_of_memory ≡ done → ⊥
out_of_memory_refuses = keys_differ out_of_memory done (λ e. omega arith)

pub channel_not_open_refuses : channel_not_open ≡ done → ⊥
channel_not_open_refuses = keys_differ channel_not_open done (λ e. omega arith)

pub not_found_refuses : not_found ≡ done → ⊥
not_found_refuses = keys_differ not_found done (λ e. omega arith)

pub bad_name_refuses : bad_name ≡ done → ⊥
bad_name_refuses = keys_differ bad_name done (λ e. omega arith)

pub bad_parameter_refuses : bad_parameter ≡ done → ⊥
bad_parameter_refuses = keys_differ bad_parameter done (λ e. omega arith)

pub ruleset refusals = (not_complete_refuses, invalid_job_refuses, out_of_memory_refuses, channel_not_open_refuses, not_found_refuses, bad_name_refuses, bad_parameter_refuses)
