-- -3 exactly: of the reasons of the door and of all calls, only that for room in $1, $18 and the opening of a channel has that key.
use Prim.Native.Nat.{ℕ}
use mathlib.Core.Path.{◌≡◌, refl, sym, ◌∙◌, subst}
use mathlib.Core.Bool.{Bool, true, false}
use mathlib.Core.List.{List, [], ◌∷◌, ◌++◌}
use mathlib.Core.Logic.{⊎_elim, inl, by_cases}
use native.Mathlib.Omega.{arith}
use native.Mathlib.Decide.{ℕ_discrete}
use lib.ListN.{length}
use Rattle.words.specs.Words.{word}
use Rattle.words.proofs.Tests.{false_true}
use Rattle.picture.specs.Keys.{done, not_complete, invalid_job, out_of_memory, channel_not_open, not_found, bad_name, bad_parameter, not_sound}
use Rattle.picture.specs.declared.Area.{Area}
use Rattle.picture.specs.declared.Area.TheVariants.{Heap, Transient}
use Rattle.sound.specs.Sound.{sound}
use Rattle.calls.proofs.Call.{keys_differ}
use Rattle.traps.specs.Traps.{among}
use Rattle.traps.proofs.Among.{among_by}
use Rattle.manager.specs.Door.{called}
use Rattle.law_causes.specs.Faults.{Fault, Wrong, no_block_long_enough}
use Rattle.law_causes.specs.Reasons.{Reason, Because, NoneOf, reasons_one, reasons_two, reasons_three, unknown_reasons, trap_reasons, call_reasons, door_reasons, create_before, create_bytes, take_before, take_bytes, open_before, open_bytes, ask_reasons, remove_reasons, force_remove_reasons, suspend_reasons, release_reasons, activate_reasons, set_priority_reasons, give_back_reasons, close_reasons, fetch_reasons, send_reasons}
use Rattle.law_causes.specs.Memory.{Asks, creating, taking, opening, OutOfMemory, OutOfMemoryExactly}
use Rattle.law_causes.proofs.Matching.{NoKey, because_behind, behind_because, no_key_no_because}
use Rattle.law_causes.proofs.Causes.{key_only_for_its_cause}

-- the other keys
not_1 : out_of_memory ≡ not_complete → ⊥
not_1 = keys_differ out_of_memory not_complete (λ e. omega arith)

not_2 : out_of_memory ≡ invalid_job → ⊥
not_2 = keys_differ out_of_memory invalid_job (λ e. omega arith)

not_6 : out_of_memory ≡ channel_not_open → ⊥
not_6 = keys_differ out_of_memory channel_not_open (λ e. omega arith)

not_7 : out_of_memory ≡ not_found → ⊥
not_7 = keys_differ out_of_memory not_found (λ e. omega arith)

not_12 : out_of_memory ≡ bad_name → ⊥
not_12 = keys_differ out_of_memory bad_name (λ e. omega arith)

not_15 : out_of_memory ≡ bad_parameter → ⊥
not_15 = keys_differ out_of_memory bad_parameter (λ e. omega arith)

not_16 : out_of_memory ≡ not_sound → ⊥
not_16 = keys_differ out_of_memory not_sound (λ e. omega arith)

not_0 : out_of_memory ≡ done → ⊥
not_0 = keys_differ out_of_memory done (λ e. omega arith)

ruleset others = (not_1, not_2, not_6, not_7, not_12, not_15, not_16)

module _ (p d s : List ℕ) where
  abbrev W : Fault → Type 0
  W = Wrong p d s

  -- the key -3 comes from a call that asks for room: the area, the bytes, what is checked before, and that no block is long enough
  pub record Short (trap : ℕ) : Type 0 where
    pub area : Area
    pub bytes : ℕ
    pub before : List Reason
    pub asks : Asks p d s trap area bytes before
    pub passed : NoneOf W before
    pub shorter : W (no_block_long_enough area bytes)

  abbrev Then : ℕ → List Reason → Type 0
  Then trap l = Because W out_of_memory l → Short trap

  never : (trap : ℕ) (l : List Reason) → NoKey W out_of_memory l → Then trap l
  never trap l n b = absurd (no_key_no_because W out_of_memory l n not_0 b)

  unknown : (trap : ℕ) → Then trap (unknown_reasons p d s)
  unknown trap = never trap (unknown_reasons p d s) (not_15, tt)

  room : (trap : ℕ) (a : Area) (n : ℕ) (l : List Reason) → Asks p d s trap a n l → NoKey W out_of_memory l → Then trap (l ++ ((no_block_long_enough a n, out_of_memory) ∷ []))
  room trap a n l A N b =
      let r = behind_because W out_of_memory l ((no_block_long_enough a n, out_of_memory) ∷ []) N b in
      record { area = a; bytes = n; before = l; asks = A; passed = r.0; shorter = ⊎_elim (λ z. z.0) (λ z. absurd (not_0 z.1)) r.1 }

  -- no reason of the other calls has that key
  one : Then 1 (among (word d 0) (reasons_one p d s) (unknown_reasons p d s))
  one = among_by (Then 1) (word d 0) (reasons_one p d s) (unknown_reasons p d s) (
    (λ _. never 1 [] tt),
    (
      (λ e. room 1 Transient (create_bytes p d s) (create_before p d s) (creating e) (search others depth 12)),
      (
        (λ _. never 1 (ask_reasons p d s) (search others depth 12)),
        (
          (λ _. never 1 (remove_reasons p d s) (search others depth 12)),
          (
            (λ _. never 1 (force_remove_reasons p d s) (search others depth 12)),
            (
              (λ _. never 1 [] tt),
              (
                (λ _. never 1 (suspend_reasons p d s) (search others depth 12)),
                (
                  (λ _. never 1 (release_reasons p d s) (search others depth 12)),
                  (
                    (λ _. never 1 (activate_reasons p d s) (search others depth 12)),
                    (
                      (λ _. never 1 (set_priority_reasons p d s) (search others depth 12)),
                      ((λ e. room 1 Heap (take_bytes p d s) (take_before p d s) (taking e) (search others depth 12)), ((λ _. never 1 (give_back_reasons p d s) (search others depth 12)), tt)),
                    ),
                  ),
                ),
              ),
            ),
          ),
        ),
      ),
    ),
  )
      (unknown 1)

  two : Then 2 (among (word d 0) (reasons_two p d s) (unknown_reasons p d s))
  two = among_by (Then 2) (word d 0) (reasons_two p d s) (unknown_reasons p d s) (
    (λ e. room 2 Heap (open_bytes p d s) (open_before p d s) (opening e) (search others depth 12)),
    ((λ _. never 2 (close_reasons p d s) (search others depth 12)), tt),
  )
      (unknown 2)

  three : Then 3 (among (word d 0) (reasons_three p d s) (unknown_reasons p d s))
  three = among_by (Then 3) (word d 0) (reasons_three p d s) (unknown_reasons p d s) (
    (λ _. never 3 (fetch_reasons p d s) (search others depth 12)),
    ((λ _. never 3 (fetch_reasons p d s) (search others depth 12)), ((λ _. never 3 (send_reasons p d s) (search others depth 12)), tt)),
  )
      (unknown 3)

  named : (trap : ℕ) → Then trap (call_reasons p d s trap)
  named trap = among_by (Then trap) trap (trap_reasons p d s) (unknown_reasons p d s) (
    at 1 (among (word d 0) (reasons_one p d s) (unknown_reasons p d s)) one,
    (at 2 (among (word d 0) (reasons_two p d s) (unknown_reasons p d s)) two, (at 3 (among (word d 0) (reasons_three p d s) (unknown_reasons p d s)) three, tt)),
  )
      (unknown trap)
    where
      at : (n : ℕ) (l : List Reason) → Then n l → trap ≡ n → Then trap l
      at n l t e = subst (λ (x : ℕ). Then x l) (sym e) t

  -- and where a call asks for room, its last reason is that there is none
  asked : (trap : ℕ) (a : Area) (n : ℕ) (l : List Reason) → Asks p d s trap a n l → call_reasons p d s trap ≡ l ++ ((no_block_long_enough a n, out_of_memory) ∷ [])
  asked trap a n l (creating e) = rw e
  asked trap a n l (taking e) = rw e
  asked trap a n l (opening e) = rw e

pub out_of_memory_exactly : OutOfMemoryExactly
out_of_memory_exactly trap p d s = (to, back)
  where
    to : (called trap p d s).key ≡ out_of_memory → OutOfMemory trap p d s
    to k =
        let r = behind_because (W p d s) out_of_memory (door_reasons p d s) (call_reasons p d s trap) (search others depth 12) ((key_only_for_its_cause trap p d s out_of_memory).0 k) in
        let S = named p d s trap r.1 in
        record {
          eight = eqb_holds (length d) r.0.0;
          picture = sounds (sound p) refl r.0.1.0;
          somebody = r.0.1.1.0;
          area = S.area;
          bytes = S.bytes;
          before = S.before;
          asks = S.asks;
          passed = S.passed;
          shorter = S.shorter;
        }
      where
        eqb_holds : (n : ℕ) → ((n ≡ 8 → ⊥) → ⊥) → n ≡ 8
        eqb_holds n f = by_cases (ℕ_discrete n 8) (λ e. e) (λ e. absurd (f e))

        sounds : (b : Bool) → sound p ≡ b → (sound p ≡ false → ⊥) → sound p ≡ true
        sounds true e f = e
        sounds false e f = absurd (f e)

    back : OutOfMemory trap p d s → (called trap p d s).key ≡ out_of_memory
    back O = (key_only_for_its_cause trap p d s out_of_memory).1
        (because_behind (W p d s) out_of_memory (door_reasons p d s) (call_reasons p d s trap) ((λ w. w O.eight), ((λ w. false_true (sym w ∙ O.picture)), (O.somebody, tt)))
        (rw (asked p d s trap O.area O.bytes O.before O.asks) (because_behind (W p d s) out_of_memory O.before _ O.passed (inl (O.shorter, refl)))))
