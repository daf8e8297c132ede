-- Each key is given exactly for its cause: the checks of the door and of the call named give the reasons of the rules, one by one.
use Prim.Native.Nat.{ℕ}
use mathlib.Core.Path.{◌≡◌, refl, sym, ◌∙◌, subst}
use mathlib.Core.Bool.{Bool, true, false, not, cond}
use mathlib.Core.List.{List, [], ◌∷◌}
use lib.ListN.{length}
use lib.Dec.{eqb}
use borrow.Author.Tests.{eqb-true, eqb-false, not-true, not-false}
use Rattle.words.specs.Words.{word}
use Rattle.words.proofs.Tests.{false_true}
use Rattle.picture.specs.Keys.{invalid_job, bad_parameter, not_sound}
use Rattle.picture.specs.Layout.{nobody}
use Rattle.sound.specs.Sound.{sound}
use Rattle.calls.specs.Outcome.{refuse}
use Rattle.calls.specs.Call.{Call, Check, outcome, verdict}
use Rattle.calls.specs.Registers.{caller}
use Rattle.calls.proofs.Call.{key_is_the_verdict}
use Rattle.jobs.specs.Calls.{information}
use Rattle.memory.specs.Memory.{longest_room}
use Rattle.traps.specs.Traps.{among, unknown, calls_one, calls_two, calls_three, trap_one, trap_two, trap_three, traps, call_named}
use Rattle.manager.specs.Door.{checked, with_key, called}
use Rattle.law_causes.specs.Faults.{Fault, Wrong, registers_not_eight, picture_not_sound, nobody_current, unknown_call}
use Rattle.law_causes.specs.Reasons.{Reason, reasons_one, reasons_two, reasons_three, unknown_reasons, trap_reasons, call_reasons, reasons}
use Rattle.law_causes.specs.Causes.{KeyOnlyForItsCause}
use Rattle.law_causes.proofs.Matching.{Gives, gives_none, gives_more}
use Rattle.law_causes.proofs.Tests.{tells_by}
use Rattle.law_causes.proofs.Calls.{ask_gives, remove_gives, force_remove_gives, suspend_gives, release_gives, activate_gives, set_priority_gives, create_gives, take_gives, give_back_gives, open_gives, close_gives, pending_gives, fetch_gives, send_gives}

module _ (p d s : List ℕ) where
  abbrev W : Fault → Type 0
  W = Wrong p d s

  -- the checks of a call give these reasons
  abbrev Told : Call → List Reason → Type 0
  Told c m = Gives W (c p d).checks m

  -- the calls of one table and the reasons of another stand behind the same numbers
  abbrev Alike : List (ℕ × Call) → List (ℕ × List Reason) → Type 0
  Alike [] [] = Unit {0}
  Alike [] (r ∷ m) = ⊥
  Alike (c ∷ l) [] = ⊥
  Alike (c ∷ l) (r ∷ m) = (c.0 ≡ r.0) × (Told c.1 r.1 × Alike l m)

  unknown_told : Told unknown (unknown_reasons p d s)
  unknown_told = gives_more W _ _ _ _ (tells_by (W unknown_call) false bad_parameter (λ _. tt) (λ e. absurd (false_true e))) (λ _. gives_none W)

  among_told : (n : ℕ) (l : List (ℕ × Call)) (m : List (ℕ × List Reason)) → Alike l m → Told (among n l unknown) (among n m (unknown_reasons p d s))
  among_told n [] [] A = unknown_told
  among_told n [] (r ∷ m) A = absurd A
  among_told n (c ∷ l) [] A = absurd A
  among_told n (c ∷ l) (r ∷ m) A = subst (λ (x : ℕ). Told (cond (eqb n c.0) c.1 (among n l unknown)) (cond (eqb n x) r.1 (among n m (unknown_reasons p d s)))) A.0 (go (eqb n c.0) (among_told n l m A.1.1))
    where
      go : (b : Bool) → Told (among n l unknown) (among n m (unknown_reasons p d s)) → Told (cond b c.1 (among n l unknown)) (cond b r.1 (among n m (unknown_reasons p d s)))
      go true t = A.1.0
      go false t = t

  module _ (h : sound p ≡ true) where
    one_told : Told (trap_one (word d 0)) (among (word d 0) (reasons_one p d s) (unknown_reasons p d s))
    unfolding trap_one information longest_room
    one_told = among_told (word d 0) calls_one (reasons_one p d s) (
      refl,
      (
        gives_none W,
        (
          refl,
          (
            create_gives p d s h,
            (
              refl,
              (
                ask_gives p d s h,
                (
                  refl,
                  (
                    remove_gives p d s h,
                    (
                      refl,
                      (
                        force_remove_gives p d s h,
                        (
                          refl,
                          (
                            gives_none W,
                            (refl, (suspend_gives p d s h, (refl, (release_gives p d s h, (refl, (activate_gives p d s h, (refl, (set_priority_gives p d s h, (refl, (take_gives p d s h, (refl, (give_back_gives p d s h, tt)))))))))))),
                          ),
                        ),
                      ),
                    ),
                  ),
                ),
              ),
            ),
          ),
        ),
      ),
    )

    two_told : Told (trap_two (word d 0) s) (among (word d 0) (reasons_two p d s) (unknown_reasons p d s))
    unfolding trap_two
    two_told = among_told (word d 0) (calls_two s) (reasons_two p d s) (refl, (open_gives p d s h, (refl, (close_gives p d s h, tt))))

    three_told : Told (trap_three (word d 0)) (among (word d 0) (reasons_three p d s) (unknown_reasons p d s))
    unfolding trap_three
    three_told = among_told (word d 0) calls_three (reasons_three p d s) (refl, (pending_gives p d s h, (refl, (fetch_gives p d s h, (refl, (send_gives p d s h, tt))))))

    pub named_told : (trap : ℕ) → Told (call_named trap s) (call_reasons p d s trap)
    unfolding call_named
    named_told trap = among_told trap (traps (word d 0) s) (trap_reasons p d s) (refl, (one_told, (refl, (two_told, (refl, (three_told, tt))))))

  -- the checks of a trap call: registers not 8, then the door's and the call's own
  door_checks : ℕ → List Check
  door_checks trap = (eqb (length d) 8, bad_parameter) ∷ (checked trap s p d).checks

  called_key : (trap : ℕ) → (called trap p d s).key ≡ verdict (door_checks trap)
  unfolding called door_checks
  called_key trap = go (eqb (length d) 8)
    where
      go : (e : Bool) → (cond e (with_key (outcome (checked trap s) p d)) (refuse bad_parameter p d)).key ≡ cond e (verdict (checked trap s p d).checks) bad_parameter
      go true = key_is_the_verdict (checked trap s) p d
      go false = refl

  door_told : (trap : ℕ) → Gives W (door_checks trap) (reasons p d s trap)
  unfolding door_checks checked
  door_told trap =
      gives_more W _ _ _ _ (tells_by (W registers_not_eight) (eqb (length d) 8) bad_parameter (eqb-false (length d) 8) (λ e w. w (eqb-true (length d) 8 e))) (λ _.
      gives_more W _ _ _ _ (tells_by (W picture_not_sound) (sound p) not_sound (λ e. e) (λ e w. false_true (sym w ∙ e))) (λ h.
      gives_more W _ _ _ _ (tells_by (W nobody_current) (not (eqb (caller p) nobody)) invalid_job (λ e. eqb-true (caller p) nobody (not-false _ e)) (λ e w. eqb-false (caller p) nobody (not-true _ e) w)) (λ _.
      named_told h trap)))

pub key_only_for_its_cause : KeyOnlyForItsCause
key_only_for_its_cause trap p d s k = (
  (λ e. (door_told p d s trap).because k (sym (called_key p d s trap) ∙ e)),
  (λ b. called_key p d s trap ∙ (door_told p d s trap).key k b),
)
