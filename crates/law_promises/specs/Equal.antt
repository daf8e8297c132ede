-- "Each public call's contract determines answer, registers and every longword, refused or not; prove that whatever satisfies it is equal": of every function
-- of the manager's face, two answers to one contract. Of a part of a text, bytes and place in memory are equal, which is all that it has.
use Rattle.std.specs.Prelude.{ℕ, ◌≡◌, List, ℤ, length}
use Rattle.std.proofs.lemmas.List.Edits.{sets}
use Rattle.std.specs.Borrow.{Bor}
use Rattle.calls.specs.Outcome.{Meets}
use Rattle.fresh.specs.Fresh.{fresh_key, fresh_picture}
use Rattle.errors.specs.Text.{Answer, spot_of, error_key}
use Rattle.turns.specs.declared.Picked.{Picked}
use Rattle.report_lines.specs.Report.{report_lines}
use Rattle.report_lines.specs.declared.JobLine.{JobLine}
use Rattle.report_table.specs.Answer.{report_answer}
use Rattle.report_table.specs.declared.Report.{Report}
use Rattle.manager.specs.Door.{called}
use Rattle.manager.specs.Turn.{pick_answer, pick_picture, tick_key, ticking}

pub record WhateverMeetsIsEqual : Type 0 where
  pub call : (trap : ℕ) (p d name : List ℕ) (r s : ℤ) (q q' e e' : List ℕ) → Meets (called trap p d name) r q e → Meets (called trap p d name) s q' e' → (r ≡ s) × ((q ≡ q') × (e ≡ e'))
  pub fresh : (p : List ℕ) (n h : ℕ) (r s : ℤ) (q q' : List ℕ) → (r ≡ fresh_key p n h) × (q ≡ fresh_picture p n h) → (s ≡ fresh_key p n h) × (q' ≡ fresh_picture p n h) → (r ≡ s) × (q ≡ q')
  pub pick : (p : List ℕ) (r s : Picked) (q q' : List ℕ) → (r ≡ pick_answer p) × (q ≡ pick_picture p) → (s ≡ pick_answer p) × (q' ≡ pick_picture p) → (r ≡ s) × (q ≡ q')
  pub tick : (p : List ℕ) (r s : ℤ) (q q' : List ℕ) → (r ≡ tick_key p) × (q ≡ ticking p) → (s ≡ tick_key p) × (q' ≡ ticking p) → (r ≡ s) × (q ≡ q')
  pub report_tree : (p : List ℕ) (top : ℕ) (table t t' : List JobLine) (r s : Report)
      → (r ≡ report_answer p top (length table)) × (t ≡ sets table 0 (report_lines p top (length table)))
      → (s ≡ report_answer p top (length table)) × (t' ≡ sets table 0 (report_lines p top (length table))) → (r ≡ s) × (t ≡ t')
  pub error_text : (key : ℤ) (system driver r s : Bor (List ℕ)) → Answer (spot_of key system.now driver.now) system driver r → Answer (spot_of key system.now driver.now) system driver s
      → (r.now ≡ s.now) × (r.ref_ptr ≡ s.ref_ptr)
  pub error_key : (key : ℤ) (system driver : List ℕ) (r s : ℤ) → r ≡ error_key key system driver → s ≡ error_key key system driver → r ≡ s
