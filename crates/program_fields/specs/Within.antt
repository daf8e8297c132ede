-- How much a line may have (rules 123 and 126): no more than the rooms that are lent.
use Rattle.std.specs.Prelude.{ℕ, ◌≤◌}
use Rattle.program_fields.specs.declared.Asked.{Asked}
use Rattle.program_fields.specs.declared.Trial.{Trial}
use Rattle.program_fields.specs.declared.Trial.TheVariants.{Call, Report}

-- the system's text and the driver's fit
abbrev pub TextsFitting : Asked → ℕ → ℕ → Type 0
TextsFitting asked system driver = (asked.system ≤ system) × (asked.driver ≤ driver)

-- a trial's call field lies in its line, and its registers and its picture fit; a report is lent at most 64 lines, and its picture fits
abbrev pub Fitting : Trial → ℕ → ℕ → ℕ → Type 0
Fitting (Call call characters count size) line registers picture = (characters ≤ line) × (count ≤ registers) × (size ≤ picture)
Fitting (Report top lent size) line registers picture = (lent ≤ 64) × (size ≤ picture)
