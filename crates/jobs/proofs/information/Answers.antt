use mathlib.Core.Path.{refl}
use Rattle.calls.proofs.Outcome.{meets_succeed}
use Rattle.calls.specs.Call.{outcome}
use Rattle.jobs.specs.Calls.{information}
use Rattle.jobs.proofs.information.Goals as goal

pub returns : goal.returns
unfolding information outcome
returns c = rw (c.put-3.ensures, c.put-2.ensures, c.put.ensures, c.caller_of.ensures) (meets_succeed _ _ _ refl)
