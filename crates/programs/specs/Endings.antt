-- How a program ends.
use Rattle.std.specs.Prelude.{◌≡◌, Bool, true, false, Ok, Err, Result, IsOkAnd, IsErrAnd}
use Rattle.std.specs.Process.{exit_status}
use Rattle.std.specs.declared.process.ExitCode.{ExitCode}
use Rattle.reports.specs.declared.report.Report.{Report}
use Rattle.reports.specs.declared.report.Report.TheVariants.{Case, Kept, Refused}
use Rattle.programs.specs.declared.endings.Ended.{Ended}
use Rattle.programs.specs.declared.endings.Ended.TheVariants.{Refused as Stopped, Failed}

abbrev pub refuses : Report → Bool
refuses (Case verdict row) = false
refuses (Kept lead_in turn) = false
refuses (Refused f) = true

-- a program ends well only where its report is no refusal, and by a fault only where its report is that fault
abbrev pub Ends : Report → Result (Unit {0}) Ended → Type 0
Ends report (Ok x) = refuses report ≡ false
Ends report (Err (Stopped f)) = report ≡ Refused f
Ends report (Err (Failed e)) = Unit {0}

-- the status of a program that ended so: 0, or 1 for a fault; an error of reading or printing stays what it was
abbrev pub ExitsWith : {E : Type 0} → (E → Ended) → Result (Unit {0}) Ended → Result ExitCode E → Type 0
ExitsWith failed (Ok x) r = IsOkAnd r (λ code. exit_status code ≡ 0)
ExitsWith failed (Err (Stopped f)) r = IsOkAnd r (λ code. exit_status code ≡ 1)
ExitsWith failed (Err (Failed e)) r = IsErrAnd r (λ left. failed left ≡ Failed e)
