-- What texts come to, as a report.
use Rattle.std.specs.Prelude.{◌≡◌, ℕ, List, Ok, Err, Result}
use Rattle.clause.specs.declared.refusal.Fault.{Fault}
use Rattle.case.specs.declared.stage.Sealed.{Sealed}
use Rattle.text.specs.declared.stage.Verdict.{Verdict}
use Rattle.reports.specs.declared.report.Report.{Report}
use Rattle.reports.specs.declared.report.Report.TheVariants.{Case, Kept, Refused}

-- the report has the verdict and the row of an accepted case text, or the fault of a refused one
abbrev pub Tells : Result (Sealed × Verdict) Fault → List ℕ → Report → Type 0
Tells (Ok p) row (Case verdict lent) = (verdict ≡ p.1) × (lent.now ≡ row)
Tells (Ok p) row (Kept lead_in turn) = ⊥
Tells (Ok p) row (Refused f) = ⊥
Tells (Err e) row (Case verdict lent) = ⊥
Tells (Err e) row (Kept lead_in turn) = ⊥
Tells (Err e) row (Refused f) = f ≡ e

abbrev pub run_report : Result (ℕ × ℕ) Fault → Report
run_report (Ok p) = Kept p.0 p.1
run_report (Err e) = Refused e
