-- The line that a program prints, without its end.
use Rattle.std.specs.Prelude.{ℕ, List, [], ◌∷◌, ◌++◌, map, take, codes, decimal}
use Rattle.clause.specs.declared.refusal.Fault.{Fault}
use Rattle.clause.specs.Refusals.{number_of, layer_of, layer_number}
use Rattle.text.specs.declared.stage.Verdict.{Verdict}
use Rattle.text.specs.declared.stage.Verdict.TheVariants.{Open, Contradiction}
use Rattle.reports.specs.declared.report.Report.{Report}
use Rattle.reports.specs.declared.report.Report.TheVariants.{Case, Kept, Refused}

-- texts parted by a byte
abbrev pub parted : ℕ → List (List ℕ) → List ℕ
parted b [] = []
parted b (x ∷ []) = x
parted b (x ∷ y ∷ rest) = x ++ b ∷ parted b (y ∷ rest)

-- fields parted by tabs
abbrev pub tabbed : List (List ℕ) → List ℕ
tabbed fields = parted 9 fields

-- numbers parted by single spaces
abbrev pub spaced : List ℕ → List ℕ
spaced ns = parted 32 (map decimal ns)

-- an accepted case text: the core of a contradiction is the first `count` numbers of the row
abbrev pub verdict_line : Verdict → List ℕ → List ℕ
verdict_line (Open last) row = tabbed (codes "open" ∷ decimal last ∷ [])
verdict_line (Contradiction line count) row = tabbed (codes "contradiction" ∷ decimal line ∷ spaced (take count row) ∷ [])

-- a refusal: its number, its layer, and where
abbrev pub fault_line : Fault → List ℕ
fault_line f = tabbed (codes "refused" ∷ decimal (number_of f.refusal) ∷ decimal (layer_number (layer_of f.refusal)) ∷ decimal f.line ∷ decimal f.field ∷ decimal f.detail ∷ [])

abbrev pub report_line : Report → List ℕ
report_line (Case verdict row) = verdict_line verdict row.now
report_line (Kept lead_in turn) = tabbed (codes "kept" ∷ decimal lead_in ∷ decimal turn ∷ [])
report_line (Refused f) = fault_line f
