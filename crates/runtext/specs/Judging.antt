-- What a case text and a run text come to together.
use Rattle.std.specs.Prelude.{◌≡◌, ℕ, ◌≤◌, List, length, Ok, Err, Result}
use Rattle.clause.specs.declared.refusal.Fault.{Fault}
use Rattle.clause.specs.declared.syntax.Clause.{Clause}
use Rattle.clause.specs.Meaning.{Keeps}
use Rattle.lines.specs.declared.line.Line.{Line}
use Rattle.case.specs.declared.stage.Sealed.{Sealed}
use Rattle.case.specs.Verdict.{Shown}
use Rattle.text.specs.declared.stage.Verdict.{Verdict}
use Rattle.text.specs.declared.stage.Verdict.TheVariants.{Open, Contradiction}
use Rattle.text.specs.Reading.{TextRead}
use Rattle.text.specs.Promise.{written}
use Rattle.runtext.specs.declared.stage.TextRun.{TextRun}
use Rattle.runtext.specs.Reading.{run_of, RunRead}

-- the run is shown to the case, or the text's fault is told
abbrev pub Showing : Result TextRun Fault → Sealed → List Line → Result (ℕ × ℕ) Fault → Type 0
Showing (Ok x) s t r = Shown (run_of x) r s t
Showing (Err f) s t r = r ≡ Err f

abbrev pub ShownText : List ℕ → Sealed → List Line → Result (ℕ × ℕ) Fault → Type 0
ShownText text s t r = (b : Result TextRun Fault) × RunRead text b × Showing b s t r

-- the run text is read once the case text is accepted
abbrev pub RunJudgedBy : Result (Sealed × Verdict) Fault → List ℕ → List Line → Result (ℕ × ℕ) Fault → Type 0
RunJudgedBy (Ok p) text t r = ShownText text p.0 t r
RunJudgedBy (Err f) text t r = r ≡ Err f

abbrev pub BothRead : (case_text run_text : List ℕ) → List Line → List ℕ → Result (ℕ × ℕ) Fault → List Line → List ℕ → Type 0
BothRead case_text run_text t row r t' row' = (a : Result (Sealed × Verdict) Fault) × TextRead case_text t row a t' row' × RunJudgedBy a run_text t' r

-- the text describes a run with this lead-in and loop that breaks none of the clauses at any moment
abbrev pub KeptBy : List Clause → List ℕ → ℕ × ℕ → Type 0
KeptBy cs text p =
    (x : TextRun) × RunRead text (Ok x) × (p ≡ ((run_of x).lead, (run_of x).loop_length))
    × ((m : ℕ) → 1 ≤ m → m ≤ length cs → Keeps (run_of x).run (written cs m))

abbrev pub NotContradiction : Verdict → Type 0
NotContradiction (Open n) = Unit {0}
NotContradiction (Contradiction n count) = ⊥
