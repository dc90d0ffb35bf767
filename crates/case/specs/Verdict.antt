-- What refute and show answer, and what their answers mean.
use Rattle.std.specs.Prelude.{◌≡◌, ℕ, ◌<◌, ◌≤◌, List, [], ◌∷◌, ◌++◌, length, Some, None, Ok, Err, Option, Result, ◌≢◌}
use Rattle.clause.specs.declared.refusal.Fault.{Fault}
use Rattle.clause.specs.declared.refusal.Refusal.TheVariants.{WrongSize}
use Rattle.clause.specs.Refusals.{plain}
use Rattle.clause.specs.Bit.{In}
use Rattle.clause.specs.Meaning.{Run, Broken, Unbroken, Keeps}
use Rattle.runs.specs.Source.{Source}
use Rattle.runs.specs.Moments.{asks}
use Rattle.protocol.specs.State as model
use Rattle.protocol.specs.Calls.{Call, Answer, refute, show, core, shown, refused}
use Rattle.protocol.specs.Causes.{named, refutable}
use Rattle.protocol.specs.Answers.{Answered}
use Rattle.protocol.specs.Promise.{Contradiction, KeepsGiven}
use Rattle.lines.specs.declared.line.Line.{Line}
use Rattle.lines.specs.View.{lines_of}
use Rattle.lines.specs.Named.{Checked, at_stage}
use Rattle.case.specs.declared.stage.Sealed.{Sealed}
use Rattle.case.specs.View.{view_sealed}
use Rattle.case.specs.Calling.{Led, Onward}

abbrev pub core_answer : List ℕ → Result ℕ Fault → Answer
core_answer row (Ok n) = core row n
core_answer row (Err f) = refused f

-- a refused refute leaves the row
abbrev pub RowKept : Result ℕ Fault → List ℕ → List ℕ → Type 0
RowKept (Ok _) row row' = Unit {0}
RowKept (Err _) row row' = row' ≡ row

-- an accepted refute is a contradiction: its row holds the core of its line and zeros, its answer is the count, and no run keeps every clause of the core
abbrev pub RefuteVerdict : model.State → ℕ → List ℕ → Result ℕ Fault → Type 0
RefuteVerdict s n row (Ok count) = Contradiction s n row count
RefuteVerdict s n row (Err f) = Unit {0}

pub record Refuted (n : ℕ) (r : Result ℕ Fault) (s : Sealed) (t : List Line) (row row' : List ℕ) : Type 0 where
  pub wrong : (length t ≢ 1000) → r ≡ Err (plain WrongSize)
  pub right : length t ≡ 1000 → Answered (view_sealed s t) (refute n row) (core_answer row' r) (view_sealed s t)
  pub kept : RowKept r row row'
  pub onward : Onward (refute n row) (core_answer row' r) (view_sealed s t) t (view_sealed s t) t
  pub verdict : length t ≡ 1000 → (h : List (Call × Answer)) → Led h (view_sealed s t) t → RefuteVerdict (view_sealed s t) n row' r

abbrev pub shown_answer : Result (ℕ × ℕ) Fault → Answer
shown_answer (Ok p) = shown p.0 p.1
shown_answer (Err f) = refused f

-- a show is accepted exactly where the run keeps every given clause over endless time
abbrev pub ShowVerdict : model.State → Source → Result (ℕ × ℕ) Fault → Type 0
ShowVerdict s x (Ok p) = (p ≡ (x.lead, x.loop_length)) × KeepsGiven s x.run
ShowVerdict s x (Err f) = ¬ KeepsGiven s x.run

pub record Shown (x : Source) (r : Result (ℕ × ℕ) Fault) (s : Sealed) (t : List Line) : Type 0 where
  pub wrong : (length t ≢ 1000) → r ≡ Err (plain WrongSize)
  pub right : length t ≡ 1000 → Answered (view_sealed s t) (show x) (shown_answer r) (view_sealed s t)
  pub onward : Onward (show x) (shown_answer r) (view_sealed s t) t (view_sealed s t) t
  pub verdict : length t ≡ 1000 → ShowVerdict (view_sealed s t) x r

-- every letter of the lines is asked for
abbrev pub AllAsked : List model.Line → ℕ → Type 0
AllAsked ls asked = (n : ℕ) → 1 ≤ n → n ≤ length ls → (k : ℕ) → In k (asks (model.clause_at ls n)) → In k asked

-- the run keeps the lines to n
abbrev pub KeptTo : Run → List model.Line → ℕ → Type 0
KeptTo r ls n = (m : ℕ) → 1 ≤ m → m ≤ n → Keeps r (model.clause_at ls m)

-- none, and the run keeps every line; or the lowest line that it breaks, and the lowest moment
abbrev pub Lowest : Run → List model.Line → Option (ℕ × ℕ) → Type 0
Lowest r ls None = KeptTo r ls (length ls)
Lowest r ls (Some p) = (1 ≤ p.0) × (p.0 ≤ length ls) × Broken r p.1 (model.clause_at ls p.0)
    × ((j : ℕ) → j < p.1 → Unbroken r j (model.clause_at ls p.0)) × ((m : ℕ) → 1 ≤ m → m < p.0 → Keeps r (model.clause_at ls m))

-- line n of a sealed case with these lines can be refuted, or why not
abbrev pub Refutable : List Line → ℕ → Result Unit Fault → Type 0
Refutable t n r = (g : ℕ) → length t ≤ 1000 → Checked (named (at_stage model.sealed g (lines_of t)) (n ∷ []) ++ refutable (model.clause_at (lines_of t) n)) r
