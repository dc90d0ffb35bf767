-- A line that a call adds, were there a place for it.
use Rattle.std.specs.Prelude.{ℕ, List, Ok, Err, Option, Result, length}
use Rattle.clause.specs.declared.refusal.Fault.{Fault}
use Rattle.protocol.specs.State as model
use Rattle.protocol.specs.Calls.{Call}
use Rattle.protocol.specs.Causes.{First, NoneOf, checks}
use Rattle.protocol.specs.Answers.{Adds}
use Rattle.lines.specs.declared.line.Line.{Line}
use Rattle.lines.specs.View.{line_of, lines_of, Tidy}
use Rattle.lines.specs.Named.{LoopFrom, at_stage}

abbrev pub Drafted : model.State → Call → Result Line Fault → Type 0
Drafted s c (Ok x) = NoneOf (checks s c) × Adds s c (line_of x) × Tidy x
Drafted s c (Err f) = First (checks s c) f

-- on a sealed case with these lines
abbrev pub SealedDraft : List Line → Call → Result Line Fault → Type 0
SealedDraft t c r = (g : ℕ) → Drafted (at_stage model.sealed g (lines_of t)) c r

-- at every stage whose open loop, if there is one, begins at first
abbrev pub StageDraft : Option ℕ → List Line → Call → Result Line Fault → Type 0
StageDraft first t c r = (st : model.Stage) (g : ℕ) → LoopFrom first (length t) st → Drafted (at_stage st g (lines_of t)) c r
