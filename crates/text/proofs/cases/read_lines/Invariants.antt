use Rattle.std.proofs.Common.{ℕ, ◌+◌, ◌*◌, ◌<◌, ◌≤◌, List, length, None, Result}
use Rattle.clause.specs.declared.refusal.Fault.{Fault}
use Rattle.lines.specs.declared.line.Line.{Line}
use Rattle.case.specs.declared.stage.Sealed.{Sealed}
use Rattle.protocol.specs.State.{fresh}
use Rattle.text.specs.declared.stage.Verdict.{Verdict}
use Rattle.text.specs.Calls.{view, LedTo}
use Rattle.text.specs.Reading.{lines, Comes}
use Rattle.text.proofs.cases.read_lines.Given as goal

-- what is left of the text, read from here, comes to what the whole text comes to
abbrev pub invariant-loop-line : goal.invariant-loop-line
invariant-loop-line l = record {
  counted : 0 < length l.rest.rest.now → 2 * l.rest.number + length l.rest.rest.now ≤ length l.text + 2;
  few : l.rest.number ≤ 32770;
  led : LedTo (view l.reading.stage l.table) l.table;
  onward : (r : Result (Sealed × Verdict) Fault) (t : List Line) (row : List ℕ) → Comes l.rest.number (lines l.rest.rest.now) l.reading.found (view l.reading.stage l.table) l.row r t row → Comes 1 (lines l.text) None fresh l.initial.row r t row;
}
