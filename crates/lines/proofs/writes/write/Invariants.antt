use Rattle.std.proofs.Common.{◌≡◌, ◌+◌, ◌≤◌, map, length, take}
use Rattle.clause.specs.declared.syntax.LitSet.{LitSet}
use Rattle.clause.specs.Sets.{Over}
use Rattle.protocol.specs.State as model
use Rattle.protocol.specs.Causes.{SomeOver}
use Rattle.lines.specs.declared.line.Line.{Line}
use Rattle.lines.specs.View.{line_of, Tidy, Written}
use Rattle.lines.proofs.writes.write.Given as goal

abbrev pub invariant-loop-i : goal.invariant-loop-i
invariant-loop-i g l = (f : LitSet → model.Line) → ((s : LitSet) (y : Line) → ¬ Over 59 s → goal.F-post g l.line s y → (line_of y ≡ f s) × Tidy y)
    → ¬ SomeOver l.guards → l.last + length l.guards ≤ length l.initial.table → Written l.last l.initial.table (map f (take l.i l.guards)) l.table
