use Rattle.std.proofs.Common.{◌≡◌, length}
use Rattle.runs.proofs.Noting.{NotedTo}
use Rattle.runs.proofs.moments.Masks.note.Given as goal

abbrev pub invariant-loop-i : goal.invariant-loop-i
invariant-loop-i g l = (length l.self.at ≡ length l.initial.self.at) × NotedTo (goal.F-post g l.test) l.k l.initial.self.at l.self.at l.i
