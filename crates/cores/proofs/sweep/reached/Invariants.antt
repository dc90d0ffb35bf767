use Rattle.std.proofs.Common.{◌≡◌, length}
use Rattle.lines.specs.View.{lines_of}
use Rattle.cores.proofs.Sweeping.{Swept}
use Rattle.cores.proofs.sweep.reached.Given as goal

abbrev pub invariant-loop-k : goal.invariant-loop-k
invariant-loop-k l = (length l.marks ≡ 1001) × Swept (lines_of l.lines) l.n l.k l.marks
