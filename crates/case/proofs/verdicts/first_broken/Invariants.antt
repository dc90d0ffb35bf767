use Rattle.std.proofs.Common.{ℕ}
use Rattle.runs.specs.Source.{Source}
use Rattle.runs.specs.Moments.{Read}
use Rattle.lines.specs.View.{lines_of}
use Rattle.case.specs.Verdict.{AllAsked, KeptTo}
use Rattle.case.proofs.verdicts.first_broken.Given as goal

abbrev pub invariant-loop-n : goal.invariant-loop-n
invariant-loop-n l = (x : Source) (asked : ℕ) → Read x asked l.moments → AllAsked (lines_of l.lines) asked → KeptTo x.run (lines_of l.lines) l.n
