use Rattle.std.proofs.Common.{take}
use Rattle.cores.specs.Marks.{MarkedToo}
use Rattle.cores.proofs.marks.mark_below.Given as goal

abbrev pub invariant-loop-c : goal.invariant-loop-c
invariant-loop-c l = MarkedToo (take l.c-index l.cites) l.k l.initial.marks l.marks
