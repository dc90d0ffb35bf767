use Rattle.std.proofs.Common.{◌-◌}
use Rattle.cores.proofs.Rows.{Holding}
use Rattle.cores.proofs.marks.write_marked.Given as goal

abbrev pub invariant-loop-m : goal.invariant-loop-m
invariant-loop-m l = Holding l.marks (l.m - 1) l.count l.row
