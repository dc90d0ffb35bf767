use Rattle.std.proofs.Common.{arith}
use Rattle.protocol.proofs.Narrow.{under_none}
use Rattle.lines.proofs.line.Line.blank.Goals as goal

pub invariant_of-result : goal.invariant_of-result
invariant_of-result c = record { few = omega arith; narrow = (under_none 59, under_none 59, λ h. omega arith) }
