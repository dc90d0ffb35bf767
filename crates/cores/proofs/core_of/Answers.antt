use Rattle.std.proofs.Common.{arith}
use Rattle.lines.specs.View.{lines_of}
use Rattle.cores.specs.Marks.{marked_to}
use Rattle.cores.proofs.Coring.{core_is}
use Rattle.cores.proofs.core_of.Goals as goal

pub returns : goal.returns
returns c = record {
  core = λ f. (marked_to c.reached-marks.result c.args.given, core_is (lines_of c.args.lines.now) c.args.n c.args.given c.reached-marks.result c.reached-marks.ensures.exact, c.write_marked.ensures.row, c.write_marked.ensures.count);
  none = λ n. absurd (n (omega arith, omega arith, omega arith, omega arith));
}
