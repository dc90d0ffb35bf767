use Rattle.std.proofs.Common.{refl}
use Rattle.runs.proofs.Changing.{all_no}
use Rattle.runs.proofs.table.WorldTable.new.Goals as goal

pub returns : goal.returns
returns c = (refl, refl, all_no 64)
