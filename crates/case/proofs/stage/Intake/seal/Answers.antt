use Rattle.std.proofs.Common.{refl}
use Rattle.case.proofs.Giving.{sealed_as}
use Rattle.case.proofs.stage.Intake.seal.Goals as goal

pub returns : goal.returns
returns c t = sealed_as c.args.self t _ refl refl
