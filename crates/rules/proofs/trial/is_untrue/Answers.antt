use Rattle.std.proofs.Common.{refl}
use Rattle.rules.proofs.Testing.{untrue_as}
use Rattle.rules.proofs.trial.is_untrue.Goals as goal

pub returns : goal.returns
returns c = untrue_as c.untrue_in.result c.args.choice c.args.set c.args.set c.untrue_in.ensures refl
