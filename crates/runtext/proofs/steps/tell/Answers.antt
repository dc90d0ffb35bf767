use Rattle.std.proofs.Common.{refl, rules}
use Rattle.runtext.proofs.steps.tell.Goals as goal

pub returns : goal.returns
returns c = (search rules, search rules, (c.told.result, c.told.ensures, refl))
