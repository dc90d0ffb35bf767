use Rattle.std.proofs.Common.{rules}
use Rattle.runs.proofs.Changing.{world_changed}
use Rattle.runs.proofs.world.Worlds.change.Goals as goal

pub returns : goal.returns
returns c = search (rules, world_changed)
