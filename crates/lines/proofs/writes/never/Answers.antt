use Rattle.protocol.proofs.Narrow.{narrow_never}
use Rattle.lines.proofs.writes.never.Goals as goal

pub returns-clause-exact : goal.returns-clause-exact
returns-clause-exact c h k o = c.citing.ensures.exact (narrow_never c.args.l h c.args.guard o) k
