use Rattle.std.proofs.Common.{rules, tests}
use Rattle.protocol.specs.Answers.{nevers}
use Rattle.lines.proofs.writes.conclude.Goals as goal

pub returns : goal.returns
returns c h k o r = c.write.ensures (nevers c.args.l c.args.covers.now) (λ s y w p. search (rules, tests)) o r
