use Rattle.std.proofs.Common.{rules, tests}
use Rattle.protocol.specs.Answers.{assumed}
use Rattle.lines.proofs.writes.assume.Goals as goal

pub returns : goal.returns
returns c h o r = c.write.ensures (assumed c.args.l) (λ s y w p. search (rules, tests)) o r
