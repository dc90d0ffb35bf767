use Rattle.std.proofs.Common.{Ok, ap, ◌∙◌, arith}
use Rattle.runs.proofs.Folding.{letter_is}
use Rattle.runs.proofs.worlds.WorldTableRunSource.letter.Goals as goal

pub returns : goal.returns
returns c = let t = c.in_ok-tested.ensures in ap Ok c.tells.ensures ∙ letter_is c.args.self.now c.args.k c.args.i (omega (arith, t.0)) (omega (arith, t.1))
