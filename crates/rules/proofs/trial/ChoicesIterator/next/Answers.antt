use Rattle.std.proofs.Common.{refl}
use Rattle.rules.proofs.Choosing.{fewer}
use Rattle.rules.proofs.trial.ChoicesIterator.next.Goals as goal

pub returns-clause-goes : goal.returns-clause-goes
returns-clause-goes c = record {
  on = λ _. (tt, tt, fewer c.in_ok-choice.choice c.args.self.now _ (c.in_ok-choice.was, refl, c.below-self.ensures));
  keeps = tt;
  rests = λ _. tt;
}
