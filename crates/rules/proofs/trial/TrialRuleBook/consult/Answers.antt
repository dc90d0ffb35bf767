use Rattle.rules.proofs.Judging.{judged_as}
use Rattle.rules.proofs.trial.TrialRuleBook.consult.Goals as goal

pub returns : goal.returns
returns c = record {
  answer = c.attempt.ensures.answer;
  tidy = c.attempt.ensures.tidy;
  judged = judged_as c.args.claim c.args.cited.now _ c.attempt.ensures.answer;
}
