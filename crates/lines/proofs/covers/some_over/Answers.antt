use Rattle.std.proofs.Common.{rules, tests}
use Rattle.std.proofs.lemmas.Iterator.{cases_from_any, YieldsList-from_slice}
use Rattle.clause.specs.Sets.{Over}
use Rattle.lines.proofs.Citing.{any_tells}
use Rattle.lines.proofs.covers.some_over.Goals as goal

pub returns : goal.returns
returns c =
    let gs = c.args.guards.now in
    any_tells (Over 59) _ gs (cases_from_any _ _ _ (Over 59) (λ g. ¬ Over 59 g) c.any.ensures.ran (YieldsList-from_slice gs cc) (λ x q k. search (rules, tests)) (λ x q k. search (rules, tests)))
