use Rattle.std.proofs.Common.{ℕ, get_or, rules}
use Rattle.std.proofs.lemmas.Iterator.{first_from_Range}
use Rattle.clause.specs.Sets.{UntrueIn}
use Rattle.runs.specs.Moments.{worlds_of}
use Rattle.runs.proofs.Judging.{first_found}
use Rattle.runs.proofs.moments.Moments.first_untrue.Goals as goal

pub returns : goal.returns
returns c =
    let P = λ (i : ℕ). UntrueIn (get_or (worlds_of c.args.self.now) i 0) c.args.n in
    first_found P _ _ _ (first_from_Range _ _ _ _ P (λ i. ¬ P i) c.find.ensures.ran (λ x q k. search rules) (λ x q k. search rules))
