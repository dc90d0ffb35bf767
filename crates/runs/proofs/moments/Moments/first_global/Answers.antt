use Rattle.std.proofs.Common.{rules, subst, sym, arith}
use Rattle.std.proofs.lemmas.Iterator.{first_from_Range}
use Rattle.std.proofs.lemmas.List.{length-take-le}
use Rattle.runs.specs.Breaks.{FirstIn}
use Rattle.runs.specs.Moments.{BreaksAt, worlds_of}
use Rattle.runs.proofs.Judging.{first_found}
use Rattle.runs.proofs.moments.Moments.first_global.Goals as goal

pub returns : goal.returns
returns c =
    let m = c.args.self.now in
    let P = BreaksAt (worlds_of m) m.lead c.args.n c.args.x in
    subst (λ e. FirstIn P 0 e c.find.result) (sym (length-take-le m.end m.worlds.at (omega arith)))
    (first_found P _ _ _ (first_from_Range _ _ _ _ P (λ i. ¬ P i) c.find.ensures.ran (λ x q k. search rules) (λ x q k. search rules)))
