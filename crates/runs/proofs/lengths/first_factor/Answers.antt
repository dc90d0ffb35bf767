use Rattle.std.proofs.Common.{◌≡◌, ℕ, ◌*◌, ◌%◌, rules}
use Rattle.std.proofs.lemmas.Iterator.{first_from_Range}
use Rattle.runs.proofs.Judging.{first_found}
use Rattle.runs.proofs.lengths.first_factor.Goals as goal

pub returns : goal.returns
returns c =
    let P : ℕ → Type 0 = λ n. c.args.a * n % c.args.p ≡ 0 in
    first_found P _ _ _ (first_from_Range _ _ _ _ P (λ n. ¬ P n) c.find.ensures.ran (λ x q k. search rules) (λ x q k. search rules))
