use Rattle.std.proofs.Common.{◌<◌, arith}
use Rattle.std.proofs.lemmas.Bool.{leb-true, leb-false}
use Rattle.clause.proofs.Telling.{tells}
use Rattle.clause.proofs.syntax.Literal.is_plain.Goals as goal

pub returns : goal.returns
returns c = tells _ (19 < c.args.self.letter → ⊥) (λ e h. let a = leb-true c.args.self.letter 19 e in omega arith) (λ e n. n (leb-false c.args.self.letter 19 e))
