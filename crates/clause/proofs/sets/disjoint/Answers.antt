use Rattle.std.proofs.Common.{arith}
use Rattle.std.proofs.lemmas.Bool.{eqb-true, eqb-false}
use Rattle.clause.proofs.Masks.{disjoint_from, disjoint_to}
use Rattle.clause.proofs.Telling.{tells}
use Rattle.clause.proofs.sets.disjoint.Goals as goal

pub returns : goal.returns
returns c = tells _ _
    (λ e. disjoint_from c.args.a c.args.b (eqb-true _ 0 e))
    (λ e h. eqb-false _ 0 e (disjoint_to 64 c.args.a c.args.b (omega arith) h))
