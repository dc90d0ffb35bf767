use Rattle.std.proofs.Common.{arith}
use Rattle.std.proofs.lemmas.Bool.{eqb-true, eqb-false}
use Rattle.clause.proofs.Masks.{within_from, within_to}
use Rattle.clause.proofs.Telling.{tells}
use Rattle.clause.proofs.sets.part_of.Goals as goal

pub returns : goal.returns
returns c = tells _ _
    (λ e. within_from c.args.a c.args.b (eqb-true _ _ e))
    (λ e h. eqb-false _ _ e (within_to 64 c.args.a c.args.b (omega arith) h))
