use Rattle.std.proofs.Common.{◌+◌, ◌^◌, not, ap, pow_pos, arith}
use Rattle.std.proofs.lemmas.Bool.{eqb-true, eqb-false, ltb-true, not-true, not-false}
use Rattle.clause.proofs.Masks.{shifted_some, shifted_none, gone, in_below}
use Rattle.clause.proofs.Telling.{tells}
use Rattle.clause.proofs.sets.above.Goals as goal

pub returns-then-n-lt63 : goal.returns-then-n-lt63
returns-then-n-lt63 c = record {
  tells = tells _ _
      (λ e. shifted_some 64 c.args.mask c.args.n (omega arith) (eqb-false _ 0 (not-true _ e)))
      (λ e w. shifted_none c.args.mask c.args.n (eqb-true _ 0 (not-false _ e)) w.0 w.1 w.2);
  masks = λ _. ap not (gone c.args.mask (2 ^ (c.args.n + 1)) (pow_pos (c.args.n + 1)));
}

pub returns-else-n-lt63 : goal.returns-else-n-lt63
returns-else-n-lt63 c = record {
  tells = tells _ _
      (λ e. let h = ltb-true c.args.n 63 e in absurd (omega arith))
      (λ e w. omega (arith, w.1, in_below 64 c.args.mask w.0 (omega arith) w.2));
  masks = λ h. absurd (omega (arith, h));
}
