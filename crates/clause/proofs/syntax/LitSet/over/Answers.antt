use Rattle.clause.proofs.Telling.{not_first, not_second}
use Rattle.clause.proofs.syntax.LitSet.over.Goals as goal

pub returns-then-above-clause-masks : goal.returns-then-above-clause-masks
returns-then-above-clause-masks c h = not_first _ _ _ c.if-above.true (c.above.ensures.masks h)

pub returns-else-above-clause-masks : goal.returns-else-above-clause-masks
returns-else-above-clause-masks c h = not_second _ _ _ _ c.if-above.false (c.above.ensures.masks h) (c.above-else-above.ensures.masks h)
