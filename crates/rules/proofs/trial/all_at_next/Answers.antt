use Rattle.std.proofs.Common.{false, ◌||◌, ◌∙◌}
use Rattle.rules.proofs.Testing.{four}
use Rattle.rules.proofs.trial.all_at_next.Goals as goal

pub returns : goal.returns
returns c x =
    (λ j. c.place_at_next.ensures x j || (c.place_at_next-2.ensures x j || (c.place_at_next-3.ensures x j || (c.place_at_next-4.ensures x j || false))))
    ∙ four x c.args.y c.args.cited.now c.requires
