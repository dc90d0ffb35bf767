use Rattle.std.proofs.Common.{sym, ◌∙◌}
use Rattle.rules.proofs.Testing.{place_at, place_none, never_untrue}
use Rattle.rules.proofs.trial.place_at_next.Goals as goal

pub returns-then-i-cited : goal.returns-then-i-cited
returns-then-i-cited c x = c.at_next.ensures x ∙ sym (place_at x c.args.y c.args.cited.now c.args.i _ c.if-i-cited.true)

pub returns-else-i-cited : goal.returns-else-i-cited
returns-else-i-cited c x = never_untrue x ∙ place_none x c.args.y c.args.cited.now c.args.i c.if-i-cited.false
