use Rattle.std.proofs.Common.{sym, refl}
use Rattle.forms.proofs.Splits.{cut_some, cut_none}
use Rattle.forms.proofs.cuts.cut.Goals as goal

pub returns-in-Some : goal.returns-in-Some
returns-in-Some c = cut_some c.args.b c.in-Some.end c.args.text.now (sym c.in-Some.ensures)

pub returns-in-None : goal.returns-in-None
returns-in-None c = (cut_none c.args.b c.args.text.now (sym c.in-None.ensures), refl)
