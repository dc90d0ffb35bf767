use Rattle.std.proofs.Common.{rules}
use Rattle.text.proofs.Standings.{lines_length}
use Rattle.text.proofs.places.outside.Goals as goal

pub returns-else-n-eq0 : goal.returns-else-n-eq0
returns-else-n-eq0 c = search (rules, lines_length)
