use Rattle.std.proofs.Common.{rules}
use Rattle.std.proofs.lemmas.Bool.{ltb-true}
use Rattle.forms.proofs.Leading.{alone_end, alone_space, alone_none, rest_shorter}
use Rattle.forms.proofs.numbers.alone.Goals as goal

pub returns-in-empty : goal.returns-in-empty
returns-in-empty c = search (rules, alone_end, ltb-true)

pub returns-in-32 : goal.returns-in-32
returns-in-32 c = search (rules, alone_space, rest_shorter)

pub returns-in_default : goal.returns-in_default
returns-in_default c = search (rules, alone_none)
