use Rattle.std.proofs.Common.{rules}
use Rattle.forms.specs.Cuts.{split}
use Rattle.forms.specs.Forms.{number_in}
use Rattle.forms.specs.Lists.{letters_in}
use Rattle.records.specs.declared.record.RunRecord.TheVariants.{Worlds, World, Task}
use Rattle.records.specs.Fields.{letter_of}
use Rattle.records.proofs.Made.{one_made, two_made, four_made}
use Rattle.records.proofs.run_lines.read_by.Goals as goal

pub returns-in-D : goal.returns-in-D
returns-in-D c = let m = two_made _ number_in number_in Worlds (split 9 c.args.line.text.now) c.args.line.ended c.two.result c.map.result c.two.ensures c.map.ensures.cases (λ x y p. search rules) in search rules

pub returns-in-U : goal.returns-in-U
returns-in-U c = let m = one_made _ letters_in World (split 9 c.args.line.text.now) c.args.line.ended c.one.result c.map-in-U.result c.one.ensures c.map-in-U.ensures.cases (λ x y p. search rules) in search rules

pub returns-in-K : goal.returns-in-K
returns-in-K c = let m = four_made _ letter_of number_in number_in number_in Task (split 9 c.args.line.text.now) c.args.line.ended c.four.result c.map-in-K.result c.four.ensures c.map-in-K.ensures.cases (λ x y p. search rules) in search rules
