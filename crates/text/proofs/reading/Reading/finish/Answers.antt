use Rattle.std.proofs.Common.{ap, ◌∙◌, arith}
use Rattle.clause.specs.Refusals.{placed}
use Rattle.text.proofs.Endings.{finish_taking, finish_working, finish_looping}
use Rattle.text.proofs.reading.Reading.finish.Goals as goal

pub returns-in-Taking : goal.returns-in-Taking
returns-in-Taking c row = finish_taking c.args.self.stage c.in-Taking.i c.seal-last.result.0 c.seal-last.result.1 c.args.n c.args.self.found c.verdict.result c.args.table.now row c.in-Taking.is (omega arith) (c.seal-last.ensures c.args.table.now) c.requires c.verdict.ensures

pub returns-in-Working : goal.returns-in-Working
returns-in-Working c row = finish_working c.args.self.stage c.in-Working.s c.last-last.result c.args.n c.args.self.found c.verdict-in-Working.result c.args.table.now row c.in-Working.is (omega arith) c.last-last.ensures c.requires c.verdict-in-Working.ensures

pub returns-in-Looping : goal.returns-in-Looping
returns-in-Looping c row = finish_looping c.args.self.stage c.in-Looping.o c.args.n c.args.self.found c.placed.result c.args.table.now c.give_up.new.table row c.in-Looping.is c.give_up.ensures (c.placed.ensures ∙ ap (placed c.args.n 0) c.of.ensures)
