use Rattle.std.proofs.Common.{sym, subst}
use Rattle.clause.specs.declared.refusal.Fault.{Fault}
use Rattle.protocol.specs.Causes.{First, named}
use Rattle.lines.specs.View.{lines_of}
use Rattle.lines.specs.Named.{at_stage}
use Rattle.lines.proofs.Forcing.{outside_first, asleep_first, none_named}
use Rattle.lines.proofs.named.Named.check.Goals as goal

pub returns-then-some_outside : goal.returns-then-some_outside
returns-then-some_outside c st g from =
    let s = c.args.self.now in
    subst (λ (f : Fault). First (named (at_stage st g (lines_of s.lines.now)) s.numbers.now) f) (sym c.of.ensures)
    (outside_first s.lines.now c.args.first st g from s.numbers.now c.if-some_outside.ensures)

pub returns-then-some_asleep : goal.returns-then-some_asleep
returns-then-some_asleep c st g from =
    let s = c.args.self.now in
    subst (λ (f : Fault). First (named (at_stage st g (lines_of s.lines.now)) s.numbers.now) f) (sym c.of-then-some_asleep.ensures)
    (asleep_first s.lines.now c.args.first st g from s.numbers.now c.if-some_outside.ensures c.if-some_asleep.ensures)

pub returns : goal.returns
returns c st g from = let s = c.args.self.now in none_named s.lines.now c.args.first st g from s.numbers.now c.if-some_outside.ensures c.if-some_asleep.ensures
