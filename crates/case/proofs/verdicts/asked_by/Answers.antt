use Rattle.std.proofs.Common.{rules}
use Rattle.std.proofs.lemmas.Fn.{fold_over, fronts}
use Rattle.std.proofs.lemmas.Iterator.{YieldsList-from_slice}
use Rattle.lines.specs.declared.line.Line.{Line}
use Rattle.lines.specs.View.{lines_of}
use Rattle.case.specs.Verdict.{AllAsked}
use Rattle.case.proofs.Showing.{asked_more, none_asked}
use Rattle.case.proofs.verdicts.asked_by.Goals as goal

pub returns : goal.returns
returns c = fold_over (fronts {A = Line}) (λ y. y.now) _ (λ ys asked. AllAsked (lines_of ys) asked) _
    (λ ys asked x b f' q k. (
      search (rules, asked_more ys asked b x.now q),
      search rules,
    ))
    c.iter.result c.args.lines.now 0 _ (YieldsList-from_slice {s = c.iter.result} c.args.lines.now cc).runs (none_asked 0) c.fold.ensures.ran
