use Rattle.std.proofs.Common.{sym, refl, subst, arith}
use Rattle.protocol.proofs.Histories.{promise}
use Rattle.protocol.specs.History.{begun}
use Rattle.std.specs.List.{AllByRecursion}
use Rattle.std.proofs.lemmas.List.{drop_all}
use Rattle.lines.specs.View.{IsBlank}
use Rattle.case.proofs.Giving.{blanked_from}
use Rattle.case.proofs.stage.Intake.new.Goals as goal

pub returns-then-table-ne1000 : goal.returns-then-table-ne1000
returns-then-table-ne1000 c = record { begun = (c.if-table-ne1000.true, c.of.ensures, refl); promise = promise }

pub returns : goal.returns
returns c =
    let b = c.blank_between.ensures (omega arith) (omega arith) in
    record {
      begun = (c.if-table-ne1000.false, refl, b, record { history = begun; blank = blanked_from 0 1000 c.args.table.now _ (omega arith) b (subst (AllByRecursion IsBlank) (sym (drop_all 1000 c.args.table.now (omega arith))) tt) });
      promise = promise;
    }
