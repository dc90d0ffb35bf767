use Rattle.std.proofs.Common.{◌-◌, arith, rules, tests}
use Rattle.lines.proofs.Writing.{blanked_is}
use Rattle.lines.proofs.writes.blank_between.Goals as goal

pub returns-then-from-end : goal.returns-then-from-end
returns-then-from-end c h k =
    let a = c.from-then-from-end.result in
    record {
      place = c.blank.result;
      is_blank = c.blank.ensures;
      table_is = blanked_is c.args.table.now c.fill.new.self c.args.from c.args.end a (c.min-end.result - a) c.blank.result h k (omega arith) (omega arith) (c.fill.ensures.after (λ y q. search (rules, tests)));
    }
