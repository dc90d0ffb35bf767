use Rattle.std.proofs.Common.{◌≡◌, ◌≤◌, length, rules}
use Rattle.text.specs.Reading.{lines}
use Rattle.text.proofs.Endings.{whole_refused, whole_read, made_part}
use Rattle.text.proofs.Promising.{verdict_part}
use Rattle.text.proofs.cases.read_case.Goals as goal

pub returns-in_err-check_length-clause-exact : goal.returns-in_err-check_length-clause-exact
returns-in_err-check_length-clause-exact c =
    let long : length c.args.table.now ≡ 1000 = search rules in
    let wide : length c.args.row.now ≡ 200 = search rules in
    let same : c.in-Some.table.now ≡ c.args.table.now = search rules in
    whole_refused c.args.text.now c.args.table.now c.args.row.now c.from_residual.result c.in-Some.table.now c.in_err-check_length.field-0.0 long wide same (search rules) c.in_err-check_length.ensures

pub returns : goal.returns
returns c =
    let q = c.read_lines in
    let text = c.args.text.now in
    let long : length c.args.table.now ≡ 1000 = search rules in
    let wide : length c.args.row.now ≡ 200 = search rules in
    let short : length text ≤ 65536 = search rules in
    let p = verdict_part (lines text) c.args.row.now q.result q.new.table q.new.row q.ensures in
    record {
      exact = whole_read text c.args.table.now c.args.row.now q.result q.new.table q.new.row long wide short (search rules) q.ensures;
      verdict = made_part q.result _ _ (λ x y. y.0) p;
      given = made_part q.result _ _ (λ x y. y.1) p;
      no_run = made_part q.result _ _ (λ x y. y.2) p;
    }
