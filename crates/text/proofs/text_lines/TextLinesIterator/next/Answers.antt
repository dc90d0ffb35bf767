use Rattle.std.proofs.Common.{refl, rules}
use Rattle.text.proofs.Endings.{first_line}
use Rattle.text.proofs.text_lines.TextLinesIterator.next.Goals as goal

pub returns-clause-steps : goal.returns-clause-steps
returns-clause-steps c =
    let t = first_line c.args.self.now.rest.now c.cut.result.0.now c.cut.result.1 _ c.unwrap_or-self.result c.is_some.result c.unwrap_or-self.ensures c.is_some.ensures refl (search rules) c.cut.ensures in
    record { number = refl; next_number = search rules; front = t.0; fewer = t.1; parted = t.2 }
