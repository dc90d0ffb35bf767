use Rattle.std.proofs.Common.{ℕ, List, Option, ap, ◌∙◌}
use Rattle.clause.specs.Refusals.{placed}
use Rattle.protocol.specs.State as model
use Rattle.text.specs.Calls.{view}
use Rattle.text.specs.Fields.{field_of}
use Rattle.text.proofs.Standings.{taken_err}
use Rattle.text.proofs.reading.Reading.call.Goals as goal

pub returns-in-Err-clause-exact : goal.returns-in-Err-clause-exact
returns-in-Err-clause-exact c =
    let q = c.step-stage in let f = c.in-Err.f in
    let s = view q.result.0 q.new.table in
    taken_err (view c.args.self.stage c.args.table.now) s c.args.what c.args.row.now q.new.row c.args.n c.args.self.found q.result.1 f c.placed.result c.in-Err.is q.ensures.exact
    (c.placed.ensures ∙ ap (λ k. placed c.args.n k f)
    (c.refused_field-field.ensures ∙ ap (λ (z : List model.Line). field_of z c.first.result c.args.what f.refusal) c.lines.ensures
    ∙ ap (λ (z : Option ℕ). field_of s.lines z c.args.what f.refusal) (c.first.ensures q.new.table)))
