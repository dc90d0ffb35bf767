use Rattle.std.proofs.Common.{ℕ, ◌+◌, ltb, Option, rules, sym, subst}
use Rattle.std.specs.Bool.{then_some}
use Rattle.runs.specs.Moments.{worlds_of, LastTrue}
use Rattle.runs.proofs.Judging.{last_true}
use Rattle.runs.proofs.moments.Moments.horizon.Goals as goal

pub returns : goal.returns
returns c =
    let m = c.args.self.now in
    subst (λ (o : Option ℕ). LastTrue (worlds_of m) m.lead c.args.l o) (sym c.then_some.ensures)
    (subst (λ n. LastTrue (worlds_of m) m.lead c.args.l (then_some (ltb c.in-Some.last n) (c.in-Some.last + 1))) (sym c.from-2.ensures)
    (last_true (worlds_of m) m.lead c.args.l c.in-Some.last (search rules) (search rules) (search rules)))
