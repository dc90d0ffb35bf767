use Rattle.std.proofs.Common.{◌≤◌, length, take, sym, subst, arith}
use Rattle.std.proofs.lemmas.List.{length-take-le}
use Rattle.runs.specs.Source.{end_of}
use Rattle.runs.specs.Moments.{World, Judged, worlds_of}
use Rattle.runs.proofs.Turns.{part_world}
use Rattle.runs.proofs.Judging.{judged_first}
use Rattle.runs.proofs.moments.Moments.first_break.Goals as goal

pub returns-clause-first : goal.returns-clause-first
returns-clause-first c x asked q w p =
    let m = c.args.self.now in
    let ws = m.worlds.at in
    let b : end_of x ≤ length ws = omega (arith, q.room, x.small) in
    judged_first x asked (take (end_of x) ws) (length-take-le (end_of x) ws b)
    (λ i h. subst (World x.run asked i) (sym (part_world ws (end_of x) i b h)) (q.worlds_are i h))
    c.args.clause c.judge.result w p
    (subst (λ e. Judged (take e ws) x.lead c.args.clause c.judge.result) q.end_is
    (subst (λ d. Judged (worlds_of m) d c.args.clause c.judge.result) q.lead_is c.judge.ensures))
