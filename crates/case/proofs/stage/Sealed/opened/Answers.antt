use Rattle.std.proofs.Common.{◌≤◌, length, refl}
use Rattle.clause.specs.Meaning.{none}
use Rattle.lines.proofs.Placing.{front_is}
use Rattle.case.proofs.stage.Sealed.opened.Goals as goal

pub returns : goal.returns
returns c =
    let few : length c.args.guards.now ≤ 8 = c.requires.few in
    record {
      first = refl;
      literal = refl;
      guards = front_is none c.args.guards.now c.first_8.result few (c.first_8.ensures.few few);
      given = c.grown-body.ensures.given;
      last = c.grown-body.ensures.last;
    }
