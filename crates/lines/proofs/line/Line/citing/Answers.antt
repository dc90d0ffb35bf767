use Rattle.std.proofs.Common.{◌≤◌, length, arith}
use Rattle.lines.proofs.Placing.{front_is, tidy_is}
use Rattle.lines.proofs.line.Line.citing.Goals as goal

pub returns : goal.returns
returns c =
    let ns = c.args.cites.now in
    let h : length ns ≤ 8 = omega arith in
    let e = c.first_8.ensures.few h in
    record {
      exact = λ _ _ j. record { clause = c.args.clause; cites = front_is 0 ns c.first_8.result h e j; resting = c.args.resting };
      tidy = tidy_is ns c.first_8.result h e;
    }
