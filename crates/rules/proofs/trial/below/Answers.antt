use Rattle.std.proofs.Common.{Some, sym, subst, arith}
use lib.Bits.{bit_and}
use Rattle.rules.specs.Deciding.{NextSub}
use Rattle.rules.proofs.Choosing.{next_sub}
use Rattle.rules.proofs.trial.below.Goals as goal

pub returns : goal.returns
returns c = let h = c.in_ok-checked_sub.ensures in
    subst (λ n. NextSub c.args.x c.args.a (Some (bit_and n c.args.a))) (sym h.1) (next_sub c.args.x c.args.a (omega (arith, h.0)))
