use Rattle.std.proofs.Common.{rules, tests}
use Rattle.std.proofs.lemmas.Iterator.{IsFirst-from_position, YieldsList-from_slice, YieldsList-from_zip}
use Rattle.lines.specs.View.{lines_of}
use Rattle.lines.proofs.Guarding.{Fit, misfit}
use Rattle.lines.proofs.named.Named.misfit.Goals as goal

pub returns : goal.returns
returns c =
    let s = c.args.self.now in
    let ls = lines_of s.lines.now in
    misfit ls s.numbers.now c.args.guards.now _ (IsFirst-from_position {s = c.zip.result} c.position.new.self _ _ (λ p. ¬ Fit ls p) (Fit ls) c.position.ensures.ran
    (YieldsList-from_zip (YieldsList-from_slice s.numbers.now (cc)) (YieldsList-from_slice c.args.guards.now (cc))) (λ x q k. search (rules, tests)) (λ x q k. search (rules, tests)))
