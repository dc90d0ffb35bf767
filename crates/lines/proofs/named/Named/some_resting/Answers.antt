use Rattle.std.proofs.Common.{◌∙◌, rules, tests}
use Rattle.std.proofs.lemmas.Iterator.{YieldsList-from_slice}
use Rattle.std.proofs.lemmas.Iterator.Search.{any_from_yields_List}
use Rattle.protocol.specs.State.{line_at}
use Rattle.lines.specs.View.{lines_of}
use Rattle.lines.proofs.Citing.{any_resting_is}
use Rattle.lines.proofs.named.Named.some_resting.Goals as goal

pub returns : goal.returns
returns c =
    let s = c.args.self.now in
    let ls = lines_of s.lines.now in
    any_from_yields_List (λ n. (line_at ls n).resting) _ _ _ c.any.ensures.ran (YieldsList-from_slice s.numbers.now cc) (λ x b q k. search (rules, tests)) ∙ any_resting_is ls s.numbers.now
