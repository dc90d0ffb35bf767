use Rattle.std.proofs.Common.{take, get_or, sym, ap, ◌∙◌, arith, rules, tests}
use Rattle.std.proofs.lemmas.List.{length-map}
use Rattle.clause.specs.Meaning.{none}
use Rattle.clause.specs.declared.syntax.Clause.TheVariants.{Initial}
use Rattle.protocol.specs.State.{clause_at, clauses_at}
use Rattle.lines.specs.View.{lines_of}
use Rattle.lines.proofs.Placing.{made_at, taken_is}
use Rattle.lines.proofs.named.Named.clauses.Goals as goal

pub returns-clause-front : goal.returns-clause-front
returns-clause-front c h =
    let s = c.args.self.now in let ls = lines_of s.lines.now in let ns = s.numbers.now in
    let cs = clauses_at ls ns in
    let d = Initial none in
    let l = length-map ns (clause_at ls) in
    ap (λ n. take n c.from_fn.result) (sym l)
    ∙ taken_is d 8 cs c.from_fn.result c.from_fn.ensures.items.long (λ i k. made_at _ _ (λ j. get_or cs j d) (λ j y q w. search (rules, tests)) c.from_fn.result 8 c.from_fn.ensures.items i d k) (omega arith)
