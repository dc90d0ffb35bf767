use Rattle.std.proofs.Common.{◌≡◌, length, sym, subst, rules}
use Rattle.rules.specs.Books.{outcome_of, Tidy}
use Rattle.rules.specs.Resolving.{late_of}
use Rattle.rules.proofs.Accepting.{answered, formed}
use Rattle.rules.proofs.resolution.ResolutionRuleBook.consult.Goals as goal

pub returns-in-len2 : goal.returns-in-len2
returns-in-len2 c =
    let k = c.args.k in
    let cs = c.args.cited.now in
    let r = c.resolve.result in
    let h : length cs ≡ 2 = search rules in
    let e : late_of k cs ≡ outcome_of (length cs) r = answered k cs _ r h c.resolve.ensures.answer in
    record {
      answer = e;
      tidy = subst (λ n. Tidy n r) (sym h) c.resolve.ensures.tidy;
      form = formed k cs _ e;
    }
