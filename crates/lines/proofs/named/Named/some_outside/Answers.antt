use Rattle.std.proofs.Common.{◌≡◌, ℕ, ◌<◌, ◌⊎◌, length, rules, tests}
use Rattle.std.proofs.lemmas.Iterator.{cases_from_any, YieldsList-from_slice}
use Rattle.lines.proofs.Citing.{any_tells}
use Rattle.lines.proofs.named.Named.some_outside.Goals as goal

pub returns : goal.returns
returns c =
    let s = c.args.self.now in
    let P : ℕ → Type 0 = λ n. (n ≡ 0) ⊎ (length s.lines.now < n) in
    any_tells P _ s.numbers.now (cases_from_any _ _ _ P (λ n. ¬ P n) c.any.ensures.ran (YieldsList-from_slice s.numbers.now cc) (λ x q k. search (rules, tests)) (λ x q k. search (rules, tests)))
