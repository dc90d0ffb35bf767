use Rattle.std.proofs.Common.{◌≡◌, ℕ, true, refl, arith, rules, tests}
use Rattle.std.specs.List.{zip, range_with_len}
use Rattle.std.proofs.lemmas.Iterator.{cases_from_any, YieldsList-from_slice, YieldsList-from_range, YieldsList-from_zip}
use Rattle.clause.specs.Bit.{In}
use Rattle.protocol.specs.State.{line_at}
use Rattle.lines.specs.View.{lines_of}
use Rattle.lines.proofs.Citing.{any_tells, rest_tells}
use Rattle.lines.proofs.named.Named.rests_everywhere.Goals as goal

pub returns : goal.returns
returns c =
    let s = c.args.self.now in
    let ls = lines_of s.lines.now in
    let ns = s.numbers.now in
    let P : ℕ × ℕ → Type 0 = λ p. In p.0 c.args.marks × ((line_at ls p.1).resting ≡ true) in
    rest_tells ls c.args.marks ns c.any.result (omega arith)
    (any_tells P _ (zip (range_with_len 0 8) ns)
    (cases_from_any {s = c.zip.result} c.any.new.self _ _ P (λ p. ¬ P p) c.any.ensures.ran (YieldsList-from_zip (YieldsList-from_range 0 8 8 (cc) refl) (YieldsList-from_slice ns cc)) (λ x q k. search (rules, tests)) (λ x q k. search (rules, tests))))
