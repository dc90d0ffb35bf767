use Rattle.std.proofs.Common.{◌≡◌, Some, None, ap, sym, ◌∙◌, rules}
use Rattle.clause.specs.Meaning.{none}
use Rattle.forms.specs.Forms.{rank, with_literal, literal_of}
use Rattle.forms.specs.Cuts.{split}
use Rattle.forms.proofs.Rising.{risen, joined, rising_through}
use Rattle.forms.proofs.literals.literals.Goals as goal

pub returns-in_err-found : goal.returns-in_err-found
returns-in_err-found c =
    let e = c.fold_parts-found.ensures (risen rank with_literal) (λ s x r p. search rules) in
    let n : c.fold_parts-found.result ≡ None = search rules in
    let r : c.from_residual.result ≡ None = search rules in
    r ∙ sym (rising_through rank with_literal literal_of none (split 32 c.args.field.now) ∙ ap joined (sym e ∙ n))

pub returns : goal.returns
returns c =
    let e = c.fold_parts-found.ensures (risen rank with_literal) (λ s x r p. search rules) in
    let n : c.fold_parts-found.result ≡ Some c.in_ok-found.field-0 = search rules in
    sym (rising_through rank with_literal literal_of none (split 32 c.args.field.now) ∙ ap joined (sym e ∙ n))
