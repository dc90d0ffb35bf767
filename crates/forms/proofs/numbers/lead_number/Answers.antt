use Rattle.std.proofs.Common.{◌≡◌, ◌<◌, length, get_or, inl, inr, sym, ap, ◌∙◌, rules}
use Rattle.std.proofs.lemmas.Bool.{ltb-true}
use Rattle.forms.proofs.Leading.{number_zero, number_first, number_bad, number_end, leads_by, rest, rest_within}
use Rattle.forms.specs.Cuts.{split}
use Rattle.forms.specs.Forms.{lead, digits_of, number_of}
use Rattle.forms.proofs.numbers.lead_number.Goals.{in_default-via-then-text-lt1, in_default-via-else-text-lt1+in_default+then-text-lt48, in_default-via-else-text-lt1+in_default+else-text-lt48+else-text-lt58}
use Rattle.forms.proofs.numbers.lead_number.Goals as goal

pub returns-in-48 : goal.returns-in-48
returns-in-48 c =
    let xs = c.args.text.now in let some : 0 < length xs = search rules in
    leads_by (λ s. s.now) _ _ _ _ c.alone.result (number_zero xs some (search rules)) (rest_within xs some) c.alone.ensures

pub returns-in-49-to-57 : goal.returns-in-49-to-57
returns-in-49-to-57 c =
    let xs = c.args.text.now in let some : 0 < length xs = search rules in
    let first : lead number_of (split 32 xs) ≡ lead (digits_of c.from.result) (split 32 (rest xs)) =
    number_first xs some (search rules) (search rules) ∙ ap (λ d. lead (digits_of d) (split 32 (rest xs))) (sym c.from.ensures) in
    leads_by (λ s. s.now) _ _ _ _ c.digits.result first (rest_within xs some) c.digits.ensures

pub returns-in_default : goal.returns-in_default
returns-in_default c =
    let xs = c.args.text.now in
    elim c.in_default.branch [
      | in_default-via-then-text-lt1 w ↦ search (rules, number_end, ltb-true)
      | in_default-via-else-text-lt1+in_default+then-text-lt48 w ↦ let h : get_or xs 0 0 < 48 = search (rules, ltb-true) in number_bad xs (search rules) (inl h)
      | in_default-via-else-text-lt1+in_default+else-text-lt48+else-text-lt58 w ↦ let h : 57 < get_or xs 0 0 = search rules in number_bad xs (search rules) (inr h)
    ]
