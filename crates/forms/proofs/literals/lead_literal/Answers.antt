use Rattle.std.proofs.Common.{◌<◌, length, rules}
use Rattle.std.proofs.lemmas.Bool.{ltb-true}
use Rattle.forms.proofs.Leading.{literal_plus, literal_minus, literal_bad, literal_end, leads_by, rest_within}
use Rattle.forms.proofs.literals.lead_literal.Goals.{in_default-via-then-text-lt1, in_default-via-else-text-lt1+in_default-1}
use Rattle.forms.proofs.literals.lead_literal.Goals as goal

pub returns-in-43 : goal.returns-in-43
returns-in-43 c =
    let xs = c.args.text.now in let some : 0 < length xs = search rules in
    leads_by (λ s. s.now) _ _ _ _ c.signed.result (literal_plus xs some (search rules)) (rest_within xs some) c.signed.ensures

pub returns-in-45 : goal.returns-in-45
returns-in-45 c =
    let xs = c.args.text.now in let some : 0 < length xs = search rules in
    leads_by (λ s. s.now) _ _ _ _ c.signed-in-45.result (literal_minus xs some (search rules)) (rest_within xs some) c.signed-in-45.ensures

pub returns-in_default : goal.returns-in_default
returns-in_default c = elim c.in_default.branch [
  | in_default-via-then-text-lt1 w ↦ search (rules, literal_end, ltb-true)
  | in_default-via-else-text-lt1+in_default-1 w ↦ search (rules, literal_bad)
]
