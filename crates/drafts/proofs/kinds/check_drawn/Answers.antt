use Rattle.std.proofs.Common.{◌≡◌, Bool, true, false, cond, ◌⊎◌, Ok, Err, Result, sym, refl, subst, inl, inr, ⊎_elim, rules, tests}
use Rattle.std.proofs.lemmas.Bool.{true≢false}
use Rattle.clause.specs.declared.refusal.Fault.{Fault}
use Rattle.clause.specs.declared.syntax.Clause.{Clause}
use Rattle.clause.specs.declared.refusal.Refusal.TheVariants.{WrongKind, LiteralsDiffer}
use Rattle.clause.specs.Refusals.{plain}
use Rattle.clause.specs.Sets.{literal_of}
use Rattle.protocol.specs.Causes.{NoneOf, never, eventual, drawn, NotNever, NotEventuality}
use Rattle.protocol.proofs.Causing.{not_if}
use Rattle.lines.specs.Named.{Checked}
use Rattle.drafts.proofs.kinds.check_drawn.Goals as goal

module _ (a b : Clause) (n : NoneOf (never a)) (e : NoneOf (eventual b)) where
  suits : ¬ (NotNever a ⊎ NotEventuality b)
  suits = ⊎_elim (λ q. n.0 (plain WrongKind) (q, refl)) (λ q. e.0 (plain WrongKind) (q, refl))

  same_literal : (s : Bool) → (s ≡ true → literal_of a ≡ literal_of b) → (literal_of a ≡ literal_of b → s ≡ true) → Checked {A = Unit {0}} (drawn a b) (cond s (Ok tt) (Err (plain LiteralsDiffer)))
  same_literal true f g = (not_if _ WrongKind suits, (not_if _ LiteralsDiffer (λ n. n (f refl)), tt))
  same_literal false f g = inr (not_if _ WrongKind suits, inl ((λ q. true≢false (sym (g q))), refl))

pub returns : goal.returns
returns c =
    let a = c.args.first in let b = c.args.second in
    subst (λ (r : Result (Unit {0}) Fault). Checked (drawn a b) r) (sym c.wanted.ensures)
    (same_literal a b c.in_ok-check_never.ensures c.in_ok-check_eventuality.ensures c.eq.result (λ s. search (rules, tests)) (λ s. search (rules, tests)))
