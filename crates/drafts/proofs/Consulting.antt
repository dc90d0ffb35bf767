-- What a book's answer is among the causes of infer.
use Rattle.std.proofs.Common.{◌≡◌, ℕ, ◌≤◌, List, None, subst, inl, inr, ⊎_elim, arith}
use Rattle.std.proofs.lemmas.Bool.{cases_lt}
use Rattle.clause.specs.declared.refusal.Fault.{Fault}
use Rattle.clause.specs.declared.refusal.Refusal.{Refusal}
use Rattle.clause.specs.declared.refusal.Refusal.TheVariants.{RestingEverywhere}
use Rattle.clause.specs.Refusals.{plain}
use Rattle.rules.specs.Books.{Consult, Mark, Conclusion, gives, refuses}
use Rattle.protocol.specs.State as model
use Rattle.protocol.specs.Causes.{First, NoneOf, RestEverywhere, counted, consulted}
use Rattle.protocol.proofs.Causing.{not_if}

pub at_most_8 : (b : Consult) (n : ℕ) → b.early n ≡ None → n ≤ 8
at_most_8 b n e = ⊎_elim
    (λ h. let q = (b.too_many n h).1 in let z : ◌≡◌ {A = ℕ} 0 1 = cc in omega arith)
    (λ h. omega (arith, b.few))
    (cases_lt b.most n)

pub not_counted : (b : Consult) (n : ℕ) → b.early n ≡ None → NoneOf (counted b n)
not_counted b n e = ((λ f q. let e' = q.1 in let z : ◌≡◌ {A = ℕ} 0 1 = cc in omega arith), tt)

module _ (b : Consult) (ls : List model.Line) (ns : List ℕ) where
  pub late_refused : (r : Refusal) (f : Fault) → b.late (model.clauses_at ls ns) ≡ refuses r → f ≡ plain r → First (consulted ls b ns) f
  late_refused r f e q = inl (r, e, q)

  module _ (k : Conclusion) (ms : List Mark) (e : b.late (model.clauses_at ls ns) ≡ gives k ms) where
    not_late : (f : Fault) → ¬ ((r : Refusal) × (b.late (model.clauses_at ls ns) ≡ refuses r) × (f ≡ plain r))
    not_late f q = let e' = q.1 in let z : ◌≡◌ {A = ℕ} 0 1 = cc in omega arith

    pub rest_refused : (f : Fault) → RestEverywhere ls ns ms → f ≡ plain RestingEverywhere → First (consulted ls b ns) f
    rest_refused f r q = inr (not_late, inl ((k, ms, e, r), q))

    pub none_consulted : ¬ RestEverywhere ls ns ms → NoneOf (consulted ls b ns)
    none_consulted n = (not_late, (not_if _ RestingEverywhere (λ q. let e' = q.2 in let z : q.1 ≡ ms = cc in n (subst (RestEverywhere ls ns) z q.3)), tt))
