-- From the tests of a draft to the causes of its call.
use Rattle.std.proofs.Common.{◌≡◌, ℕ, List, ◌++◌, None, Err, Result, sym, refl, ap, subst, length}
use Rattle.clause.specs.declared.refusal.Fault.{Fault}
use Rattle.clause.specs.declared.syntax.Clause.{Clause}
use Rattle.protocol.specs.State as model
use Rattle.protocol.specs.Calls.{Call}
use Rattle.protocol.specs.Causes.{Cause, First, NoneOf, named, checks}
use Rattle.protocol.proofs.Causing.{none_both, first_after, first_left}
use Rattle.lines.specs.declared.line.Line.{Line}
use Rattle.lines.specs.View.{line_of, lines_of}
use Rattle.lines.specs.Named.{LoopFrom, at_stage}
use Rattle.drafts.specs.Drafts.{Drafted}

-- a draft that was refused
pub refused_draft : (s : model.State) (c : Call) (r : Result Line Fault) (f : Fault) → r ≡ Err f → First (checks s c) f → Drafted s c r
refused_draft s c r f e q = subst (Drafted s c) (sym e) q

-- the clause of a line that was read, in a list of causes about it
pub none_read : (F : Clause → List Cause) (ls : List model.Line) (n : ℕ) (x : Line) → line_of x ≡ model.line_at ls n → NoneOf (F x.clause) → NoneOf (F (model.clause_at ls n))
none_read F ls n x e q = subst (λ (l : model.Line). NoneOf (F l.clause)) e q

pub first_read : (F : Clause → List Cause) (ls : List model.Line) (n : ℕ) (x : Line) (f : Fault) → line_of x ≡ model.line_at ls n → First (F x.clause) f → First (F (model.clause_at ls n)) f
first_read F ls n x f e q = subst (λ (l : model.Line). First (F l.clause) f) e q

-- a function of the clauses read
pub clause_read : (ls : List model.Line) (n : ℕ) (x : Line) → line_of x ≡ model.line_at ls n → x.clause ≡ model.clause_at ls n
clause_read ls n x e = ap (λ (l : model.Line). l.clause) e

-- the exit of a test that was refused
pub exit_draft : (s : model.State) (c : Call) (r : Result Line Fault) (f : Fault) → (g : Fault) × (r ≡ Err g) × (g ≡ f) → First (checks s c) f → Drafted s c r
exit_draft s c r f p q = subst (Drafted s c) (sym p.1) (subst (λ (x : Fault). First (checks s c) x) (sym p.2) q)

-- a draft with named lines, and causes Qs about what they are
module _ (t : List Line) (g : ℕ) (c : Call) (ns : List ℕ) (Qs : List Cause) (is : checks (at_stage model.sealed g (lines_of t)) c ≡ named (at_stage model.sealed g (lines_of t)) ns ++ Qs) where
  abbrev state : model.State
  state = at_stage model.sealed g (lines_of t)

  pub unnamed : (f : Fault) → ((st : model.Stage) (g : ℕ) → LoopFrom None (length t) st → First (named (at_stage st g (lines_of t)) ns) f) → First (checks state c) f
  unnamed f q = subst (λ (Ps : List Cause). First Ps f) (sym is) (first_left (named state ns) Qs f (q model.sealed g (λ n h. refl)))

  pub unsuited : (f : Fault) → ((st : model.Stage) (g : ℕ) → LoopFrom None (length t) st → NoneOf (named (at_stage st g (lines_of t)) ns)) → First Qs f → First (checks state c) f
  unsuited f n q = subst (λ (Ps : List Cause). First Ps f) (sym is) (first_after (named state ns) Qs f (n model.sealed g (λ n h. refl)) q)

  pub suited : ((st : model.Stage) (g : ℕ) → LoopFrom None (length t) st → NoneOf (named (at_stage st g (lines_of t)) ns)) → NoneOf Qs → NoneOf (checks state c)
  suited n q = subst NoneOf (sym is) (none_both (named state ns) Qs (n model.sealed g (λ n h. refl)) q)
