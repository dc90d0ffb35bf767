-- A book of one rule: what holds at first, holds at first with more literals.
use Rattle.std.specs.Prelude.{◌≡◌, ℕ, ◌<◌, cond, not, List, [], ◌∷◌, Some, None, Option, ◌==◌, refl}
use Rattle.std.proofs.Common.{subst, inl, inr, arith}
use Rattle.std.proofs.lemmas.Bool.{cond_both, ne_eqb}
use Rattle.clause.specs.declared.syntax.LitSet.{LitSet}
use Rattle.clause.specs.declared.syntax.Clause.{Clause}
use Rattle.clause.specs.declared.syntax.Clause.TheVariants.{Initial, Global, Eventuality, Assumption, Never}
use Rattle.clause.specs.declared.refusal.Refusal.{Refusal}
use Rattle.clause.specs.declared.refusal.Refusal.TheVariants.{LetterRange, WrongCount, WrongKind}
use Rattle.clause.specs.Meaning.{◌∪◌}
use Rattle.clause.specs.Sets.{Over, reaches}
use Rattle.clause.proofs.Truths.{untrue_left}
use Rattle.rules.specs.Books.{Consult, here, initially, Outcome, refuses, gives}
use Rattle.rules.specs.BookLaws.{Right, right_sound, Early}
use Rattle.rules.specs.ResolvingSound.{low_union, low_none}
use Rattle.rules.specs.TryingSound.{wide_not}

abbrev pub one : LitSet → Clause → Outcome
one e (Initial s) = gives (initially (s ∪ e)) (here ∷ [])
one e (Global _ _) = refuses WrongKind
one e (Eventuality _ _) = refuses WrongKind
one e (Assumption _) = refuses WrongKind
one e (Never _ _) = refuses WrongKind

-- early lets no evidence with a letter above 59 through
abbrev pub weaker_of : LitSet → Clause → Outcome
weaker_of e c = cond (reaches 60 e) (refuses WrongKind) (one e c)

-- and just one line
abbrev pub late_of : LitSet → List Clause → Outcome
late_of e [] = refuses WrongKind
late_of e (c ∷ []) = weaker_of e c
late_of e (c ∷ d ∷ cs) = refuses WrongKind

abbrev pub early_of : LitSet → ℕ → Option Refusal
early_of e n = cond (reaches 60 e) (Some LetterRange) (cond (not (n == 1)) (Some WrongCount) None)

right_one : (e : LitSet) (c : Clause) → ¬ Over 59 e → Right (c ∷ []) (one e c)
right_one e (Initial s) w = (
  refl,
  (λ a. (low_union 59 s e a.0.0 w, low_none 59, λ h. omega arith)),
  λ r i u b. u.0 (b.0, untrue_left r i s e b.1),
)
right_one e (Global _ _) w = (omega arith, omega arith)
right_one e (Eventuality _ _) w = (omega arith, omega arith)
right_one e (Assumption _) w = (omega arith, omega arith)
right_one e (Never _ _) w = (omega arith, omega arith)

pub right : (e : LitSet) (cs : List Clause) → Right cs (late_of e cs)
right e [] = (omega arith, omega arith)
right e (c ∷ []) = cond_both (reaches 60 e) _ _ (Right (c ∷ [])) (λ _. (omega arith, omega arith)) (λ n. right_one e c (wide_not e n))
right e (c ∷ d ∷ cs) = (omega arith, omega arith)

pub early_right : (e : LitSet) (n : ℕ) → Early (early_of e n)
early_right e n = cond_both (reaches 60 e) _ _ Early (λ _. inl refl) (λ _. cond_both (not (n == 1)) _ _ Early (λ _. inr refl) (λ _. tt))

pub early_many : (e : LitSet) (n : ℕ) → 1 < n → (f : Refusal) × (early_of e n ≡ Some f)
early_many e n h = cond_both (reaches 60 e) _ _ (λ o. (f : Refusal) × (o ≡ Some f)) (λ _. (LetterRange, refl)) (λ _. (WrongCount, rw (ne_eqb n 1 (λ z. omega arith))))

-- the book, with its evidence given
abbrev pub weakening : LitSet → Consult
weakening e = record {
  most = 1;
  few = omega arith;
  early = early_of e;
  early_number = λ n f q. subst Early q (early_right e n);
  too_many = early_many e;
  late = late_of e;
  late_number = λ cs f q. subst (Right cs) q (right e cs);
  all_marked = λ cs k ms q. (subst (Right cs) q (right e cs)).0;
  sound = λ cs. right_sound cs (late_of e cs) (right e cs);
  narrow = λ cs k ms a q. (subst (Right cs) q (right e cs)).1 a;
}
