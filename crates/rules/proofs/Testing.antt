-- The tests of a trial.
use Rattle.std.proofs.Common.{◌≡◌, ℕ, zero, suc, ◌<◌, ◌≤◌, ◌&&◌, ◌||◌, not, Bool, true, false, eqb, List, [], ◌∷◌, length, get_or, refl, sym, ap, ◌∙◌, ⊎_elim, arith}
use lib.Bits.{bit_and}
use Rattle.std.proofs.lemmas.Bool.{and_from, and_left, and_right, and_parts, eqb-true, eq-eqb, ne_eqb, true≢false, cases_eq, cases_Bool}
use Rattle.clause.specs.declared.syntax.LitSet.{LitSet}
use Rattle.clause.specs.Tests.{Tells}
use Rattle.clause.specs.Sets.{UntrueIn}
use Rattle.clause.proofs.Masks.{within_from, within_to, disjoint_from, disjoint_to}
use Rattle.clause.specs.declared.syntax.Clause.{Clause}
use Rattle.std.specs.List.{list_any}
use Rattle.rules.specs.declared.trial.Claim.{Claim}
use Rattle.rules.specs.Trying.{claimed}
use Rattle.rules.specs.Deciding.{untrue_at, broken_at, one_broken_at, place_broken, counter_at}
use Rattle.rules.specs.TryingSound.{below_power}

-- a test that tells P is any test that holds where P does
pub told_as : (r b : Bool) (P : Type 0) → Tells r P → (P → b ≡ true) → (b ≡ true → P) → r ≡ b
told_as true b P t f g = sym (f t)
told_as false b P t f g = ⊎_elim (λ e. absurd (t (g e))) (λ e. sym e) (cases_Bool b)

pub told_not : (r : Bool) (P : Type 0) → Tells r P → r ≡ false → P → ⊥
told_not true P t e = absurd (true≢false e)
told_not false P t e = t

told_untrue : (r : Bool) (x : ℕ) (s : LitSet) → Tells r (UntrueIn x s) → r ≡ untrue_at x s
told_untrue r x s t = told_as r (untrue_at x s) (UntrueIn x s) t
    (λ u. and_from _ _
    (eq-eqb _ 0 (disjoint_to s.plus s.plus x (below_power s.plus) (λ k. (u k).0)))
    (eq-eqb _ _ (within_to s.minus s.minus x (below_power s.minus) (λ k. (u k).1))))
    (λ e k. let q = and_parts (eqb (bit_and s.plus x) 0) (eqb (bit_and s.minus x) s.minus) e in
    (disjoint_from s.plus x (eqb-true _ 0 q.0) k, within_from s.minus x (eqb-true _ _ q.1) k))

pub untrue_as : (r : Bool) (x : ℕ) (s n : LitSet) → Tells r (UntrueIn x s) → s ≡ n → r ≡ untrue_at x n
untrue_as r x s n t e = told_untrue r x s t ∙ ap (untrue_at x) e

-- the line at a place
pub place_at : (x y : ℕ) (cs : List Clause) (i : ℕ) (d : Clause) → i < length cs → place_broken x y cs i ≡ broken_at x y (get_or cs i d)
place_at x y [] i d h = absurd (omega arith)
place_at x y (c ∷ cs) zero d h = refl
place_at x y (c ∷ cs) (suc i) d h = place_at x y cs i d (omega arith)

pub place_none : (x y : ℕ) (cs : List Clause) (i : ℕ) → length cs ≤ i → false ≡ place_broken x y cs i
place_none x y [] i h = refl
place_none x y (c ∷ cs) zero h = absurd (omega arith)
place_none x y (c ∷ cs) (suc i) h = place_none x y cs i (omega arith)

pub four : (x y : ℕ) (cs : List Clause) → length cs ≤ 4 → (place_broken x y cs 0 || (place_broken x y cs 1 || (place_broken x y cs 2 || (place_broken x y cs 3 || false)))) ≡ one_broken_at x y cs
four x y [] h = refl
four x y (a ∷ []) h = refl
four x y (a ∷ b ∷ []) h = refl
four x y (a ∷ b ∷ c ∷ []) h = refl
four x y (a ∷ b ∷ c ∷ d ∷ []) h = refl
four x y (a ∷ b ∷ c ∷ d ∷ e ∷ cs) h = absurd (omega arith)

-- each choice has a true literal of a letter with both signs
pub never_untrue : (x : ℕ) → untrue_at x (record { plus = 1; minus = 1 }) ≡ false
never_untrue x = ⊎_elim (λ e. rw (e) refl) (λ n. rw (ne_eqb (bit_and 1 x) 0 n) refl) (cases_eq (bit_and 1 x) 0)

-- no counterexample where the claim's next set has a true literal, or where no choice now is one
pub none_next : (e : Claim) (cs : List Clause) (x y : ℕ) → untrue_at y e.next ≡ false → counter_at x y (claimed e) cs ≡ false
none_next e cs x y h = and_left (broken_at x y (claimed e)) _ (and_right (untrue_at x e.now) (untrue_at y e.next) h)

pub none_now : (e : Claim) (cs : List Clause) (ls : List LitSet) (x y : ℕ) → list_any (untrue_at x) ls ≡ one_broken_at x y cs
    → (untrue_at x e.now && not (list_any (untrue_at x) ls) ≡ true → ⊥) → counter_at x y (claimed e) cs ≡ false
none_now e cs ls x y q n = both (untrue_at x e.now) (untrue_at y e.next) (not (one_broken_at x y cs))
    (ap (λ b. untrue_at x e.now && not b) (sym q) ∙ ⊎_elim (λ t. absurd (n t)) (λ f. f) (cases_Bool _))
  where
    both : (a b c : Bool) → a && c ≡ false → (a && b) && c ≡ false
    both false b c h = refl
    both true false c h = refl
    both true true c h = h
