-- Tests that tell a fact.
use Rattle.std.proofs.Common.{◌≡◌, ℕ, Bool, true, false, not, ◌&&◌, eqb, sym, refl}
use mathlib.Core.Bool.{beq}
use Rattle.std.proofs.lemmas.Bool.{eqb-true, eqb-false, true≢false, false≢true, both_ways}
use Rattle.clause.specs.Tests.{Tells}

pub tells : (t : Bool) (P : Type 0) → (t ≡ true → P) → (t ≡ false → ¬ P) → Tells t P
tells true P f g = f refl
tells false P f g = g refl

pub tells_since : (t : Bool) (P : Type 0) → t ≡ false → ¬ P → Tells t P
tells_since true P e n = absurd (true≢false e)
tells_since false P e n = n

pub tells_eqb : (a b : ℕ) → Tells (eqb a b) (a ≡ b)
tells_eqb a b = tells (eqb a b) (a ≡ b) (eqb-true a b) (eqb-false a b)

pub beq_true : (a b : Bool) → beq a b ≡ true → a ≡ b
beq_true true true e = refl
beq_true true false e = absurd (false≢true e)
beq_true false true e = absurd (false≢true e)
beq_true false false e = refl

pub beq_false : (a b : Bool) → beq a b ≡ false → a ≡ b → ⊥
beq_false true true e _ = true≢false e
beq_false true false e q = true≢false q
beq_false false true e q = false≢true q
beq_false false false e _ = true≢false e

pub beq_same : (a b : Bool) → a ≡ b → beq a b ≡ true
beq_same true true e = refl
beq_same true false e = absurd (true≢false e)
beq_same false true e = absurd (false≢true e)
beq_same false false e = refl

pub same_tests : (a b : Bool) → (a ≡ true → b ≡ true) → (b ≡ true → a ≡ true) → a ≡ b
same_tests true true f g = refl
same_tests true false f g = sym (f refl)
same_tests false true f g = g refl
same_tests false false f g = refl

-- where one of two tests fails, both do not hold
pub not_first : (p q t : Bool) → t ≡ true → t ≡ not p → t ≡ not (p && q)
not_first true q t e f = absurd (both_ways t f e)
not_first false q t e f = e

pub not_second : (p q s t : Bool) → s ≡ false → s ≡ not p → t ≡ not q → t ≡ not (p && q)
not_second true q s t e f g = g
not_second false q s t e f g = absurd (both_ways s e f)
