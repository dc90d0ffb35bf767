-- No letter above a bound.
use Rattle.std.proofs.Common.{◌≡◌, ℕ, ◌^◌, ◌<◌, ◌≤◌, Bool, true, false, inl, inr, ⊎_elim, arith}
use Rattle.std.proofs.lemmas.Bool.{cases_eq}
use Rattle.clause.specs.declared.syntax.Literal.{Literal}
use Rattle.clause.specs.declared.syntax.LitSet.{LitSet}
use Rattle.clause.specs.declared.syntax.Clause.{Clause}
use Rattle.clause.specs.Bit.{In}
use Rattle.clause.specs.Meaning.{none, just, waiting, ◌∪◌}
use Rattle.clause.specs.Sets.{Over, Narrow, waits_set, waits_not_set, now_of, literal_of}
use Rattle.clause.specs.declared.syntax.Clause.TheVariants.{Initial, Global, Eventuality, Assumption, Never}
use Rattle.protocol.specs.Causes.{OverGiven}
use Rattle.protocol.specs.Answers.{waited_clause, waits_line, drawn_clause, drawn_alone}
use Rattle.clause.proofs.Masks.{in_either, not_in_zero, bit_pow_other}

pub under_none : (n : ℕ) → ¬ Over n none
under_none n (k, h, b) = ⊎_elim (not_in_zero k) (not_in_zero k) b

pub under_union : (n : ℕ) (a b : LitSet) → ¬ Over n a → ¬ Over n b → ¬ Over n (a ∪ b)
under_union n a b p q (k, h, inl i) = ⊎_elim (λ j. p (k, h, inl j)) (λ j. q (k, h, inl j)) (in_either a.plus b.plus k i)
under_union n a b p q (k, h, inr i) = ⊎_elim (λ j. p (k, h, inr j)) (λ j. q (k, h, inr j)) (in_either a.minus b.minus k i)

one_letter : (m k : ℕ) → In k (2 ^ m) → k ≡ m
one_letter m k h = ⊎_elim (λ e. e) (λ n. absurd (omega (arith, bit_pow_other m k n))) (cases_eq k m)

under_plus : (n m : ℕ) → m ≤ n → ¬ Over n (record { plus = 2 ^ m; minus = 0 })
under_plus n m h (k, l, inl b) = omega (arith, one_letter m k b)
under_plus n m h (k, l, inr b) = not_in_zero k b

under_minus : (n m : ℕ) → m ≤ n → ¬ Over n (record { plus = 0; minus = 2 ^ m })
under_minus n m h (k, l, inl b) = not_in_zero k b
under_minus n m h (k, l, inr b) = omega (arith, one_letter m k b)

just_by : (n k : ℕ) (b : Bool) → k ≤ n → ¬ Over n (just (record { letter = k; positive = b }))
just_by n k true h = under_plus n k h
just_by n k false h = under_minus n k h

pub under_just : (n : ℕ) (l : Literal) → l.letter ≤ n → ¬ Over n (just l)
under_just n l h = just_by n l.letter l.positive h

waiting_by : (k : ℕ) (b : Bool) → k ≤ 19 → waiting (record { letter = k; positive = b }) ≤ 59
waiting_by k true h = omega arith
waiting_by k false h = omega arith

pub under_waits : (l : Literal) → l.letter ≤ 19 → ¬ Over 59 (waits_set l)
under_waits l h = under_plus 59 (waiting l) (waiting_by l.letter l.positive h)

pub under_waits_not : (l : Literal) → l.letter ≤ 19 → ¬ Over 59 (waits_not_set l)
under_waits_not l h = under_minus 59 (waiting l) (waiting_by l.letter l.positive h)

pub under_more : (m n : ℕ) (s : LitSet) → m ≤ n → ¬ Over m s → ¬ Over n s
under_more m n s h o (k, l, b) = o (k, omega arith, b)

pub small_of : (c : Clause) → Narrow c → (literal_of c).letter ≤ 19
small_of c w = let n = w.2 in omega arith

-- the clauses that calls add
low_zero : ¬ (19 < 0)
low_zero h = omega arith

module _ (c : Clause) (w : Narrow c) where
  pub narrow_waited : Narrow (waited_clause c)
  narrow_waited = (
    under_union 59 (now_of c) _ w.0 (under_union 59 (just (literal_of c)) _ (under_just 59 (literal_of c) (omega (arith, small_of c w))) (under_waits (literal_of c) (small_of c w))),
    under_none 59,
    low_zero,
  )

  pub narrow_alone : Narrow (drawn_alone c)
  narrow_alone = (
    under_waits_not (literal_of c) (small_of c w),
    under_union 59 (just (literal_of c)) (now_of c) (under_just 59 (literal_of c) (omega (arith, small_of c w))) w.0,
    low_zero,
  )

  pub narrow_drawn : (d : Clause) → Narrow d → Narrow (drawn_clause c d)
  narrow_drawn d v = (
    under_union 59 (now_of d) _ v.0 (under_union 59 (just (literal_of d)) (now_of c) (under_just 59 (literal_of d) (omega (arith, small_of d v))) w.0),
    under_none 59,
    low_zero,
  )

module _ (l : Literal) (h : l.letter ≤ 19) where
  pub narrow_waits : Narrow (waits_line l)
  narrow_waits = (under_waits_not l h, under_union 59 (just l) (waits_set l) (under_just 59 l (omega arith)) (under_waits l h), low_zero)

  pub narrow_assumed : (g : LitSet) → ¬ Over 59 g → Narrow (Assumption (g ∪ just l))
  narrow_assumed g o = (under_none 59, under_union 59 g (just l) o (under_just 59 l (omega arith)), low_zero)

  pub narrow_never : (g : LitSet) → ¬ Over 59 g → Narrow (Never g l)
  narrow_never g o = (o, under_none 59, λ q. omega arith)

pub narrow_given : (c : Clause) → ¬ OverGiven c → Narrow c
narrow_given (Initial n) o = (under_more 19 59 n (omega arith) o, under_none 59, low_zero)
narrow_given (Global n x) o = (under_more 19 59 n (omega arith) (λ z. o (inl z)), under_more 19 59 x (omega arith) (λ z. o (inr z)), low_zero)
narrow_given (Eventuality n l) o = (under_more 19 59 n (omega arith) (λ z. o (inl z)), under_none 59, λ z. o (inr z))
narrow_given (Assumption _) o = absurd (o tt)
narrow_given (Never _ _) o = absurd (o tt)
