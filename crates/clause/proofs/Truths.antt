-- What is true of sets, letters and literals at a moment of a run.
use Rattle.std.proofs.Common.{◌≡◌, ℕ, ◌+◌, ◌-◌, ◌<◌, ◌≤◌, Bool, true, false, refl, ap, ◌∙◌, ⊎_elim, arith}
use Rattle.std.proofs.lemmas.Bool.{lt-ltb, le-ltb, cases_order, both_ways}
use Rattle.clause.specs.declared.syntax.Literal.{Literal}
use Rattle.clause.specs.declared.syntax.LitSet.{LitSet}
use Rattle.clause.specs.Meaning.{Run, PlainTrue, Waits, waited, LetterTrue, Untrue, Within, none, just, waiting, ◌∪◌}
use Rattle.clause.specs.Sets.{waits_set, waits_not_set}
use Rattle.clause.proofs.Masks.{in_pow, not_in_zero, in_left, in_right}

-- sets
pub untrue_left : (r : Run) (i : ℕ) (a b : LitSet) → Untrue r i (a ∪ b) → Untrue r i a
untrue_left r i a b u k = (λ h. (u k).0 (in_left _ b.plus k h), λ h. (u k).1 (in_left _ b.minus k h))

pub untrue_right : (r : Run) (i : ℕ) (a b : LitSet) → Untrue r i (a ∪ b) → Untrue r i b
untrue_right r i a b u k = (λ h. (u k).0 (in_right a.plus _ k h), λ h. (u k).1 (in_right a.minus _ k h))

pub untrue_none : (r : Run) (i : ℕ) → Untrue r i none
untrue_none r i k = (λ h. absurd (not_in_zero k h), λ h. absurd (not_in_zero k h))

pub untrue_within : (r : Run) (i : ℕ) (a b : LitSet) → Within a b → Untrue r i b → Untrue r i a
untrue_within r i a b w u k = (λ h. (u k).0 ((w k).0 h), λ h. (u k).1 ((w k).1 h))

-- letters
pub plain_letter : (r : Run) (i k : ℕ) → k ≤ 19 → LetterTrue r i k ≡ (r i k ≡ true)
plain_letter r i k h = rw (lt-ltb k 20 (omega arith), LetterTrue) refl

waited_plus : (k : ℕ) → k ≤ 19 → waited (20 + k) ≡ record { letter = k; positive = true }
waited_plus k h = rw (lt-ltb (20 + k) 40 (omega arith), waited) (λ j. record { letter = e j; positive = true })
  where
    e : (20 + k) - 20 ≡ k
    e = omega arith

waited_minus : (k : ℕ) → k ≤ 19 → waited (40 + k) ≡ record { letter = k; positive = false }
waited_minus k h = rw (le-ltb (40 + k) 40 (omega arith), waited) (λ j. record { letter = e j; positive = false })
  where
    e : (40 + k) - 40 ≡ k
    e = omega arith

pub high_letter : (r : Run) (i n : ℕ) → 20 ≤ n → LetterTrue r i n ≡ Waits r i (waited n)
high_letter r i n h = rw (le-ltb n 20 h, LetterTrue) refl

pub waiting_letter : (r : Run) (i k : ℕ) (b : Bool) → k ≤ 19 → LetterTrue r i (waiting (record { letter = k; positive = b })) ≡ Waits r i (record { letter = k; positive = b })
waiting_letter r i k true h = high_letter r i (20 + k) (omega arith) ∙ ap (Waits r i) (waited_plus k h)
waiting_letter r i k false h = high_letter r i (40 + k) (omega arith) ∙ ap (Waits r i) (waited_minus k h)

-- literals
not_just : (r : Run) (i k : ℕ) (b : Bool) → k ≤ 19 → Untrue r i (just (record { letter = k; positive = b })) → ¬ (r i k ≡ b)
not_just r i k true h u p = (u k).0 (in_pow k) (rw (plain_letter r i k h) p)
not_just r i k false h u p = (u k).1 (in_pow k) (λ t. both_ways (r i k) p (rw (plain_letter r i k h) at t))

pub untrue_just : (r : Run) (i : ℕ) (l : Literal) → l.letter ≤ 19 → Untrue r i (just l) → ¬ PlainTrue r i l
untrue_just r i l h u = not_just r i l.letter l.positive h u

pub untrue_waits : (r : Run) (i : ℕ) (l : Literal) → l.letter ≤ 19 → Untrue r i (waits_set l) → ¬ Waits r i l
untrue_waits r i l h u w = (u (waiting l)).0 (in_pow (waiting l)) (rw (waiting_letter r i l.letter l.positive h) w)

pub untrue_waits_not : (r : Run) (i : ℕ) (l : Literal) → l.letter ≤ 19 → Untrue r i (waits_not_set l) → ¬ (¬ Waits r i l)
untrue_waits_not r i l h u n = (u (waiting l)).1 (in_pow (waiting l)) (λ t. n (rw (waiting_letter r i l.letter l.positive h) at t))

-- where l is true at some j from i on, and not at i, it is later
pub later : (r : Run) (i j : ℕ) (l : Literal) → ¬ PlainTrue r i l → i ≤ j → PlainTrue r j l → i < j
later r i j l n h p = ⊎_elim (λ e. absurd (n (rw e p))) (⊎_elim (λ h'. h') (λ h'. absurd (omega arith))) (cases_order i j)
