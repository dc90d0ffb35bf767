-- A run told by a timetable.
use Rattle.std.proofs.Common.{◌≡◌, ℕ, zero, suc, ◌<◌, ◌≤◌, Bool, true, ◌&&◌, replicate, None, refl, subst, inl, mod-eq_of_lt, arith}
use Rattle.std.proofs.lemmas.Bool.{and_from}
use Rattle.clause.specs.Meaning.{Broken, Unbroken, Keeps, none, just, ◌∪◌}
use Rattle.clause.specs.declared.syntax.Clause.{Clause}
use Rattle.clause.specs.declared.syntax.Clause.TheVariants.{Global}
use Rattle.clause.proofs.Truths.{untrue_none, untrue_left, untrue_right}
use Rattle.runs.specs.Loops.{Common}
use Rattle.runs.proofs.Judging.{first_of}
use Rattle.protocol.specs.State.{clause_at}
use Rattle.examples.specs.Showing.{three_tasks, apart, of_given, HasLengths, TooLongByOne}
use Rattle.examples.proofs.Truth.{minus, untrue_minus, minus_untrue, untrue_both, none_told}

no_tasks : (n : ℕ) → Common (replicate n None) 10
no_tasks zero = tt
no_tasks (suc n) = (tt, no_tasks n)

pub has_lengths : HasLengths
has_lengths = record {
  tasks = refl;
  lead = refl;
  turn = (omega arith, omega arith, (refl, (refl, (refl, no_tasks 17))), λ n h l d. omega (arith, mod-eq_of_lt l, d.0));
}

-- not both letters at one moment
abbrev not_both : ℕ → ℕ → Clause
not_both a b = Global (just (minus a) ∪ just (minus b)) none

abbrev both : ℕ → ℕ → ℕ → Bool
both a b i = three_tasks.run i a && three_tasks.run i b

clear : (a b i : ℕ) → a ≤ 19 → b ≤ 19 → ¬ (both a b i ≡ true) → Unbroken three_tasks.run i (not_both a b)
clear a b i p q n u = n (and_from _ _
    (minus_untrue three_tasks.run i a p (untrue_left three_tasks.run i (just (minus a)) (just (minus b)) u.0))
    (minus_untrue three_tasks.run i b q (untrue_right three_tasks.run i (just (minus a)) (just (minus b)) u.0)))

first_kept : Keeps three_tasks.run (not_both 0 1)
first_kept = first_of three_tasks (not_both 0 1) None tt (λ i _ h. clear 0 1 i (omega arith) (omega arith) (none_told 18 (both 0 1) refl i h))

second_before : (j : ℕ) → j < 10 → Unbroken three_tasks.run j (not_both 0 2)
second_before j h = clear 0 2 j (omega arith) (omega arith) (none_told 10 (both 0 2) refl j h)

second_broken : Broken three_tasks.run 10 (not_both 0 2)
second_broken = (
  untrue_both three_tasks.run 10 (just (minus 0)) (just (minus 2)) (untrue_minus three_tasks.run 10 0 (omega arith) refl) (untrue_minus three_tasks.run 10 2 (omega arith) refl),
  untrue_none three_tasks.run 11,
)

below_two : (m : ℕ) → 1 ≤ m → m < 2 → Keeps three_tasks.run (clause_at (of_given apart).lines m)
below_two m h l = let e : 1 ≡ m = omega arith in subst (λ n. Keeps three_tasks.run (clause_at (of_given apart).lines n)) e first_kept

pub too_long_by_one : TooLongByOne
too_long_by_one = (inl (2, 10, (omega arith, omega arith, second_broken, second_before, below_two), refl), refl)
