-- Runs told by a table of worlds.
use Rattle.std.proofs.Common.{◌≡◌, ℕ, zero, suc, ◌+◌, ◌<◌, ◌≤◌, true, false, None, refl, subst, arith}
use Rattle.std.proofs.lemmas.Bool.{both_ways}
use Rattle.clause.specs.Bit.{bit}
use Rattle.clause.specs.Meaning.{Run, Unbroken}
use Rattle.clause.proofs.Truths.{untrue_none}
use Rattle.runs.proofs.Judging.{first_of}
use Rattle.runs.proofs.Turns.{like, true_moves}
use Rattle.examples.specs.Showing.{loop_of_3, loop_of_4, loop_of_2, once, no_two, comes, MeetsStart, EndsFree, ComesAgain, GoneForGood}
use Rattle.examples.proofs.Truth.{untrue_minus, minus_untrue, keeps_one, breaks_one}

-- letter 0 untrue at i or at the next moment
apart_now : (r : Run) (i : ℕ) → r i 0 ≡ false → Unbroken r i no_two
apart_now r i e b = both_ways (r i 0) e (minus_untrue r i 0 (omega arith) b.0)

apart_next : (r : Run) (i : ℕ) → r (i + 1) 0 ≡ false → Unbroken r i no_two
apart_next r i e b = both_ways (r (i + 1) 0) e (minus_untrue r (i + 1) 0 (omega arith) b.1)

before_two : (j : ℕ) → j < 2 → Unbroken loop_of_3.run j no_two
unfolding bit
before_two zero h = apart_next loop_of_3.run 0 refl
before_two (suc zero) h = apart_now loop_of_3.run 1 refl
before_two (suc (suc j)) h = absurd (omega arith)

pub meets_start : MeetsStart
unfolding bit
meets_start = breaks_one no_two loop_of_3 2 (untrue_minus loop_of_3.run 2 0 (omega arith) refl, untrue_minus loop_of_3.run 3 0 (omega arith) refl) before_two

four_apart : (i : ℕ) → 0 ≤ i → i < 4 → Unbroken loop_of_4.run i no_two
unfolding bit
four_apart zero _ h = apart_next loop_of_4.run 0 refl
four_apart (suc zero) _ h = apart_now loop_of_4.run 1 refl
four_apart (suc (suc zero)) _ h = apart_next loop_of_4.run 2 refl
four_apart (suc (suc (suc zero))) _ h = apart_now loop_of_4.run 3 refl
four_apart (suc (suc (suc (suc i)))) _ h = absurd (omega arith)

pub ends_free : EndsFree
ends_free = keeps_one no_two loop_of_4 (first_of loop_of_4 no_two None tt four_apart)

two_comes : (i : ℕ) → 0 ≤ i → i < 2 → Unbroken loop_of_2.run i comes
unfolding bit
two_comes zero _ h = λ b. b.1 0 (omega arith) refl
two_comes (suc zero) _ h = λ b. b.1 2 (omega arith) refl
two_comes (suc (suc i)) _ h = absurd (omega arith)

pub comes_again : ComesAgain
comes_again = keeps_one comes loop_of_2 (first_of loop_of_2 comes None tt two_comes)

-- from moment 1 on every moment goes on like moment 1
gone : (j : ℕ) → 1 ≤ j → ¬ (once.run j 0 ≡ true)
unfolding bit
gone j h t =
    let w = like once j in
    let e : w.0 ≡ 1 = omega (arith, w.1.below, w.1.above 1 (omega arith) h) in
    let u = true_moves once.run j w.0 w.1.same (record { letter = 0; positive = true }) t in
    both_ways (once.run 1 0) refl (subst (λ i. once.run i 0 ≡ true) e u)

before_one : (j : ℕ) → j < 1 → Unbroken once.run j comes
unfolding bit
before_one zero h = λ b. b.1 0 (omega arith) refl
before_one (suc j) h = absurd (omega arith)

pub gone_for_good : GoneForGood
gone_for_good = breaks_one comes once 1 (untrue_none once.run 1, gone) before_one
