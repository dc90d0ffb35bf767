-- Sets of negative plain letters at a moment, and what a run comes to on a list of given lines.
use Rattle.std.proofs.Common.{◌≡◌, ℕ, zero, suc, ◌^◌, ◌<◌, ◌≤◌, Bool, true, false, not, ◌&&◌, [], ◌∷◌, sym, refl, subst, inl, ⊎_elim, arith}
use Rattle.std.proofs.lemmas.Bool.{cases_Bool, cases_eq, both_ways, and_parts}
use Rattle.clause.specs.Bit.{In}
use Rattle.clause.specs.Meaning.{Run, LetterTrue, Untrue, Broken, Unbroken, Keeps, just, ◌∪◌}
use Rattle.clause.specs.declared.refusal.Refusal.TheVariants.{RunBreaks}
use Rattle.clause.specs.Refusals.{fault_at}
use Rattle.clause.specs.declared.syntax.Clause.{Clause}
use Rattle.clause.specs.declared.syntax.LitSet.{LitSet}
use Rattle.clause.specs.declared.syntax.Literal.{Literal}
use Rattle.clause.proofs.Masks.{bit_pow_other, not_in_zero, in_either}
use Rattle.clause.proofs.Truths.{plain_letter, untrue_just}
use Rattle.runs.specs.Source.{Source}
use Rattle.protocol.specs.Calls.{shown, refused}
use Rattle.protocol.specs.State.{clause_at}
use Rattle.examples.specs.Showing.{of_given, On}

abbrev pub minus : ℕ → Literal
minus a = record { letter = a; positive = false }

only : (a k : ℕ) → In k (2 ^ a) → k ≡ a
only a k h = ⊎_elim (λ e. e) (λ n. absurd (omega (arith, bit_pow_other a k n))) (cases_eq k a)

module _ (r : Run) (i : ℕ) where
  -- -a is untrue just where a is true
  pub untrue_minus : (a : ℕ) → a ≤ 19 → r i a ≡ true → Untrue r i (just (minus a))
  untrue_minus a low t k = (
    (λ h. absurd (not_in_zero k h)),
    λ h n. n (subst (LetterTrue r i) (sym (only a k h)) (subst (λ (P : Type 0). P) (sym (plain_letter r i a low)) t)),
  )

  pub minus_untrue : (a : ℕ) → a ≤ 19 → Untrue r i (just (minus a)) → r i a ≡ true
  minus_untrue a low u = ⊎_elim (λ t. t) (λ f. absurd (untrue_just r i (minus a) low u f)) (cases_Bool (r i a))

  pub untrue_both : (s t : LitSet) → Untrue r i s → Untrue r i t → Untrue r i (s ∪ t)
  untrue_both s t u v k = (
    (λ h. ⊎_elim (u k).0 (v k).0 (in_either s.plus t.plus k h)),
    λ h. ⊎_elim (u k).1 (v k).1 (in_either s.minus t.minus k h),
  )

-- what a test tells of each number below n
abbrev pub none_below : ℕ → (ℕ → Bool) → Bool
none_below zero f = true
none_below (suc n) f = not (f n) && none_below n f

not_so : (b : Bool) → not b ≡ true → b ≡ false
not_so true e = sym e
not_so false e = refl

pub none_told : (n : ℕ) (f : ℕ → Bool) → none_below n f ≡ true → (i : ℕ) → i < n → ¬ (f i ≡ true)
none_told zero f e i h t = omega arith
none_told (suc n) f e i h t =
    let p = and_parts (not (f n)) (none_below n f) e in
    ⊎_elim (λ q. both_ways (f n) (not_so (f n) p.0) (subst (λ m. f m ≡ true) q t)) (λ q. none_told n f p.1 i (omega arith) t) (cases_eq i n)

-- on one given line
abbrev line : Clause → ℕ → Clause
line c n = clause_at (of_given (c ∷ [])).lines n

pub keeps_one : (c : Clause) (x : Source) → Keeps x.run c → On (c ∷ []) x (shown x.lead x.loop_length)
keeps_one c x k = (((λ _ (n, i, b, _). let e : n ≡ 1 = omega (arith, b.0, b.1) in k i (subst (λ m. Broken x.run i (line c m)) e b.2)), tt), (refl, refl))

pub breaks_one : (c : Clause) (x : Source) (i : ℕ) → Broken x.run i c → ((j : ℕ) → j < i → Unbroken x.run j c) → On (c ∷ []) x (refused (fault_at RunBreaks 1 i))
breaks_one c x i b f = (inl (1, i, (omega arith, omega arith, b, f, λ m h l. absurd (omega arith)), refl), refl)
