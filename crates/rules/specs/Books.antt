-- What a rule book means, with its evidence given.
use Rattle.std.specs.Prelude.{◌≡◌, ℕ, zero, suc, ◌/◌, ◌%◌, ◌^◌, ◌<◌, ◌≤◌, Bool, true, cond, ◌⊎◌, List, [], ◌∷◌, length, Some, Ok, Err, Option, Result, ◌==◌}
use Rattle.std.specs.List.{AllByRecursion}
use Rattle.clause.specs.declared.syntax.LitSet.{LitSet}
use Rattle.clause.specs.declared.syntax.Clause.{Clause}
use Rattle.clause.specs.declared.syntax.Clause.TheVariants.{Initial, Global}
use Rattle.clause.specs.declared.refusal.Refusal.{Refusal}
use Rattle.clause.specs.declared.refusal.Refusal.TheVariants.{LetterRange, WrongCount}
use Rattle.clause.specs.Refusals.{number_of}
use Rattle.clause.specs.Meaning.{Run, Unbroken, Keeps}
use Rattle.clause.specs.Sets.{Narrow}

-- how a cited line is used: at the moment of the conclusion, or at every moment
pub data Mark : Type 0 where
  here everywhere : Mark

-- what a book may conclude: an initial or a global line
pub data Conclusion : Type 0 where
  initially : LitSet → Conclusion
  globally : LitSet → LitSet → Conclusion

abbrev pub concluded : Conclusion → Clause
concluded (initially s) = Initial s
concluded (globally n x) = Global n x

pub data Outcome : Type 0 where
  refuses : Refusal → Outcome
  gives : Conclusion → List Mark → Outcome

-- what the cited clauses must be of the run, as marked
abbrev pub Used : Run → ℕ → List Clause → List Mark → Type 0
Used r i [] ms = Unit {0}
Used r i (c ∷ cs) [] = Unit {0}
Used r i (c ∷ cs) (here ∷ ms) = Unbroken r i c × Used r i cs ms
Used r i (c ∷ cs) (everywhere ∷ ms) = Keeps r c × Used r i cs ms

-- what the conclusion of an outcome owes to the cited clauses: the law of every book
abbrev pub Sound : List Clause → Outcome → Type 0
Sound cs (refuses f) = Unit {0}
Sound cs (gives k ms) = (r : Run) (i : ℕ) → Used r i cs ms → Unbroken r i (concluded k)

-- the two fixed functions, early on the count of cited lines and late on their clauses, with what holds of them
pub record Consult : Type 0 where
  pub most : ℕ
  pub few : most ≤ 8
  pub early : ℕ → Option Refusal
  pub early_number : (n : ℕ) (f : Refusal) → early n ≡ Some f → (f ≡ LetterRange) ⊎ (f ≡ WrongCount)
  pub too_many : (n : ℕ) → most < n → (f : Refusal) × (early n ≡ Some f)
  pub late : List Clause → Outcome
  pub late_number : (cs : List Clause) (f : Refusal) → late cs ≡ refuses f → (12 ≤ number_of f) × (number_of f ≤ 16)
  pub all_marked : (cs : List Clause) (k : Conclusion) (ms : List Mark) → late cs ≡ gives k ms → length ms ≡ length cs
  pub sound : (cs : List Clause) → Sound cs (late cs)
  pub narrow : (cs : List Clause) (k : Conclusion) (ms : List Mark) → AllByRecursion Narrow cs → late cs ≡ gives k ms → Narrow (concluded k)

-- n marks as bits, the first lowest: 1 is everywhere
abbrev pub marks_of : ℕ → ℕ → List Mark
marks_of zero m = []
marks_of (suc n) m = cond (m % 2 == 1) everywhere here ∷ marks_of n (m / 2)

-- a book's internal answer: is the conclusion initial, its now masks and its next masks (plus, minus), and the marks
abbrev pub Masks : Type 0
Masks = Bool × ℕ × ℕ × ℕ × ℕ × ℕ

abbrev pub conclusion_of : Masks → Conclusion
conclusion_of p = cond p.0 (initially (record { plus = p.1; minus = p.2 })) (globally (record { plus = p.1; minus = p.2 }) (record { plus = p.3; minus = p.4 }))

-- what a consultation on n clauses came to
abbrev pub outcome_of : ℕ → Result Masks Refusal → Outcome
outcome_of n (Ok p) = gives (conclusion_of p) (marks_of n p.5)
outcome_of n (Err f) = refuses f

-- no more is told than n marks, and an initial conclusion has no next masks
abbrev pub Tidy : ℕ → Result Masks Refusal → Type 0
Tidy n (Ok p) = (p.5 < 2 ^ n) × (p.0 ≡ true → (p.3 ≡ 0) × (p.4 ≡ 0))
Tidy n (Err f) = Unit {0}
