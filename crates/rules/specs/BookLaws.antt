-- What every outcome of a book owes, as one fact of the outcome.
use Rattle.std.specs.Prelude.{◌≡◌, ℕ, ◌≤◌, ◌⊎◌, List, length, Some, None, Option}
use Rattle.std.specs.List.{AllByRecursion}
use Rattle.clause.specs.declared.syntax.Clause.{Clause}
use Rattle.clause.specs.declared.refusal.Refusal.{Refusal}
use Rattle.clause.specs.declared.refusal.Refusal.TheVariants.{LetterRange, WrongCount}
use Rattle.clause.specs.Refusals.{number_of}
use Rattle.clause.specs.Meaning.{Run, Unbroken}
use Rattle.clause.specs.Sets.{Narrow}
use Rattle.rules.specs.Books.{concluded, Outcome, refuses, gives, Used, Sound}

abbrev pub Right : List Clause → Outcome → Type 0
Right cs (refuses f) = (12 ≤ number_of f) × (number_of f ≤ 16)
Right cs (gives c ms) = (length ms ≡ length cs) × (AllByRecursion Narrow cs → Narrow (concluded c)) × ((r : Run) (i : ℕ) → Used r i cs ms → Unbroken r i (concluded c))

pub right_sound : (cs : List Clause) (o : Outcome) → Right cs o → Sound cs o
right_sound cs (refuses f) p = tt
right_sound cs (gives c ms) p = p.2

abbrev pub Early : Option Refusal → Type 0
Early (Some f) = (f ≡ LetterRange) ⊎ (f ≡ WrongCount)
Early None = Unit {0}
