-- What playing a case with two given clauses through to a refute comes to.
use Rattle.std.specs.Prelude.{◌≡◌, ℕ, ◌≤◌, cond, List, length, Ok, Err, Result, ◌==◌}
use Rattle.clause.specs.declared.refusal.Fault.{Fault}
use Rattle.clause.specs.declared.syntax.Clause.{Clause}
use Rattle.clause.specs.Meaning.{Run, Keeps}
use Rattle.protocol.specs.Causes.{SomeIn}
use Rattle.protocol.specs.Cores.{Rising, padded}

-- line 1 is the first clause, and line 2 the second
abbrev pub given_at : Clause → Clause → ℕ → Clause
given_at a b n = cond (n == 1) a b

-- the row holds a core of the two lines, and zeros after it; its length is the count; and no run keeps every clause of the core
pub record Refutes (a b : Clause) (row : List ℕ) (count : ℕ) : Type 0 where
  pub core : List ℕ
  pub rising : Rising core
  pub own : (m : ℕ) → SomeIn (λ k. k ≡ m) core → (1 ≤ m) × (m ≤ 2)
  pub row_is : row ≡ padded core
  pub long : length row ≡ 200
  pub count_is : count ≡ length core
  pub kept_by_none : (r : Run) → ¬ ((m : ℕ) → SomeIn (λ k. k ≡ m) core → Keeps r (given_at a b m))

-- accepted, it is a contradiction; refused, it leaves the row
abbrev pub Ends : (a b : Clause) (row row' : List ℕ) → Result ℕ Fault → Type 0
Ends a b row row' (Ok count) = Refutes a b row' count
Ends a b row row' (Err f) = row' ≡ row
