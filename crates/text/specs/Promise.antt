-- What an accepted case text says in its own words.
use Rattle.std.specs.Prelude.{◌≡◌, ℕ, ◌-◌, ◌≤◌, Bool, List, [], ◌∷◌, length, Ok, Err, Result, slice_index_or}
use Rattle.clause.specs.declared.refusal.Fault.{Fault}
use Rattle.clause.specs.declared.syntax.Clause.{Clause}
use Rattle.clause.specs.declared.syntax.Clause.TheVariants.{Initial}
use Rattle.clause.specs.Meaning.{Run, Keeps, none}
use Rattle.protocol.specs.State.{State, clause_at}
use Rattle.protocol.specs.Causes.{SomeIn}
use Rattle.protocol.specs.Cores.{padded}
use Rattle.records.specs.declared.record.Record.{Record}
use Rattle.records.specs.declared.record.Record.TheVariants.{Give, Seal, WaitLine, WaitLiteral, Resolve, Trial, OpenLoop, CloseLoop, Abandon, DrawFor, Draw, Refute}
use Rattle.records.specs.Records.{record_of}
use Rattle.text.specs.declared.stage.Verdict.{Verdict}
use Rattle.text.specs.declared.stage.Verdict.TheVariants.{Open, Contradiction}

abbrev pub given_by : Record → List Clause → List Clause
given_by (Give c) cs = c ∷ cs
given_by Seal cs = cs
given_by (WaitLine n) cs = cs
given_by (WaitLiteral l) cs = cs
given_by (Resolve a b k) cs = cs
given_by (Trial n x ns) cs = cs
given_by (OpenLoop l gs) cs = cs
given_by (CloseLoop ns) cs = cs
given_by Abandon cs = cs
given_by (DrawFor n m) cs = cs
given_by (Draw n) cs = cs
given_by (Refute n) cs = cs

abbrev pub given_in : Result Record Fault → List Clause → List Clause
given_in (Ok w) cs = given_by w cs
given_in (Err f) cs = cs

-- the clauses of the I, G and E records, in order
abbrev pub givens : List (List ℕ × Bool) → List Clause
givens [] = []
givens (l ∷ ls) = given_in (record_of l.0 l.1) (givens ls)

-- the given clause number m
abbrev pub written : List Clause → ℕ → Clause
written cs m = slice_index_or cs (m - 1) (Initial none)

-- the row names count of these clauses, then zeros, and no run keeps all those that it names
abbrev pub Core : List Clause → List ℕ → ℕ → Type 0
Core cs row count =
    (ns : List ℕ) × (row ≡ padded ns) × (count ≡ length ns)
    × ((m : ℕ) → SomeIn (λ k. k ≡ m) ns → (1 ≤ m) × (m ≤ length cs))
    × ((r : Run) → ¬ ((m : ℕ) → SomeIn (λ k. k ≡ m) ns → Keeps r (written cs m)))

-- what the verdict of a text with these given clauses says
abbrev pub Promised : List Clause → List ℕ → Verdict → Type 0
Promised cs row (Open n) = Unit {0}
Promised cs row (Contradiction n count) = Core cs row count

-- the given clauses of the state are these, in order
abbrev pub Agrees : State → List Clause → Type 0
Agrees s cs = (length cs ≡ s.given) × ((m : ℕ) → 1 ≤ m → m ≤ s.given → clause_at s.lines m ≡ written cs m)

-- no run keeps the given clauses of a contradiction all together
abbrev pub NoRun : List Clause → Verdict → Type 0
NoRun cs (Open n) = Unit {0}
NoRun cs (Contradiction n count) = (r : Run) → ¬ ((m : ℕ) → 1 ≤ m → m ≤ length cs → Keeps r (written cs m))
