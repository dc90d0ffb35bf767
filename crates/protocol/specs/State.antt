-- The state of a case: its stage, the number of its given lines, and its lines.
use Rattle.std.specs.Prelude.{ℕ, ◌-◌, Bool, true, false, ◌||◌, List, [], ◌∷◌, map, length, nat_le, slice_index_or}
use Rattle.clause.specs.declared.syntax.Literal.{Literal}
use Rattle.clause.specs.declared.syntax.LitSet.{LitSet}
use Rattle.clause.specs.declared.syntax.Clause.{Clause}
use Rattle.clause.specs.declared.syntax.Clause.TheVariants.{Initial}
use Rattle.clause.specs.Meaning.{none}

-- a line: its clause, the lines that it cites, and whether it rests on the assumptions of a loop
pub record Line : Type 0 where
  pub clause : Clause
  pub cites : List ℕ
  pub resting : Bool

abbrev pub blank : Line
blank = record { clause = Initial none; cites = []; resting = false }

-- clauses are taken in; sealed; or a loop is open, with its first line, its literal and its guards
pub data Stage : Type 0 where
  intake : Stage
  sealed : Stage
  loop : (first : ℕ) (l : Literal) (guards : List LitSet) → Stage

pub record State : Type 0 where
  pub stage : Stage
  pub given : ℕ
  pub lines : List Line

-- a case just made
abbrev pub fresh : State
fresh = record { stage = intake; given = 0; lines = [] }

abbrev pub last : State → ℕ
last s = length s.lines

-- lines are numbered from 1
abbrev pub line_at : List Line → ℕ → Line
line_at ls n = slice_index_or ls (n - 1) blank

abbrev pub clause_at : List Line → ℕ → Clause
clause_at ls n = (line_at ls n).clause

abbrev pub clauses_at : List Line → List ℕ → List Clause
clauses_at ls ns = map (clause_at ls) ns

abbrev pub any_resting : List Line → List ℕ → Bool
any_resting ls [] = false
any_resting ls (n ∷ ns) = (line_at ls n).resting || any_resting ls ns

-- line n is one of the open loop's
abbrev pub in_loop : Stage → ℕ → Bool
in_loop intake n = false
in_loop sealed n = false
in_loop (loop first _ _) n = nat_le first n

abbrev pub guards_of : Stage → List LitSet
guards_of intake = []
guards_of sealed = []
guards_of (loop _ _ gs) = gs

abbrev pub loop_literal : Stage → Literal
loop_literal intake = record { letter = 0; positive = true }
loop_literal sealed = record { letter = 0; positive = true }
loop_literal (loop _ l _) = l

abbrev pub loop_first : Stage → ℕ
loop_first intake = 0
loop_first sealed = 0
loop_first (loop n _ _) = n
