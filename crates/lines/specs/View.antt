-- A place of the table as a line.
use Rattle.std.specs.Prelude.{◌≡◌, ℕ, ◌+◌, ◌-◌, false, List, ◌++◌, map, length, take, drop, replicate}
use Rattle.std.specs.List.{AllByRecursion}
use Rattle.clause.specs.declared.syntax.Clause.TheVariants.{Initial}
use Rattle.clause.specs.Meaning.{none}
use Rattle.protocol.specs.State as model
use Rattle.lines.specs.declared.line.Line.{Line}

abbrev pub line_of : Line → model.Line
line_of x = record { clause = x.clause; cites = take x.cited x.cites; resting = x.resting }

abbrev pub lines_of : List Line → List model.Line
lines_of t = map line_of t

-- the numbers of a place that it does not cite are 0
abbrev pub Tidy : Line → Type 0
Tidy x = x.cites ≡ take x.cited x.cites ++ replicate (8 - x.cited) 0

-- a place without a line
abbrev pub IsBlank : Line → Type 0
IsBlank x = (x.clause ≡ Initial none) × (x.cites ≡ replicate 8 0) × (x.cited ≡ 0) × (x.resting ≡ false)

-- the lines ms stand in the table from place n on (counted from 0), all else is as it was
pub record Written (n : ℕ) (t : List Line) (ms : List model.Line) (t' : List Line) : Type 0 where
  pub places : List Line
  pub lines_are : lines_of places ≡ ms
  pub tidy : AllByRecursion Tidy places
  pub table_is : t' ≡ take n t ++ (places ++ drop (n + length places) t)

-- the places from n up to e are blank, all else is as it was
pub record Blanked (n e : ℕ) (t t' : List Line) : Type 0 where
  pub place : Line
  pub is_blank : IsBlank place
  pub table_is : t' ≡ take n t ++ (replicate (e - n) place ++ drop e t)

-- the places from n on are blank
abbrev pub BlankFrom : ℕ → List Line → Type 0
BlankFrom n t = AllByRecursion IsBlank (drop n t)
