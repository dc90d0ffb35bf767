-- The kinds of lines that a book reads.
use Rattle.clause.specs.declared.syntax.Clause.{Clause}
use Rattle.clause.specs.declared.syntax.Clause.TheVariants.{Initial, Global, Eventuality, Assumption, Never}

-- a line speaks of the first moment
abbrev pub IsAtFirst : Clause → Type 0
IsAtFirst (Initial _) = Unit {0}
IsAtFirst (Global _ _) = ⊥
IsAtFirst (Eventuality _ _) = ⊥
IsAtFirst (Assumption _) = ⊥
IsAtFirst (Never _ _) = ⊥

-- a line is global, or an assumption, which is read as one
abbrev pub Ever : Clause → Type 0
Ever (Initial _) = ⊥
Ever (Global _ _) = Unit {0}
Ever (Eventuality _ _) = ⊥
Ever (Assumption _) = Unit {0}
Ever (Never _ _) = ⊥
