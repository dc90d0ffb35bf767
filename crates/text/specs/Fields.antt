-- The field that a call's refusal is about.
use Rattle.std.specs.Prelude.{ℕ, Bool, true, false, cond, ◌&&◌, ◌||◌, List, length, Some, None, Option, ◌==◌, nat_lt}
use Rattle.clause.specs.declared.refusal.Refusal.{Refusal}
use Rattle.clause.specs.declared.refusal.Refusal.TheVariants.{LetterRange, NoSuchLine, NotInForce, WrongKind}
use Rattle.clause.specs.declared.syntax.Clause.{Clause}
use Rattle.clause.specs.declared.syntax.Clause.TheVariants.{Initial, Global, Eventuality, Assumption, Never}
use Rattle.clause.specs.Sets.{reaches}
use Rattle.protocol.specs.State as model
use Rattle.records.specs.declared.record.Record.{Record}
use Rattle.records.specs.declared.record.Record.TheVariants.{Give, Seal, WaitLine, WaitLiteral, Resolve, Trial, OpenLoop, CloseLoop, Abandon, DrawFor, Draw, Refute}

-- the second field, or else the third
abbrev pub second_if : Bool → ℕ
second_if b = cond b 2 3

-- the first field of a given clause with a letter above 19
abbrev pub over_field : Clause → ℕ
over_field (Initial s) = 2
over_field (Global s x) = second_if (reaches 20 s)
over_field (Eventuality s l) = second_if (reaches 20 s)
over_field (Assumption x) = 2
over_field (Never s l) = 2

-- a field, or 0 where there is none
abbrev pub or_none : Option ℕ → ℕ
or_none None = 0
or_none (Some k) = k

-- the field of a letter that a call refuses
abbrev pub letter_field : Record → ℕ
letter_field (Give c) = over_field c
letter_field Seal = 0
letter_field (WaitLine n) = 0
letter_field (WaitLiteral l) = 2
letter_field (Resolve a b k) = 4
letter_field (Trial n x ns) = second_if (reaches 60 n)
letter_field (OpenLoop l gs) = cond (nat_lt 19 l.letter) 2 (or_none gs.over)
letter_field (CloseLoop ns) = 0
letter_field Abandon = 0
letter_field (DrawFor n m) = 0
letter_field (Draw n) = 0
letter_field (Refute n) = 0

-- no line has this number
abbrev pub outside : List model.Line → ℕ → Bool
outside ls n = n == 0 || nat_lt (length ls) n

-- before the first line of the open loop
abbrev pub before : Option ℕ → ℕ → Bool
before None n = true
before (Some f) n = nat_lt n f

-- resting, and its loop not open
abbrev pub dormant : List model.Line → Option ℕ → ℕ → Bool
dormant ls first n = (model.line_at ls n).resting && before first n

-- a clause that resolution does not take, and one that is no never clause
abbrev pub later : Clause → Bool
later (Initial s) = false
later (Global s x) = false
later (Eventuality s l) = true
later (Assumption x) = false
later (Never s l) = true

abbrev pub not_never : Clause → Bool
not_never (Initial s) = true
not_never (Global s x) = true
not_never (Eventuality s l) = true
not_never (Assumption x) = true
not_never (Never s l) = false

-- a clause that a call does not take first
abbrev pub unfit : Record → Clause → Bool
unfit (Give c) x = later x
unfit Seal x = later x
unfit (WaitLine n) x = later x
unfit (WaitLiteral l) x = later x
unfit (Resolve a b k) x = later x
unfit (Trial n y ns) x = later x
unfit (OpenLoop l gs) x = later x
unfit (CloseLoop ns) x = later x
unfit Abandon x = later x
unfit (DrawFor n m) x = not_never x
unfit (Draw n) x = later x
unfit (Refute n) x = later x

-- the field of a line that a call refuses: of two lines, the first where that one is refused
abbrev pub line_field : (ℕ → Bool) → Record → ℕ
line_field p (Give c) = 0
line_field p Seal = 0
line_field p (WaitLine n) = 2
line_field p (WaitLiteral l) = 0
line_field p (Resolve a b k) = second_if (p a)
line_field p (Trial n x ns) = 4
line_field p (OpenLoop l gs) = 0
line_field p (CloseLoop ns) = 2
line_field p Abandon = 0
line_field p (DrawFor n m) = second_if (p n)
line_field p (Draw n) = 2
line_field p (Refute n) = 2

-- the first field that a refusal is about, the key being 1, and 0 where it is about none; of the lines that a field names, and of the first of the open loop
abbrev pub field_of : List model.Line → Option ℕ → Record → Refusal → ℕ
field_of ls first w LetterRange = letter_field w
field_of ls first w NoSuchLine = line_field (outside ls) w
field_of ls first w NotInForce = line_field (dormant ls first) w
field_of ls first w WrongKind = line_field (λ n. unfit w (model.clause_at ls n)) w
field_of ls first w _ = 0
