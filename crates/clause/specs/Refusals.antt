-- The refusals: their numbers, their layers, and the faults that carry them.
use Rattle.std.specs.Prelude.{ℕ}
use Rattle.clause.specs.declared.refusal.Refusal.{Refusal}
use Rattle.clause.specs.declared.refusal.Refusal.TheVariants.{WrongSize, TextTooLong, TextEmpty, UnknownKey, FieldCount, FieldForm, WrongState, LetterRange, WrongCount, NoSuchLine, NotInForce, WrongKind, InitialMeetsNext, LacksLiteral, TooManyAtoms, Counterexample, RestingEverywhere, CoverMisfit, LiteralsDiffer, NoRoom, NotEmpty, OutOfRange, RunBreaks}
use Rattle.clause.specs.declared.refusal.Layer.{Layer}
use Rattle.clause.specs.declared.refusal.Layer.TheVariants.{Text, Clauses, Book, Run, Case}
use Rattle.clause.specs.declared.refusal.Fault.{Fault}

-- the number by which a refusal is told
abbrev pub number_of : Refusal → ℕ
number_of WrongSize = 1
number_of TextTooLong = 2
number_of TextEmpty = 3
number_of UnknownKey = 4
number_of FieldCount = 5
number_of FieldForm = 6
number_of WrongState = 7
number_of LetterRange = 8
number_of WrongCount = 9
number_of NoSuchLine = 10
number_of NotInForce = 11
number_of WrongKind = 12
number_of InitialMeetsNext = 13
number_of LacksLiteral = 14
number_of TooManyAtoms = 15
number_of Counterexample = 16
number_of RestingEverywhere = 17
number_of CoverMisfit = 18
number_of LiteralsDiffer = 19
number_of NoRoom = 20
number_of NotEmpty = 21
number_of OutOfRange = 22
number_of RunBreaks = 23

-- the layer that it comes from
abbrev pub layer_of : Refusal → Layer
layer_of WrongSize = Case
layer_of TextTooLong = Text
layer_of TextEmpty = Text
layer_of UnknownKey = Text
layer_of FieldCount = Text
layer_of FieldForm = Text
layer_of WrongState = Text
layer_of LetterRange = Clauses
layer_of WrongCount = Clauses
layer_of NoSuchLine = Case
layer_of NotInForce = Case
layer_of WrongKind = Case
layer_of InitialMeetsNext = Book
layer_of LacksLiteral = Book
layer_of TooManyAtoms = Book
layer_of Counterexample = Book
layer_of RestingEverywhere = Case
layer_of CoverMisfit = Case
layer_of LiteralsDiffer = Case
layer_of NoRoom = Case
layer_of NotEmpty = Case
layer_of OutOfRange = Run
layer_of RunBreaks = Run

abbrev pub layer_number : Layer → ℕ
layer_number Text = 1
layer_number Clauses = 2
layer_number Book = 3
layer_number Run = 4
layer_number Case = 5

-- a fault of a call made without a text
abbrev pub fault_at : Refusal → ℕ → ℕ → Fault
fault_at r line detail = record { refusal = r; line = line; field = 0; detail = detail }

abbrev pub plain : Refusal → Fault
plain r = fault_at r 0 0

-- the same fault with a line and a field of a text
abbrev pub placed : ℕ → ℕ → Fault → Fault
placed line field f = record { refusal = f.refusal; line = line; field = field; detail = f.detail }
