-- What a program says about a fault, on standard error.
use Rattle.std.specs.Prelude.{ℕ, Bool, cond, List, [], ◌++◌, codes, decimal, ◌==◌}
use Rattle.clause.specs.declared.refusal.Fault.{Fault}
use Rattle.clause.specs.declared.refusal.Refusal.{Refusal}
use Rattle.clause.specs.declared.refusal.Refusal.TheVariants.{WrongSize, TextTooLong, TextEmpty, UnknownKey, FieldCount, FieldForm, WrongState, LetterRange, WrongCount, NoSuchLine, NotInForce, WrongKind, InitialMeetsNext, LacksLiteral, TooManyAtoms, Counterexample, RestingEverywhere, CoverMisfit, LiteralsDiffer, NoRoom, NotEmpty, OutOfRange, RunBreaks}
use Rattle.clause.specs.Refusals.{number_of}

abbrev pub reason_of : Refusal → List ℕ
reason_of WrongSize = codes "the table or the row has the wrong size"
reason_of TextTooLong = codes "the text is longer than 65536 bytes"
reason_of TextEmpty = codes "the text has no bytes"
reason_of UnknownKey = codes "the key is unknown"
reason_of FieldCount = codes "the number of fields is wrong"
reason_of FieldForm = codes "a field or the line end is not in its form"
reason_of WrongState = codes "the key does not fit here"
reason_of LetterRange = codes "a letter is too high"
reason_of WrongCount = codes "the number of guards, cited lines or covers is wrong"
reason_of NoSuchLine = codes "no line has this number"
reason_of NotInForce = codes "a named line is not in force"
reason_of WrongKind = codes "the kind of a named line does not suit"
reason_of InitialMeetsNext = codes "an initial line meets a global line with a next set"
reason_of LacksLiteral = codes "a cited line lacks its literal"
reason_of TooManyAtoms = codes "the trial has more than 10 atoms"
reason_of Counterexample = codes "a choice breaks the claim and no cited line"
reason_of RestingEverywhere = codes "a resting line would be used at every moment"
reason_of CoverMisfit = codes "a cover does not fit its guard"
reason_of LiteralsDiffer = codes "the two drawn lines differ in their literal"
reason_of NoRoom = codes "there is no room for more lines"
reason_of NotEmpty = codes "the refuted line has a literal"
reason_of OutOfRange = codes "a size or a task of the run is out of range"
reason_of RunBreaks = codes "the run breaks a given line"

-- a line, and what in it: "line 2, moment 10: "
abbrev pub within_line : ℕ → List ℕ → ℕ → List ℕ
within_line n what k = codes "line " ++ (decimal n ++ (codes ", " ++ (what ++ (codes " " ++ (decimal k ++ codes ": ")))))

abbrev pub at_line : ℕ → List ℕ
at_line n = codes "line " ++ (decimal n ++ codes ": ")

abbrev pub tells : Refusal → Fault → Bool
tells r f = number_of f.refusal == number_of r

-- a broken line with the moment, a misfit with the guard, and any other fault with its line and its field, where it has them
abbrev pub place_of : Fault → List ℕ
place_of f =
    cond (tells RunBreaks f) (within_line f.line (codes "moment") f.detail)
    (cond (tells CoverMisfit f) (within_line f.line (codes "guard") f.detail)
    (cond (f.line == 0) [] (cond (f.field == 0) (at_line f.line) (within_line f.line (codes "field") f.field))))

abbrev pub sentence_of : Fault → List ℕ
sentence_of f = place_of f ++ reason_of f.refusal
