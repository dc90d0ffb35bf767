-- The highest letter that a given clause may hold.
use Rattle.std.specs.Prelude.{◌^◌, [], ◌∷◌}
use Rattle.clause.specs.declared.syntax.Clause.{Clause}
use Rattle.clause.specs.declared.syntax.Clause.TheVariants.{Initial}
use Rattle.clause.specs.declared.refusal.Refusal.TheVariants.{LetterRange}
use Rattle.clause.specs.Refusals.{plain}
use Rattle.protocol.specs.State.{intake, fresh}
use Rattle.protocol.specs.Calls.{give, number, refused}
use Rattle.protocol.specs.Answers.{derived, Answered}
use Rattle.examples.specs.Books.{set}

-- +19 at first, and +20 at first
abbrev pub nineteen : Clause
nineteen = Initial (set (2 ^ 19) 0)

abbrev pub twenty : Clause
twenty = Initial (set (2 ^ 20) 0)

-- letter 19 is taken in: the first line of the case
abbrev pub Taken : Type 0
Taken = Answered fresh (give nineteen) (number 1) (record { stage = intake; given = 1; lines = derived nineteen [] ∷ [] })

-- letter 20 is too high, and nothing changes
abbrev pub TooHigh : Type 0
TooHigh = Answered fresh (give twenty) (refused (plain LetterRange)) fresh

abbrev pub OnGiving : Type 0
OnGiving = Taken × TooHigh
