-- What the rule books come to on a few lines.
use Rattle.std.specs.Prelude.{◌≡◌, ℕ, [], ◌∷◌}
use Rattle.clause.specs.declared.syntax.LitSet.{LitSet}
use Rattle.clause.specs.declared.syntax.Clause.TheVariants.{Initial, Global}
use Rattle.clause.specs.declared.refusal.Refusal.TheVariants.{InitialMeetsNext, LacksLiteral, Counterexample}
use Rattle.clause.specs.Meaning.{none}
use Rattle.rules.specs.Books.{here, everywhere, initially, globally, refuses, gives}
use Rattle.rules.specs.Resolving.{late_of}
use Rattle.rules.specs.Deciding.{late_trial}

-- the letters with plus, and those with minus, as masks
abbrev pub set : ℕ → ℕ → LitSet
set p m = record { plus = p; minus = m }

-- +1 at first, and never 1: nothing is left
abbrev pub Emptied : Type 0
Emptied = late_of 1 (Initial (set 2 0) ∷ Global (set 0 2) none ∷ []) ≡ gives (initially none) (here ∷ here ∷ [])

-- an initial line does not meet a global line with next
abbrev pub NotNext : Type 0
NotNext = late_of 1 (Initial (set 2 0) ∷ Global (set 0 2) (set 2 0) ∷ []) ≡ refuses InitialMeetsNext

-- +0 or -1 now, at every moment; -1 now or -0 next: so -1 now or -1 next
abbrev pub Moved : Type 0
Moved = late_of 0 (Global (set 1 2) none ∷ Global (set 0 2) (set 0 1) ∷ []) ≡ gives (globally (set 0 2) (set 0 2)) (everywhere ∷ here ∷ [])

-- -0 stands in the now set of a line with next, which is not read
abbrev pub Unread : Type 0
Unread = late_of 0 (Global (set 1 0) none ∷ Global (set 0 1) (set 8 0) ∷ []) ≡ refuses LacksLiteral

-- 0 now, and 1 where 0 is: so 1 now
abbrev pub Tried : Type 0
Tried = late_trial (record { now = set 2 0; next = none }) (Global (set 1 0) none ∷ Global (set 2 1) none ∷ []) ≡ gives (globally (set 2 0) none) (here ∷ here ∷ [])

-- 0 or 1 now does not say 0
abbrev pub TooMuch : Type 0
TooMuch = late_trial (record { now = set 1 0; next = none }) (Global (set 3 0) none ∷ []) ≡ refuses Counterexample

abbrev pub OnBooks : Type 0
OnBooks = Emptied × NotNext × Moved × Unread × Tried × TooMuch
