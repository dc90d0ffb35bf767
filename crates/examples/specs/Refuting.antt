-- A history with a loop that ends in a refute: given that letter 0 comes from each moment on, and that it is untrue at each next moment.
use Rattle.std.specs.Prelude.{ℕ, true, List, [], ◌∷◌, replicate}
use Rattle.clause.specs.declared.syntax.Clause.TheVariants.{Global, Eventuality}
use Rattle.clause.specs.declared.syntax.Literal.{Literal}
use Rattle.clause.specs.Meaning.{none}
use Rattle.rules.specs.ResolvingSound.{resolving}
use Rattle.protocol.specs.State.{State}
use Rattle.protocol.specs.Calls.{Call, Answer, give, seal, infer, open_loop, close, draw, refute, number, core}
use Rattle.protocol.specs.History.{History, Happened}
use Rattle.examples.specs.Books.{set}

abbrev pub plus_0 : Literal
plus_0 = record { letter = 0; positive = true }

-- a row lent to refute, and what it holds after: the core, lines 1 and 2, and zeros
abbrev pub zeros : List ℕ
zeros = replicate 200 0

abbrev pub one_two : List ℕ
one_two = 1 ∷ 2 ∷ replicate 198 0

-- the calls with their answers, the newest first, so to be read from the last line up
abbrev pub refutation : List (Call × Answer)
refutation =
    (refute 7 zeros, core one_two 2)
    ∷ (infer (resolving 0) (6 ∷ 2 ∷ []), number 7)
    ∷ (draw 5 1, number 6)
    ∷ (close (4 ∷ []), number 5)
    ∷ (infer (resolving 0) (3 ∷ 2 ∷ []), number 4)
    ∷ (open_loop plus_0 (none ∷ []), number 3)
    ∷ (seal, number 2)
    ∷ (give (Global none (set 0 1)), number 2)
    ∷ (give (Eventuality none plus_0), number 1)
    ∷ []

-- these calls are answered so, one after the other, on a case just made
abbrev pub ReachesContradiction : Type 0
ReachesContradiction = (s : State) × History refutation s × Happened refutation (refute 7 zeros) (core one_two 2)
