-- What a call is answered, and the state that it leaves.
use Rattle.std.specs.Prelude.{◌≡◌, ℕ, ◌+◌, ◌-◌, true, false, List, [], ◌∷◌, ◌++◌, map, length, take}
use Rattle.clause.specs.declared.syntax.Literal.{Literal}
use Rattle.clause.specs.declared.syntax.LitSet.{LitSet}
use Rattle.clause.specs.declared.syntax.Clause.{Clause}
use Rattle.clause.specs.declared.syntax.Clause.TheVariants.{Global, Assumption, Never}
use Rattle.clause.specs.Meaning.{none, just, ◌∪◌}
use Rattle.clause.specs.Sets.{now_of, literal_of, waits_set, waits_not_set}
use Rattle.rules.specs.Books.{Mark, Conclusion, concluded, gives}
use Rattle.protocol.specs.State.{Line, State, intake, sealed, loop, last, clause_at, clauses_at, any_resting, guards_of, loop_literal, loop_first}
use Rattle.protocol.specs.Calls.{Call, give, seal, infer, wait_line, wait_literal, open_loop, close, abandon, draw, draw_alone, refute, show, Answer, number, core, shown, refused}
use Rattle.protocol.specs.Causes.{First, NoneOf, causes}
use Rattle.protocol.specs.Cores.{IsCore, padded}

abbrev pub added : State → List Line → State
added s ls = record { stage = s.stage; given = s.given; lines = s.lines ++ ls }

-- a line that rests on no assumption
abbrev pub derived : Clause → List ℕ → Line
derived c ns = record { clause = c; cites = ns; resting = false }

-- the assumption of a guard, and what a closed loop says of it
abbrev pub assumed : Literal → LitSet → Line
assumed l g = record { clause = Assumption (g ∪ just l); cites = []; resting = true }

abbrev pub nevers : Literal → List ℕ → LitSet → Line
nevers l covers g = record { clause = Never g l; cites = covers; resting = false }

-- what waits for l now, waits for it next or has it next
abbrev pub waits_line : Literal → Clause
waits_line l = Global (waits_not_set l) (just l ∪ waits_set l)

-- what an eventuality becomes with the letter that waits for its literal
abbrev pub waited_clause : Clause → Clause
waited_clause c = Global (now_of c ∪ (just (literal_of c) ∪ waits_set (literal_of c))) none

-- what a never line and an eventuality line with its literal come to; and the never line alone
abbrev pub drawn_clause : Clause → Clause → Clause
drawn_clause c d = Global (now_of d ∪ (just (literal_of d) ∪ now_of c)) none

abbrev pub drawn_alone : Clause → Clause
drawn_alone c = Global (waits_not_set (literal_of c)) (just (literal_of c) ∪ now_of c)

-- the call adds the line y
abbrev pub Adds : State → Call → Line → Type 0
Adds s (give c) y = ⊥
Adds s seal y = ⊥
Adds s (infer b ns) y =
    (k : Conclusion) × (ms : List Mark) × (b.late (clauses_at s.lines ns) ≡ gives k ms)
    × (y ≡ record { clause = concluded k; cites = ns; resting = any_resting s.lines ns })
Adds s (wait_line n) y = y ≡ derived (waited_clause (clause_at s.lines n)) (n ∷ [])
Adds s (wait_literal l) y = y ≡ derived (waits_line l) []
Adds s (open_loop l gs) y = ⊥
Adds s (close ns) y = ⊥
Adds s abandon y = ⊥
Adds s (draw n m) y = y ≡ derived (drawn_clause (clause_at s.lines n) (clause_at s.lines m)) (n ∷ m ∷ [])
Adds s (draw_alone n) y = y ≡ derived (drawn_alone (clause_at s.lines n)) (n ∷ [])
Adds s (refute n row) y = ⊥
Adds s (show x) y = ⊥

-- the call answers the number of the line that it adds
abbrev pub Added : State → Call → Answer → State → Type 0
Added s c a t = (y : Line) × Adds s c y × (a ≡ number (last s + 1)) × (t ≡ added s (y ∷ []))

-- what an accepted call answers, and the state that it leaves
abbrev pub Result : State → Call → Answer → State → Type 0
Result s (give c) a t = (a ≡ number (last s + 1)) × (t ≡ record { stage = intake; given = s.given + 1; lines = s.lines ++ (derived c [] ∷ []) })
Result s seal a t = (a ≡ number (last s)) × (t ≡ record { stage = sealed; given = s.given; lines = s.lines })
Result s (infer b ns) a t = Added s (infer b ns) a t
Result s (wait_line n) a t = Added s (wait_line n) a t
Result s (wait_literal l) a t = Added s (wait_literal l) a t
Result s (open_loop l gs) a t =
    (a ≡ number (last s + 1)) × (t ≡ record { stage = loop (last s + 1) l gs; given = s.given; lines = s.lines ++ map (assumed l) gs })
Result s (close ns) a t =
    (a ≡ number (last s + 1)) × (t ≡ record { stage = sealed; given = s.given; lines = s.lines ++ map (nevers (loop_literal s.stage) ns) (guards_of s.stage) })
Result s abandon a t =
    (a ≡ number (loop_first s.stage - 1)) × (t ≡ record { stage = sealed; given = s.given; lines = take (loop_first s.stage - 1) s.lines })
Result s (draw n m) a t = Added s (draw n m) a t
Result s (draw_alone n) a t = Added s (draw_alone n) a t
Result s (refute n row) a t =
    (ns : List ℕ) × IsCore s n ns × (a ≡ core (padded ns) (length ns)) × (t ≡ s)
Result s (show x) a t = (a ≡ shown x.lead x.loop_length) × (t ≡ s)

abbrev pub Answered : State → Call → Answer → State → Type 0
Answered s c (refused f) t = First (causes s c) f × (t ≡ s)
Answered s c (number n) t = NoneOf (causes s c) × Result s c (number n) t
Answered s c (core row n) t = NoneOf (causes s c) × Result s c (core row n) t
Answered s c (shown i n) t = NoneOf (causes s c) × Result s c (shown i n) t

-- calls that add one line
abbrev pub Adding : Call → Type 0
Adding (give c) = ⊥
Adding seal = ⊥
Adding (infer b ns) = Unit {0}
Adding (wait_line n) = Unit {0}
Adding (wait_literal l) = Unit {0}
Adding (open_loop l gs) = ⊥
Adding (close ns) = ⊥
Adding abandon = ⊥
Adding (draw n m) = Unit {0}
Adding (draw_alone n) = Unit {0}
Adding (refute n row) = ⊥
Adding (show x) = ⊥
