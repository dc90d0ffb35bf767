-- Why a call is refused: its causes in checking order.
use Rattle.std.specs.Prelude.{◌≡◌, ℕ, ◌+◌, ◌<◌, ◌≤◌, true, false, ◌⊎◌, List, [], ◌∷◌, ◌++◌, length, Some}
use Rattle.clause.specs.declared.syntax.LitSet.{LitSet}
use Rattle.clause.specs.declared.syntax.Clause.{Clause}
use Rattle.clause.specs.declared.syntax.Clause.TheVariants.{Initial, Global, Eventuality, Assumption, Never}
use Rattle.clause.specs.declared.refusal.Fault.{Fault}
use Rattle.clause.specs.declared.refusal.Refusal.{Refusal}
use Rattle.clause.specs.declared.refusal.Refusal.TheVariants.{WrongSize, LetterRange, WrongCount, NoSuchLine, NotInForce, WrongKind, RestingEverywhere, CoverMisfit, LiteralsDiffer, NoRoom, NotEmpty, RunBreaks}
use Rattle.clause.specs.Refusals.{plain, fault_at}
use Rattle.clause.specs.Meaning.{Run, Broken, Unbroken, Keeps, Within, none}
use Rattle.clause.specs.Sets.{Over, now_of, next_of, literal_of}
use Rattle.rules.specs.Books.{Consult, Mark, here, everywhere, Conclusion, refuses, gives}
use Rattle.protocol.specs.State.{Line, State, last, line_at, clause_at, clauses_at, in_loop, guards_of}
use Rattle.protocol.specs.Calls.{Call, give, seal, infer, wait_line, wait_literal, open_loop, close, abandon, draw, draw_alone, refute, show}

-- a cause says which fault is due
abbrev pub Cause : Type 1
Cause = Fault → Type 0

-- the refusal r is due where P
abbrev pub if : Type 0 → Refusal → Cause
if P r f = P × (f ≡ plain r)

-- the fault is due by one cause, and by none before it
abbrev pub First : List Cause → Fault → Type 0
First [] f = ⊥
First (P ∷ Ps) f = P f ⊎ (((g : Fault) → ¬ P g) × First Ps f)

abbrev pub NoneOf : List Cause → Type 0
NoneOf [] = Unit {0}
NoneOf (P ∷ Ps) = ((g : Fault) → ¬ P g) × NoneOf Ps

abbrev pub SomeIn : {X : Type 0} → (X → Type 0) → List X → Type 0
SomeIn P [] = ⊥
SomeIn P (x ∷ xs) = P x ⊎ SomeIn P xs

-- no line has this number
abbrev pub Outside : State → ℕ → Type 0
Outside s n = (n ≡ 0) ⊎ (last s < n)

-- not in force: resting, and its loop not open
abbrev pub Dormant : State → ℕ → Type 0
Dormant s n = ((line_at s.lines n).resting ≡ true) × (in_loop s.stage n ≡ false)

-- kinds of clauses
abbrev pub NotEventuality : Clause → Type 0
NotEventuality (Initial _) = Unit {0}
NotEventuality (Global _ _) = Unit {0}
NotEventuality (Eventuality _ _) = ⊥
NotEventuality (Assumption _) = Unit {0}
NotEventuality (Never _ _) = Unit {0}

abbrev pub NotNever : Clause → Type 0
NotNever (Initial _) = Unit {0}
NotNever (Global _ _) = Unit {0}
NotNever (Eventuality _ _) = Unit {0}
NotNever (Assumption _) = Unit {0}
NotNever (Never _ _) = ⊥

abbrev pub NotGlobal : Clause → Type 0
NotGlobal (Initial _) = Unit {0}
NotGlobal (Global _ _) = ⊥
NotGlobal (Eventuality _ _) = Unit {0}
NotGlobal (Assumption _) = Unit {0}
NotGlobal (Never _ _) = Unit {0}

abbrev pub NotRefutable : Clause → Type 0
NotRefutable (Initial _) = ⊥
NotRefutable (Global _ _) = ⊥
NotRefutable (Eventuality _ _) = Unit {0}
NotRefutable (Assumption _) = Unit {0}
NotRefutable (Never _ _) = Unit {0}

-- a clause that cannot be given: a letter above 19, or of a kind that only other calls add
abbrev pub OverGiven : Clause → Type 0
OverGiven (Initial n) = Over 19 n
OverGiven (Global n x) = Over 19 n ⊎ Over 19 x
OverGiven (Eventuality n l) = Over 19 n ⊎ (19 < l.letter)
OverGiven (Assumption _) = Unit {0}
OverGiven (Never _ _) = Unit {0}

-- some guard holds a letter above 59
abbrev pub SomeOver : List LitSet → Type 0
SomeOver gs = SomeIn (Over 59) gs

-- a clause covers a guard: nothing next, and its literals among the guard's
abbrev pub Fits : Clause → LitSet → Type 0
Fits c g = (next_of c ≡ none) × Within (now_of c) g

-- the place, from k on, of the lowest guard that its cover does not fit
abbrev pub Unfit : List Line → ℕ → List ℕ → List LitSet → ℕ → Type 0
Unfit ls k [] gs p = ⊥
Unfit ls k (c ∷ cs) [] p = ⊥
Unfit ls k (c ∷ cs) (g ∷ gs) p = ((¬ Fits (clause_at ls c) g) × (p ≡ k)) ⊎ (Fits (clause_at ls c) g × Unfit ls (k + 1) cs gs p)

-- some line marked everywhere is resting
abbrev pub RestEverywhere : List Line → List ℕ → List Mark → Type 0
RestEverywhere ls [] ms = ⊥
RestEverywhere ls (n ∷ ns) [] = ⊥
RestEverywhere ls (n ∷ ns) (here ∷ ms) = RestEverywhere ls ns ms
RestEverywhere ls (n ∷ ns) (everywhere ∷ ms) = ((line_at ls n).resting ≡ true) ⊎ RestEverywhere ls ns ms

-- n is the lowest given line that the run breaks, and i the lowest moment
abbrev pub LowestBroken : State → Run → ℕ → ℕ → Type 0
LowestBroken s r n i =
    (1 ≤ n) × (n ≤ s.given) × Broken r i (clause_at s.lines n)
    × ((j : ℕ) → j < i → Unbroken r j (clause_at s.lines n))
    × ((m : ℕ) → 1 ≤ m → m < n → Keeps r (clause_at s.lines m))

-- causes that calls share
abbrev pub named : State → List ℕ → List Cause
named s ns = if (SomeIn (Outside s) ns) NoSuchLine ∷ if (SomeIn (Dormant s) ns) NotInForce ∷ []

abbrev pub full : State → ℕ → List Cause
full s more = if (1000 < last s + more) NoRoom ∷ []

-- causes of one call each
abbrev pub counted : Consult → ℕ → List Cause
counted b n = (λ f. (r : Refusal) × (b.early n ≡ Some r) × (f ≡ plain r)) ∷ []

abbrev pub consulted : List Line → Consult → List ℕ → List Cause
consulted ls b ns =
    (λ f. (r : Refusal) × (b.late (clauses_at ls ns) ≡ refuses r) × (f ≡ plain r))
    ∷ if ((k : Conclusion) × (ms : List Mark) × (b.late (clauses_at ls ns) ≡ gives k ms) × RestEverywhere ls ns ms) RestingEverywhere
    ∷ []

abbrev pub eventual : Clause → List Cause
eventual c = if (NotEventuality c) WrongKind ∷ []

abbrev pub never : Clause → List Cause
never c = if (NotNever c) WrongKind ∷ []

abbrev pub drawn : Clause → Clause → List Cause
drawn c d = if (NotNever c ⊎ NotEventuality d) WrongKind ∷ if (¬ (literal_of c ≡ literal_of d)) LiteralsDiffer ∷ []

abbrev pub covering : List Line → List ℕ → List LitSet → List Cause
covering ls ns gs =
    if (SomeIn (λ n. NotGlobal (clause_at ls n)) ns) WrongKind
    ∷ (λ f. (p : ℕ) × Unfit ls 1 ns gs p × (f ≡ fault_at CoverMisfit 0 p))
    ∷ []

abbrev pub refutable : Clause → List Cause
refutable c = if (NotRefutable c) WrongKind ∷ if (¬ ((now_of c ≡ none) × (next_of c ≡ none))) NotEmpty ∷ []

-- the causes of every call but want of room for its lines
abbrev pub checks : State → Call → List Cause
checks s (give c) = if (OverGiven c) LetterRange ∷ if (200 ≤ s.given) NoRoom ∷ []
checks s seal = []
checks s (infer b ns) = counted b (length ns) ++ (named s ns ++ consulted s.lines b ns)
checks s (wait_line n) = named s (n ∷ []) ++ eventual (clause_at s.lines n)
checks s (wait_literal l) = if (19 < l.letter) LetterRange ∷ []
checks s (open_loop l gs) = if ((19 < l.letter) ⊎ SomeOver gs) LetterRange ∷ if ((length gs ≡ 0) ⊎ (8 < length gs)) WrongCount ∷ []
checks s (close ns) =
    if (¬ (length ns ≡ length (guards_of s.stage))) WrongCount
    ∷ (named s ns ++ covering s.lines ns (guards_of s.stage))
checks s abandon = []
checks s (draw n m) = named s (n ∷ m ∷ []) ++ drawn (clause_at s.lines n) (clause_at s.lines m)
checks s (draw_alone n) = named s (n ∷ []) ++ never (clause_at s.lines n)
checks s (refute n row) = if (¬ (length row ≡ 200)) WrongSize ∷ (named s (n ∷ []) ++ refutable (clause_at s.lines n))
checks s (show x) = (λ f. (n i : ℕ) × LowestBroken s x.run n i × (f ≡ fault_at RunBreaks n i)) ∷ []

-- the lines that a call would add need places among 1,000
abbrev pub places : State → Call → List Cause
places s (give c) = []
places s seal = []
places s (infer b ns) = full s 1
places s (wait_line n) = full s 1
places s (wait_literal l) = full s 1
places s (open_loop l gs) = full s (length gs)
places s (close ns) = full s (length ns)
places s abandon = []
places s (draw n m) = full s 1
places s (draw_alone n) = full s 1
places s (refute n row) = []
places s (show x) = []

-- the causes of every call, in checking order
abbrev pub causes : State → Call → List Cause
causes s c = checks s c ++ places s c
