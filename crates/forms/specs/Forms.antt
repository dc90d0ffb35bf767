-- What a field says, where it is in its form.
use Rattle.std.specs.Prelude.{◌≡◌, ℕ, ◌+◌, ◌-◌, ◌*◌, ◌<◌, min, Bool, true, false, cond, ◌&&◌, List, [], ◌∷◌, length, Some, None, Option, ◌==◌, nat_le, nat_lt}
use Rattle.clause.specs.declared.syntax.Literal.{Literal}
use Rattle.clause.specs.declared.syntax.LitSet.{LitSet}
use Rattle.clause.specs.Meaning.{none, just, ◌∪◌}
use Rattle.forms.specs.declared.literals.Written.{Written}
use Rattle.forms.specs.Cuts.{split}
use Rattle.forms.specs.Fields.{and_then}

-- what the first part says, and the parts after it
abbrev pub lead : {A : Type 0} → (List ℕ → Option A) → List (List ℕ) → Option (A × List (List ℕ))
lead f [] = None
lead f (p ∷ ps) = and_then (f p) (λ x. Some (x, ps))

-- what code has of it: a value, and the text after the space, where there is one
abbrev pub Left : {A S : Type 0} → (S → List ℕ) → Option (A × List (List ℕ)) → ℕ → A → Option S → Type 0
Left text o bound x None = o ≡ Some (x, [])
Left text o bound x (Some s) = (o ≡ Some (x, split 32 (text s))) × (length (text s) < bound)

abbrev pub Leads : {A S : Type 0} → (S → List ℕ) → Option (A × List (List ℕ)) → ℕ → Option (A × Option S) → Type 0
Leads text o bound None = o ≡ None
Leads text o bound (Some p) = Left text o bound p.0 p.1

-- what a field of one part says
abbrev pub sole : {A : Type 0} → (List ℕ → Option A) → List (List ℕ) → Option A
sole f [] = None
sole f (p ∷ []) = f p
sole f (p ∷ q ∷ ps) = None

-- a state taken through what the parts say, one after another
abbrev pub through : {A S : Type 0} → (S → A → Option S) → (List ℕ → Option A) → S → List (List ℕ) → Option S
through f form s [] = Some s
through f form s (p ∷ ps) = and_then (form p) (λ x. and_then (f s x) (λ t. through f form t ps))

-- above the rank before, where there is one
abbrev pub rises : Option ℕ → ℕ → Bool
rises None n = true
rises (Some m) n = nat_lt m n

-- s with what the parts say joined to it, each of rank least or above, and above the one before
abbrev pub rising_from : {A S : Type 0} → (A → ℕ) → (S → A → S) → (List ℕ → Option A) → S → ℕ → List (List ℕ) → Option S
rising_from rank join form s least [] = Some s
rising_from rank join form s least (p ∷ ps) = and_then (form p) (λ x. cond (nat_lt (rank x) least) None (rising_from rank join form (join s x) (rank x + 1) ps))

abbrev pub rising : {A S : Type 0} → (A → ℕ) → (S → A → S) → (List ℕ → Option A) → S → List (List ℕ) → Option S
rising rank join form s ps = rising_from rank join form s 0 ps

abbrev pub is_digit : ℕ → Bool
is_digit d = nat_le 48 d && nat_le d 57

-- n, and no digit after it
abbrev pub alone : ℕ → List ℕ → Option ℕ
alone n [] = Some n
alone n (d ∷ ds) = None

-- the number that n and then these digits write, of at most four digits
abbrev pub digits_of : ℕ → List ℕ → Option ℕ
digits_of n [] = Some n
digits_of n (d ∷ ds) = cond (is_digit d && nat_lt n 1000) (digits_of (n * 10 + (d - 48)) ds) None

-- one to four digits, with no needless zero before them
abbrev pub number_of : List ℕ → Option ℕ
number_of [] = None
number_of (d ∷ ds) = cond (d == 48) (alone 0 ds) (cond (is_digit d) (digits_of (d - 48) ds) None)

-- a number with its sign
abbrev pub signed : Bool → List ℕ → Option Written
signed s ds = and_then (number_of ds) (λ n. Some (record { letter = n; positive = s }))

-- `+` or `-`, and a number
abbrev pub literal_of : List ℕ → Option Written
literal_of [] = None
literal_of (c ∷ cs) = cond (c == 43) (signed true cs) (cond (c == 45) (signed false cs) None)

-- a letter above 63 is kept as 63: no call takes one above 59
abbrev pub kept : Written → Literal
kept w = record { letter = min w.letter 63; positive = w.positive }

-- the order in a set: by letter, `+` before `-`
abbrev pub rank : Written → ℕ
rank w = cond w.positive (2 * w.letter) (2 * w.letter + 1)

-- s with one literal more
abbrev pub with_literal : LitSet → Written → LitSet
with_literal s w = s ∪ just (kept w)

-- one literal
abbrev pub literal_in : List ℕ → Option Written
literal_in field = sole literal_of (split 32 field)

-- one number
abbrev pub number_in : List ℕ → Option ℕ
number_in field = sole number_of (split 32 field)

-- `.` and nothing else
abbrev pub is_dot : List ℕ → Bool
is_dot [] = false
is_dot (c ∷ []) = c == 46
is_dot (c ∷ d ∷ cs) = false

-- `.` for the empty set, or literals parted by single spaces
abbrev pub set_in : List ℕ → Option LitSet
set_in field = cond (is_dot field) (Some none) (rising rank with_literal literal_of none (split 32 field))
