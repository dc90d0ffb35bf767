-- The fields of a line, where their number is right.
use Rattle.std.specs.Prelude.{◌≡◌, ℕ, List, [], ◌∷◌, Some, None, Option}
use Rattle.std.specs.Borrow.{Bor}
use Rattle.forms.specs.Cuts.{split}

abbrev pub Bytes : Type 0
Bytes = List ℕ

abbrev pub and_then : {A B : Type 0} → Option A → (A → Option B) → Option B
and_then None f = None
and_then (Some x) f = f x

-- the fields of a text, if there is one
abbrev pub fields_of : Option (Bor Bytes) → List Bytes
fields_of None = []
fields_of (Some s) = split 9 s.now

-- the next of these fields, and those after it
abbrev pub Next : List Bytes → Option (Bor Bytes) → List Bytes → Type 0
Next before None after = (before ≡ []) × (after ≡ [])
Next before (Some f) after = before ≡ f.now ∷ after

-- a key is exactly one byte
abbrev pub byte_of : Bytes → Option ℕ
byte_of [] = None
byte_of (k ∷ []) = Some k
byte_of (k ∷ j ∷ ks) = None

-- the key of a line
abbrev pub key_of : List Bytes → Option ℕ
key_of [] = None
key_of (f ∷ fs) = byte_of f

-- just one field
abbrev pub one_of : List Bytes → Option Bytes
one_of [] = None
one_of (a ∷ []) = Some a
one_of (a ∷ b ∷ fs) = None

-- just two, three, four and five
abbrev pub two_of : List Bytes → Option (Bytes × Bytes)
two_of [] = None
two_of (a ∷ fs) = and_then (one_of fs) (λ b. Some (a, b))

abbrev pub three_of : List Bytes → Option (Bytes × Bytes × Bytes)
three_of [] = None
three_of (a ∷ fs) = and_then (two_of fs) (λ p. Some (a, p.0, p.1))

abbrev pub four_of : List Bytes → Option (Bytes × Bytes × Bytes × Bytes)
four_of [] = None
four_of (a ∷ fs) = and_then (three_of fs) (λ p. Some (a, p.0, p.1, p.2))

abbrev pub five_of : List Bytes → Option (Bytes × Bytes × Bytes × Bytes × Bytes)
five_of [] = None
five_of (a ∷ fs) = and_then (four_of fs) (λ p. Some (a, p.0, p.1, p.2, p.3))
