-- The parts of a clause, and the letters and literals of a set.
use Rattle.std.specs.Prelude.{ℕ, ◌^◌, ◌<◌, Bool, true, false, not, ◌&&◌, nat_lt, ◌⊎◌, bit_and, bit_or, bit_xor}
use Rattle.clause.specs.declared.syntax.Literal.{Literal}
use Rattle.clause.specs.declared.syntax.LitSet.{LitSet}
use Rattle.clause.specs.declared.syntax.Clause.{Clause}
use Rattle.clause.specs.declared.syntax.Clause.TheVariants.{Initial, Global, Eventuality, Assumption, Never}
use Rattle.clause.specs.Bit.{In}
use Rattle.clause.specs.Meaning.{none, waiting}

-- s holds the literal l
abbrev pub Holds : LitSet → Literal → Type 0
Holds s l = elim l.positive [ true ↦ In l.letter s.plus | false ↦ In l.letter s.minus ]

-- no literal of s is true in the world w, where the letters of the mask are true and no others
abbrev pub UntrueIn : ℕ → LitSet → Type 0
UntrueIn w s = (k : ℕ) → (In k s.plus → In k w → ⊥) × (In k s.minus → In k w)

-- s holds a letter above n
abbrev pub Over : ℕ → LitSet → Type 0
Over n s = (k : ℕ) × (n < k) × (In k s.plus ⊎ In k s.minus)

-- the letters of s, whatever their sign
abbrev pub letters_of : LitSet → ℕ
letters_of s = bit_or s.plus s.minus

-- s holds the letter n or one above it, as its masks tell
abbrev pub reaches : ℕ → LitSet → Bool
reaches n s = not (nat_lt s.plus (2 ^ n) && nat_lt s.minus (2 ^ n))

-- a without what is in b
infixl 65 ◌∖◌
abbrev pub ◌∖◌ : LitSet → LitSet → LitSet
◌∖◌ a b = record { plus = bit_xor a.plus (bit_and a.plus b.plus); minus = bit_xor a.minus (bit_and a.minus b.minus) }

-- the letter that waits for l, and its negation
abbrev pub waits_set : Literal → LitSet
waits_set l = record { plus = 2 ^ waiting l; minus = 0 }

abbrev pub waits_not_set : Literal → LitSet
waits_not_set l = record { plus = 0; minus = 2 ^ waiting l }

-- what a clause says of now, of the next moment, and the literal of an eventuality or a never clause
abbrev pub now_of : Clause → LitSet
now_of (Initial n) = n
now_of (Global n _) = n
now_of (Eventuality n _) = n
now_of (Assumption _) = none
now_of (Never n _) = n

abbrev pub next_of : Clause → LitSet
next_of (Initial _) = none
next_of (Global _ x) = x
next_of (Eventuality _ _) = none
next_of (Assumption x) = x
next_of (Never _ _) = none

abbrev pub literal_of : Clause → Literal
literal_of (Initial _) = record { letter = 0; positive = true }
literal_of (Global _ _) = record { letter = 0; positive = true }
literal_of (Eventuality _ l) = l
literal_of (Assumption _) = record { letter = 0; positive = true }
literal_of (Never _ l) = l

-- no letter of the clause is above 59, and its literal is plain
abbrev pub Narrow : Clause → Type 0
Narrow c = (¬ Over 59 (now_of c)) × (¬ Over 59 (next_of c)) × (¬ (19 < (literal_of c).letter))
