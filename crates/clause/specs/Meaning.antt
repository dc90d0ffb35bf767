-- What a run is, and when it breaks a clause.
use Rattle.std.specs.Prelude.{◌≡◌, ℕ, ◌+◌, ◌-◌, ◌^◌, ◌<◌, ◌≤◌, Bool, true, false, bit_or, nat_lt}
use Rattle.clause.specs.declared.syntax.Literal.{Literal}
use Rattle.clause.specs.declared.syntax.LitSet.{LitSet}
use Rattle.clause.specs.declared.syntax.Clause.{Clause}
use Rattle.clause.specs.declared.syntax.Clause.TheVariants.{Initial, Global, Eventuality, Assumption, Never}
use Rattle.clause.specs.Bit.{In}

-- a run says of each moment which plain letters are true
abbrev pub Run : Type 0
Run = ℕ → ℕ → Bool

abbrev pub PlainTrue : Run → ℕ → Literal → Type 0
PlainTrue r i l = r i l.letter ≡ l.positive

-- a literal is waited for where it is untrue, and true at some later moment
abbrev pub Waits : Run → ℕ → Literal → Type 0
Waits r i l = (¬ PlainTrue r i l) × ((j : ℕ) × (i < j) × PlainTrue r j l)

abbrev pub waited : ℕ → Literal
waited n = elim (nat_lt n 40) [ true ↦ record { letter = n - 20; positive = true } | false ↦ record { letter = n - 40; positive = false } ]

abbrev pub LetterTrue : Run → ℕ → ℕ → Type 0
LetterTrue r i n = elim (nat_lt n 20) [ true ↦ r i n ≡ true | false ↦ Waits r i (waited n) ]

abbrev pub Untrue : Run → ℕ → LitSet → Type 0
Untrue r i s = (k : ℕ) → (In k s.plus → ¬ LetterTrue r i k) × (In k s.minus → ¬ (¬ LetterTrue r i k))

abbrev pub none : LitSet
none = record { plus = 0; minus = 0 }

infixl 65 ◌∪◌
abbrev pub ◌∪◌ : LitSet → LitSet → LitSet
◌∪◌ a b = record { plus = bit_or a.plus b.plus; minus = bit_or a.minus b.minus }

abbrev pub just : Literal → LitSet
just l = elim l.positive [ true ↦ record { plus = 2 ^ l.letter; minus = 0 } | false ↦ record { plus = 0; minus = 2 ^ l.letter } ]

-- the letter that waits for a plain literal
abbrev pub waiting : Literal → ℕ
waiting l = elim l.positive [ true ↦ 20 + l.letter | false ↦ 40 + l.letter ]

abbrev pub Within : LitSet → LitSet → Type 0
Within a b = (k : ℕ) → (In k a.plus → In k b.plus) × (In k a.minus → In k b.minus)

abbrev pub Broken : Run → ℕ → Clause → Type 0
Broken r i (Initial s) = (i ≡ 0) × Untrue r i s
Broken r i (Global n x) = Untrue r i n × Untrue r (i + 1) x
Broken r i (Eventuality n l) = Untrue r i n × ((j : ℕ) → i ≤ j → ¬ PlainTrue r j l)
Broken r i (Assumption x) = Untrue r (i + 1) x
Broken r i (Never n l) = Untrue r i n × ((j : ℕ) × (i < j) × PlainTrue r j l)

abbrev pub Unbroken : Run → ℕ → Clause → Type 0
Unbroken r i c = ¬ Broken r i c

abbrev pub Keeps : Run → Clause → Type 0
Keeps r c = (i : ℕ) → Unbroken r i c
