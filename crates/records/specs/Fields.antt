-- Fields in their form, and what is refused otherwise.
use Rattle.std.specs.Prelude.{ℕ, min, Bool, cond, List, Some, None, Ok, Err, Option, Result}
use Rattle.clause.specs.declared.refusal.Fault.{Fault}
use Rattle.clause.specs.declared.refusal.Refusal.{Refusal}
use Rattle.clause.specs.declared.refusal.Refusal.TheVariants.{UnknownKey, FieldCount, FieldForm}
use Rattle.clause.specs.declared.syntax.Literal.{Literal}
use Rattle.clause.specs.declared.syntax.LitSet.{LitSet}
use Rattle.forms.specs.declared.literals.Written.{Written}
use Rattle.forms.specs.declared.lists.Numbers.{Numbers}
use Rattle.forms.specs.Fields.{one_of, two_of, three_of, four_of, five_of}
use Rattle.forms.specs.Forms.{number_in, literal_in, set_in, kept}
use Rattle.forms.specs.Lists.{numbers_in, nine_of}

-- a fault of a text's form: its cause, and the field, the key being 1
abbrev pub misread : Refusal → ℕ → Fault
misread r k = record { refusal = r; line = 0; field = k; detail = 0 }

-- a field that has to be in its form
abbrev pub formed : {A : Type 0} → ℕ → Option A → Result A Fault
formed k None = Err (misread FieldForm k)
formed k (Some x) = Ok x

-- fields whose number has to be right
abbrev pub counted : {A B : Type 0} → Option A → (A → Result B Fault) → Result B Fault
counted None f = Err (misread FieldCount 0)
counted (Some x) f = f x

abbrev pub and_so : {A B : Type 0} → Result A Fault → (A → Result B Fault) → Result B Fault
and_so (Ok x) f = f x
and_so (Err e) f = Err e

-- a record whose line end, where it is missing, counts as the field k
abbrev pub closed : {A : Type 0} → Bool → ℕ → A → Result A Fault
closed ended k r = cond ended (Ok r) (Err (misread FieldForm k))

abbrev pub unknown : {A : Type 0} → Result A Fault
unknown = Err (misread UnknownKey 0)

-- by the key of a line, where it has one
abbrev pub keyed : {A : Type 0} → Option ℕ → (ℕ → Result A Fault) → Result A Fault
keyed None f = unknown
keyed (Some k) f = f k

-- a literal, kept as the calls take it
abbrev pub kept_of : Option Written → Option Literal
kept_of None = None
kept_of (Some w) = Some (kept w)

abbrev pub literal_of : List ℕ → Option Literal
literal_of f = kept_of (literal_in f)

-- a letter above 63 is kept as 63
abbrev pub small_of : Option ℕ → Option ℕ
small_of None = None
small_of (Some n) = Some (min n 63)

abbrev pub letter_of : List ℕ → Option ℕ
letter_of f = small_of (number_in f)

abbrev pub numbers_of : List ℕ → Option Numbers
numbers_of f = nine_of (numbers_in f)

-- the field k of a line, a set
abbrev pub set_at : ℕ → List ℕ → Result LitSet Fault
set_at k f = formed k (set_in f)

-- lines of a key and no other field, or one, two, three or four in their forms, and their end
abbrev pub no_field : {R : Type 0} → R → List (List ℕ) → Bool → Result R Fault
no_field r fs e = counted (one_of fs) (λ p. closed e 2 r)

abbrev pub one_field : {A R : Type 0} → (List ℕ → Option A) → (A → R) → List (List ℕ) → Bool → Result R Fault
one_field f make fs e = counted (two_of fs) (λ p. and_so (formed 2 (f p.1)) (λ a. closed e 3 (make a)))

abbrev pub two_fields : {A B R : Type 0} → (List ℕ → Option A) → (List ℕ → Option B) → (A → B → R) → List (List ℕ) → Bool → Result R Fault
two_fields f g make fs e = counted (three_of fs) (λ p. and_so (formed 2 (f p.1)) (λ a. and_so (formed 3 (g p.2)) (λ b. closed e 4 (make a b))))

abbrev pub three_fields : {A B C R : Type 0} → (List ℕ → Option A) → (List ℕ → Option B) → (List ℕ → Option C) → (A → B → C → R) → List (List ℕ) → Bool → Result R Fault
three_fields f g h make fs e = counted (four_of fs) (λ p. and_so (formed 2 (f p.1)) (λ a. and_so (formed 3 (g p.2)) (λ b. and_so (formed 4 (h p.3)) (λ c. closed e 5 (make a b c)))))

abbrev pub four_fields : {A B C D R : Type 0} → (List ℕ → Option A) → (List ℕ → Option B) → (List ℕ → Option C) → (List ℕ → Option D) → (A → B → C → D → R) → List (List ℕ) → Bool → Result R Fault
four_fields f g h i make fs e = counted (five_of fs) (λ p. and_so (formed 2 (f p.1)) (λ a. and_so (formed 3 (g p.2)) (λ b. and_so (formed 4 (h p.3)) (λ c. and_so (formed 5 (i p.4)) (λ d. closed e 6 (make a b c d))))))
