-- Resolution: two lines, the first with +k and the second with -k, give what is left of them.
use Rattle.std.specs.Prelude.{◌≡◌, ℕ, Bool, true, false, cond, not, ◌&&◌, List, [], ◌∷◌, Some, None, Option, ◌==◌, nat_lt}
use Rattle.clause.specs.declared.syntax.LitSet.{LitSet}
use Rattle.clause.specs.declared.syntax.Literal.{Literal}
use Rattle.clause.specs.declared.syntax.Clause.{Clause}
use Rattle.clause.specs.declared.syntax.Clause.TheVariants.{Initial, Global, Eventuality, Assumption, Never}
use Rattle.clause.specs.declared.refusal.Refusal.{Refusal}
use Rattle.clause.specs.declared.refusal.Refusal.TheVariants.{LetterRange, WrongCount, WrongKind, InitialMeetsNext, LacksLiteral}
use Rattle.clause.specs.Bit.{bit}
use Rattle.clause.specs.Meaning.{none, just, ◌∪◌}
use Rattle.clause.specs.Sets.{Holds, ◌∖◌, now_of, next_of}
use Rattle.rules.specs.declared.resolution.Form.{Form}
use Rattle.rules.specs.declared.resolution.Form.TheVariants.{AtFirst, NowOnly, WithNext}
use Rattle.rules.specs.Kinds.{IsAtFirst, Ever}
use Rattle.rules.specs.Books.{Mark, here, everywhere, Conclusion, initially, globally, Outcome, refuses, gives}

abbrev pub is_empty : LitSet → Bool
is_empty s = s.plus == 0 && s.minus == 0

-- the forms of lines
abbrev pub global_form : LitSet → LitSet → Form
global_form n x = cond (is_empty x) (NowOnly n) (WithNext n x)

abbrev pub form_of : Clause → Option Form
form_of (Initial n) = Some (AtFirst n)
form_of (Global n x) = Some (global_form n x)
form_of (Eventuality _ _) = None
form_of (Assumption x) = Some (global_form none x)
form_of (Never _ _) = None

-- the set in which the literal is looked for
abbrev pub read_in : Form → LitSet
read_in (AtFirst n) = n
read_in (NowOnly n) = n
read_in (WithNext n x) = x

abbrev pub with_sign : Bool → ℕ → Literal
with_sign b k = record { letter = k; positive = b }

-- what is left of two sets
abbrev pub rest_of : ℕ → LitSet → LitSet → LitSet
rest_of k s t = (s ∖ just (with_sign true k)) ∪ (t ∖ just (with_sign false k))

abbrev pub clash : ℕ → LitSet → LitSet → Bool
clash k s t = bit s.plus k == 1 && bit t.minus k == 1

abbrev pub resolvent_of : ℕ → LitSet → LitSet → Option LitSet
resolvent_of k s t = cond (clash k s t) (Some (rest_of k s t)) None

-- the conclusion from two lines of these forms, with what is left of the sets read
abbrev pub settled : Form → Form → Option LitSet → Outcome
settled (AtFirst m) (AtFirst n) (Some s) = gives (initially s) (here ∷ here ∷ [])
settled (AtFirst m) (AtFirst n) None = refuses LacksLiteral
settled (AtFirst m) (NowOnly n) (Some s) = gives (initially s) (here ∷ here ∷ [])
settled (AtFirst m) (NowOnly n) None = refuses LacksLiteral
settled (AtFirst m) (WithNext n _) _ = refuses InitialMeetsNext
settled (NowOnly m) (AtFirst n) (Some s) = gives (initially s) (here ∷ here ∷ [])
settled (NowOnly m) (AtFirst n) None = refuses LacksLiteral
settled (NowOnly m) (NowOnly n) (Some s) = gives (globally s none) (here ∷ here ∷ [])
settled (NowOnly m) (NowOnly n) None = refuses LacksLiteral
settled (NowOnly m) (WithNext n _) (Some s) = gives (globally n s) (everywhere ∷ here ∷ [])
settled (NowOnly m) (WithNext n _) None = refuses LacksLiteral
settled (WithNext m _) (AtFirst n) _ = refuses InitialMeetsNext
settled (WithNext m _) (NowOnly n) (Some s) = gives (globally m s) (here ∷ everywhere ∷ [])
settled (WithNext m _) (NowOnly n) None = refuses LacksLiteral
settled (WithNext m _) (WithNext n _) (Some s) = gives (globally (m ∪ n) s) (here ∷ here ∷ [])
settled (WithNext m _) (WithNext n _) None = refuses LacksLiteral

abbrev pub by_forms : ℕ → Option Form → Option Form → Outcome
by_forms k (Some f) (Some g) = settled f g (resolvent_of k (read_in f) (read_in g))
by_forms k (Some f) None = refuses WrongKind
by_forms k None (Some g) = refuses WrongKind
by_forms k None None = refuses WrongKind

abbrev pub pair_of : ℕ → Clause → Clause → Outcome
pair_of k x y = by_forms k (form_of x) (form_of y)

-- what the cited clauses come to; early lets just two through
abbrev pub late_of : ℕ → List Clause → Outcome
late_of k [] = refuses WrongKind
late_of k (x ∷ []) = refuses WrongKind
late_of k (x ∷ y ∷ []) = pair_of k x y
late_of k (x ∷ y ∷ z ∷ cs) = refuses WrongKind

abbrev pub early_of : ℕ → ℕ → Option Refusal
early_of k n = cond (nat_lt 59 k) (Some LetterRange) (cond (not (n == 2)) (Some WrongCount) None)

-- The rule in its five forms.
-- a line is global and says nothing of the next moment; it is global, and does
abbrev pub IsNowOnly : Clause → Type 0
IsNowOnly c = Ever c × (next_of c ≡ none)

abbrev pub IsWithNext : Clause → Type 0
IsWithNext c = Ever c × (¬ (next_of c ≡ none))

-- the first set holds +k, the second -k
abbrev pub Clash : ℕ → LitSet → LitSet → Type 0
Clash k s t = Holds s (with_sign true k) × Holds t (with_sign false k)

pub data Resolves (k : ℕ) (x y : Clause) : Conclusion → List Mark → Type 0 where
  both_first : IsAtFirst x → IsAtFirst y → Clash k (now_of x) (now_of y) → Resolves k x y (initially (rest_of k (now_of x) (now_of y))) (here ∷ here ∷ [])
  first_now : IsAtFirst x → IsNowOnly y → Clash k (now_of x) (now_of y) → Resolves k x y (initially (rest_of k (now_of x) (now_of y))) (here ∷ here ∷ [])
  now_first : IsNowOnly x → IsAtFirst y → Clash k (now_of x) (now_of y) → Resolves k x y (initially (rest_of k (now_of x) (now_of y))) (here ∷ here ∷ [])
  both_now : IsNowOnly x → IsNowOnly y → Clash k (now_of x) (now_of y) → Resolves k x y (globally (rest_of k (now_of x) (now_of y)) none) (here ∷ here ∷ [])
  both_next : IsWithNext x → IsWithNext y → Clash k (next_of x) (next_of y) → Resolves k x y (globally (now_of x ∪ now_of y) (rest_of k (next_of x) (next_of y))) (here ∷ here ∷ [])
  next_now : IsWithNext x → IsNowOnly y → Clash k (next_of x) (now_of y) → Resolves k x y (globally (now_of x) (rest_of k (next_of x) (now_of y))) (here ∷ everywhere ∷ [])
  now_next : IsNowOnly x → IsWithNext y → Clash k (now_of x) (next_of y) → Resolves k x y (globally (now_of y) (rest_of k (now_of x) (next_of y))) (everywhere ∷ here ∷ [])

-- the rule as it stands on the cited lines
abbrev pub Resolved : ℕ → List Clause → Conclusion → List Mark → Type 0
Resolved k [] c ms = ⊥
Resolved k (x ∷ []) c ms = ⊥
Resolved k (x ∷ y ∷ []) c ms = Resolves k x y c ms
Resolved k (x ∷ y ∷ z ∷ cs) c ms = ⊥

-- an outcome gives a conclusion with its marks just where the rule has them
abbrev pub Accepts : ℕ → List Clause → Outcome → Type 0
Accepts k cs o = (c : Conclusion) (ms : List Mark) → (o ≡ gives c ms → Resolved k cs c ms) × (Resolved k cs c ms → o ≡ gives c ms)
