-- How a trial is decided: choices as masks of the letters of which they say yes.
use Rattle.std.specs.Prelude.{◌≡◌, ℕ, zero, suc, ◌+◌, ◌<◌, ◌≤◌, Bool, true, false, cond, not, ◌&&◌, ◌||◌, List, [], ◌∷◌, length, replicate, Some, None, Option, ◌==◌, bit_and, bit_or, nat_le, nat_lt, fold}
use Rattle.std.specs.List.{list_any, list_all}
use Rattle.clause.specs.declared.syntax.LitSet.{LitSet}
use Rattle.clause.specs.declared.syntax.Clause.{Clause}
use Rattle.clause.specs.declared.syntax.Clause.TheVariants.{Initial, Global, Eventuality, Assumption, Never}
use Rattle.clause.specs.declared.refusal.Refusal.{Refusal}
use Rattle.clause.specs.declared.refusal.Refusal.TheVariants.{LetterRange, WrongCount, WrongKind, TooManyAtoms, Counterexample}
use Rattle.clause.specs.Sets.{letters_of, reaches, now_of, next_of}
use Rattle.rules.specs.declared.trial.Claim.{Claim}
use Rattle.rules.specs.declared.trial.Choices.{Choices}
use Rattle.rules.specs.Books.{here, globally, Outcome, refuses, gives}
use Rattle.rules.specs.Trying.{claimed, atoms}

-- the letters of m, and those of a part of each line
abbrev pub letters_with : (Clause → LitSet) → ℕ → List Clause → ℕ
letters_with part m cs = fold (λ n c. bit_or n (letters_of (part c))) m cs

-- the atoms of now, and those of next, as masks
abbrev pub now_atoms : Claim → List Clause → ℕ
now_atoms e cs = letters_with now_of (letters_of e.now) cs

abbrev pub next_atoms : Claim → List Clause → ℕ
next_atoms e cs = letters_with next_of (letters_of e.next) cs

-- a choice x makes each literal of a set untrue, and the choice (x, y) each of a line
abbrev pub untrue_at : ℕ → LitSet → Bool
untrue_at x s = bit_and s.plus x == 0 && bit_and s.minus x == s.minus

abbrev pub broken_at : ℕ → ℕ → Clause → Bool
broken_at x y c = untrue_at x (now_of c) && untrue_at y (next_of c)

abbrev pub one_broken_at : ℕ → ℕ → List Clause → Bool
one_broken_at x y cs = list_any (broken_at x y) cs

-- the line at a place, if any, is broken
abbrev pub place_broken : ℕ → ℕ → List Clause → ℕ → Bool
place_broken x y [] i = false
place_broken x y (c ∷ cs) zero = broken_at x y c
place_broken x y (c ∷ cs) (suc i) = place_broken x y cs i

abbrev pub counter_at : ℕ → ℕ → Clause → List Clause → Bool
counter_at x y c cs = broken_at x y c && not (one_broken_at x y cs)

-- a mask of letters of a
abbrev pub Sub : ℕ → ℕ → Type 0
Sub x a = bit_and x a ≡ x

-- the choice that follows x among the letters of a, from all of them down to none
abbrev pub NextSub : ℕ → ℕ → Option ℕ → Type 0
NextSub x a None = x ≡ 0
NextSub x a (Some z) = (z < x) × Sub z a × (Sub x a → (s : ℕ) → Sub s a → s < x → s ≤ z)

-- every choice of letters of a is to come
abbrev pub all_choices : ℕ → Choices
all_choices a = record { letters = a; next = Some a }

-- the choice to come is given, and what follows it comes next
abbrev pub GivesChoice : Choices → Option ℕ → Choices → Type 0
GivesChoice s None t = (s.next ≡ None) × (t.next ≡ None)
GivesChoice s (Some x) t = (s.next ≡ Some x) × (t.letters ≡ s.letters) × NextSub x s.letters t.next

-- at most how many choices are left, where this one is to come
abbrev pub choices_left : Option ℕ → ℕ
choices_left None = 0
choices_left (Some x) = x + 1

-- does p hold of a number from 0 to n?
unfoldable pub some_to : ℕ → (ℕ → Bool) → Bool
some_to zero p = p zero
some_to (suc n) p = p (suc n) || some_to n p

-- does a choice among the masks up to a and b break the claim and no line?
abbrev pub countered : ℕ → ℕ → Clause → List Clause → Bool
countered a b c cs = some_to b (λ y. some_to a (λ x. counter_at x y c cs))

abbrev pub is_ever : Clause → Bool
is_ever (Initial _) = false
is_ever (Global _ _) = true
is_ever (Eventuality _ _) = false
is_ever (Assumption _) = true
is_ever (Never _ _) = false

abbrev pub all_ever : List Clause → Bool
all_ever cs = list_all is_ever cs

-- has a claim a letter above 59?
abbrev pub wide_claim : Claim → Bool
wide_claim e = reaches 60 e.now || reaches 60 e.next

abbrev pub early_trial : Claim → ℕ → Option Refusal
early_trial e n = cond (wide_claim e) (Some LetterRange) (cond (n == 0 || nat_lt 4 n) (Some WrongCount) None)

-- early lets no wide claim and no more than four lines through
abbrev pub suited : Claim → List Clause → Bool
suited e cs = not (wide_claim e) && (nat_le (length cs) 4 && all_ever cs)

abbrev pub late_trial : Claim → List Clause → Outcome
late_trial e cs = cond (suited e cs)
    (cond (nat_lt 10 (atoms e cs)) (refuses TooManyAtoms)
    (cond (countered (now_atoms e cs) (next_atoms e cs) (claimed e) cs) (refuses Counterexample)
    (gives (globally e.now e.next) (replicate (length cs) here))))
    (refuses WrongKind)
