-- That resolution is a book: what it gives follows, and is within the letters of the cited lines.
use Rattle.std.specs.Prelude.{◌≡◌, ℕ, ◌+◌, ◌^◌, ◌<◌, true, false, not, List, [], ◌∷◌, Some, None, Option, ◌==◌, bit_and, bit_xor, nat_lt, refl}
use Rattle.std.proofs.Common.{sym, subst, inl, inr, ⊎_elim, arith}
use Rattle.std.proofs.lemmas.Bool.{cond_both, and_parts, eqb-true, ne_eqb, cases_eq}
use Rattle.clause.specs.declared.syntax.LitSet.{LitSet}
use Rattle.clause.specs.declared.syntax.Clause.{Clause}
use Rattle.clause.specs.declared.syntax.Clause.TheVariants.{Initial, Global, Eventuality, Assumption, Never}
use Rattle.clause.specs.declared.refusal.Refusal.{Refusal}
use Rattle.clause.specs.declared.refusal.Refusal.TheVariants.{LetterRange, WrongCount, LacksLiteral}
use Rattle.clause.specs.Bit.{bit, In}
use Rattle.clause.specs.Meaning.{Run, LetterTrue, Untrue, Unbroken, none, just, ◌∪◌}
use Rattle.clause.specs.Sets.{Over, ◌∖◌, now_of, next_of}
use Rattle.clause.proofs.Masks.{bit_less, bit_lt, bit_pow_other, zero_bit, not_in_zero, in_either}
use Rattle.clause.proofs.Truths.{untrue_left, untrue_right, untrue_none}
use Rattle.rules.specs.declared.resolution.Form.{Form}
use Rattle.rules.specs.declared.resolution.Form.TheVariants.{AtFirst, NowOnly, WithNext}
use Rattle.rules.specs.Books.{Consult, here, initially, refuses, gives}
use Rattle.rules.specs.BookLaws.{Right, right_sound, Early}
use Rattle.rules.specs.Resolving.{is_empty, form_of, read_in, with_sign, rest_of, clash, resolvent_of, settled, by_forms, late_of, early_of}

-- one letter taken out of a set, on the other side of a clash: with the letter decided, the set is untrue
-- (what is left of s is untrue, and +k is untrue: so is s)
in_less : (a b j : ℕ) → In j a → bit b j ≡ 0 → In j (bit_xor a (bit_and a b))
in_less a b j h z = omega (arith, bit_less a b j)

plus_back : (r : Run) (i k : ℕ) (s : LitSet) → (¬ LetterTrue r i k) → Untrue r i (s ∖ just (with_sign true k)) → Untrue r i s
plus_back r i k s n u j = (
  λ h. ⊎_elim (λ e. subst (λ m. ¬ LetterTrue r i m) (sym e) n) (λ e. (u j).0 (in_less s.plus (2 ^ k) j h (bit_pow_other k j e))) (cases_eq j k),
  λ h. (u j).1 (in_less s.minus 0 j h (zero_bit j)),
)

minus_back : (r : Run) (i k : ℕ) (s : LitSet) → LetterTrue r i k → Untrue r i (s ∖ just (with_sign false k)) → Untrue r i s
minus_back r i k s t u j = (
  λ h. (u j).0 (in_less s.plus 0 j h (zero_bit j)),
  λ h. ⊎_elim (λ e n. n (subst (LetterTrue r i) (sym e) t)) (λ e. (u j).1 (in_less s.minus (2 ^ k) j h (bit_pow_other k j e))) (cases_eq j k),
)

-- where what is left of two sets is untrue, one of them is
pub resolve_untrue : (r : Run) (i k : ℕ) (s t : LitSet) → Untrue r i (rest_of k s t) → (¬ Untrue r i s) → (¬ Untrue r i t) → ⊥
resolve_untrue r i k s t u a b =
    let p = untrue_left r i (s ∖ just (with_sign true k)) (t ∖ just (with_sign false k)) u in
    let q = untrue_right r i (s ∖ just (with_sign true k)) (t ∖ just (with_sign false k)) u in
    a (plus_back r i k s (λ l. b (minus_back r i k t l q)) p)

-- letters
in_less_from : (a b j : ℕ) → In j (bit_xor a (bit_and a b)) → In j a
in_less_from a b j h = omega (arith, bit_less a b j, bit_lt a j)

low_less : (n : ℕ) (s t : LitSet) → (¬ Over n s) → ¬ Over n (s ∖ t)
low_less n s t h w = h (w.0, w.1, ⊎_elim (λ e. inl (in_less_from s.plus t.plus w.0 e)) (λ e. inr (in_less_from s.minus t.minus w.0 e)) w.2)

pub low_union : (n : ℕ) (s t : LitSet) → (¬ Over n s) → (¬ Over n t) → ¬ Over n (s ∪ t)
low_union n s t h g w = ⊎_elim
    (λ e. ⊎_elim (λ d. h (w.0, w.1, inl d)) (λ d. g (w.0, w.1, inl d)) (in_either s.plus t.plus w.0 e))
    (λ e. ⊎_elim (λ d. h (w.0, w.1, inr d)) (λ d. g (w.0, w.1, inr d)) (in_either s.minus t.minus w.0 e))
    w.2

pub low_none : (n : ℕ) → ¬ Over n none
low_none n w = ⊎_elim (not_in_zero w.0) (not_in_zero w.0) w.2

low_rest : (n k : ℕ) (s t : LitSet) → (¬ Over n s) → (¬ Over n t) → ¬ Over n (rest_of k s t)
low_rest n k s t h g = low_union n (s ∖ just (with_sign true k)) (t ∖ just (with_sign false k)) (low_less n s (just (with_sign true k)) h) (low_less n t (just (with_sign false k)) g)

-- what a line of each form says where it is not broken
data Says (c : Clause) : Form → Type 0 where
  at_first : ((r : Run) (i : ℕ) → Unbroken r i c → i ≡ 0 → ¬ Untrue r i (now_of c)) → Says c (AtFirst (now_of c))
  now_only : ((r : Run) (i : ℕ) → Unbroken r i c → ¬ Untrue r i (now_of c)) → Says c (NowOnly (now_of c))
  with_next : ((r : Run) (i : ℕ) → Unbroken r i c → Untrue r i (now_of c) → ¬ Untrue r (i + 1) (next_of c)) → Says c (WithNext (now_of c) (next_of c))

abbrev SaysIf : Option Form → Clause → Type 0
SaysIf (Some f) c = Says c f
SaysIf None c = Unit {0}

pub empty_is : (x : LitSet) → is_empty x ≡ true → x ≡ none
empty_is x e = let q = and_parts (x.plus == 0) (x.minus == 0) e in λ i. record { plus = eqb-true x.plus 0 q.0 i; minus = eqb-true x.minus 0 q.1 i }

untrue_empty : (r : Run) (i : ℕ) (x : LitSet) → is_empty x ≡ true → Untrue r i x
untrue_empty r i x e = subst (Untrue r i) (sym (empty_is x e)) (untrue_none r i)

says : (c : Clause) → SaysIf (form_of c) c
says (Initial s) = at_first (λ r i u z b. u (z, b))
says (Global n x) = cond_both (is_empty x) (NowOnly n) (WithNext n x) (Says (Global n x)) (λ e. now_only (λ r i u b. u (b, untrue_empty r (i + 1) x e))) (λ e. with_next (λ r i u b d. u (b, d)))
says (Eventuality _ _) = tt
says (Assumption x) = cond_both (is_empty x) (NowOnly none) (WithNext none x) (Says (Assumption x)) (λ e. now_only (λ r i u b. u (untrue_empty r (i + 1) x e))) (λ e. with_next (λ r i u b d. u d))
says (Never _ _) = tt

plain_literal : ¬ (19 < 0)
plain_literal h = omega arith

-- a conclusion at the first moment, from now sets of which one is true then
right_initial : (k : ℕ) (x y : Clause) → ((r : Run) (i : ℕ) → Unbroken r i x → i ≡ 0 → ¬ Untrue r i (now_of x)) → ((r : Run) (i : ℕ) → Unbroken r i y → i ≡ 0 → ¬ Untrue r i (now_of y))
    → Right (x ∷ y ∷ []) (gives (initially (rest_of k (now_of x) (now_of y))) (here ∷ here ∷ []))
right_initial k x y p q = (
  refl,
  (λ a. (low_rest 59 k (now_of x) (now_of y) a.0.0 a.1.0.0, low_none 59, plain_literal)),
  λ r i u b. resolve_untrue r i k (now_of x) (now_of y) b.1 (p r i u.0 b.0) (q r i u.1.0 b.0),
)

-- what is right where two sets clash is right
right_clash : (k : ℕ) (x y : Clause) (f g : Form) → settled f g None ≡ refuses LacksLiteral → Right (x ∷ y ∷ []) (settled f g (Some (rest_of k (read_in f) (read_in g))))
    → Right (x ∷ y ∷ []) (settled f g (resolvent_of k (read_in f) (read_in g)))
right_clash k x y f g e h = cond_both (clash k (read_in f) (read_in g)) _ _ (λ o. Right (x ∷ y ∷ []) (settled f g o)) (λ _. h) (λ _. subst (Right (x ∷ y ∷ [])) (sym e) (omega arith, omega arith))

right_settled : (k : ℕ) (x y : Clause) (f g : Form) → Says x f → Says y g → Right (x ∷ y ∷ []) (settled f g (resolvent_of k (read_in f) (read_in g)))
right_settled k x y f g (at_first p) (at_first q) = right_clash k x y (AtFirst (now_of x)) (AtFirst (now_of y)) refl (right_initial k x y p q)
right_settled k x y f g (at_first p) (now_only q) = right_clash k x y (AtFirst (now_of x)) (NowOnly (now_of y)) refl (right_initial k x y p (λ r i u _. q r i u))
right_settled k x y f g (at_first p) (with_next q) = (omega arith, omega arith)
right_settled k x y f g (now_only p) (at_first q) = right_clash k x y (NowOnly (now_of x)) (AtFirst (now_of y)) refl (right_initial k x y (λ r i u _. p r i u) q)
right_settled k x y f g (now_only p) (now_only q) = right_clash k x y (NowOnly (now_of x)) (NowOnly (now_of y)) refl (
  refl,
  (λ a. (low_rest 59 k (now_of x) (now_of y) a.0.0 a.1.0.0, low_none 59, plain_literal)),
  λ r i u b. resolve_untrue r i k (now_of x) (now_of y) b.0 (p r i u.0) (q r i u.1.0),
)
right_settled k x y f g (now_only p) (with_next q) = right_clash k x y (NowOnly (now_of x)) (WithNext (now_of y) (next_of y)) refl (
  refl,
  (λ a. (a.1.0.0, low_rest 59 k (now_of x) (next_of y) a.0.0 a.1.0.1, plain_literal)),
  λ r i u b. resolve_untrue r (i + 1) k (now_of x) (next_of y) b.1 (p r (i + 1) (u.0 (i + 1))) (q r i u.1.0 b.0),
)
right_settled k x y f g (with_next p) (at_first q) = (omega arith, omega arith)
right_settled k x y f g (with_next p) (now_only q) = right_clash k x y (WithNext (now_of x) (next_of x)) (NowOnly (now_of y)) refl (
  refl,
  (λ a. (a.0.0, low_rest 59 k (next_of x) (now_of y) a.0.1 a.1.0.0, plain_literal)),
  λ r i u b. resolve_untrue r (i + 1) k (next_of x) (now_of y) b.1 (p r i u.0 b.0) (q r (i + 1) (u.1.0 (i + 1))),
)
right_settled k x y f g (with_next p) (with_next q) = right_clash k x y (WithNext (now_of x) (next_of x)) (WithNext (now_of y) (next_of y)) refl (
  refl,
  (λ a. (low_union 59 (now_of x) (now_of y) a.0.0 a.1.0.0, low_rest 59 k (next_of x) (next_of y) a.0.1 a.1.0.1, plain_literal)),
  λ r i u b. resolve_untrue r (i + 1) k (next_of x) (next_of y) b.1 (p r i u.0 (untrue_left r i (now_of x) (now_of y) b.0)) (q r i u.1.0 (untrue_right r i (now_of x) (now_of y) b.0)),
)

right_forms : (k : ℕ) (x y : Clause) (f g : Option Form) → SaysIf f x → SaysIf g y → Right (x ∷ y ∷ []) (by_forms k f g)
right_forms k x y (Some f) (Some g) p q = right_settled k x y f g p q
right_forms k x y (Some f) None p q = (omega arith, omega arith)
right_forms k x y None (Some g) p q = (omega arith, omega arith)
right_forms k x y None None p q = (omega arith, omega arith)

pub right : (k : ℕ) (cs : List Clause) → Right cs (late_of k cs)
right k [] = (omega arith, omega arith)
right k (x ∷ []) = (omega arith, omega arith)
right k (x ∷ y ∷ []) = right_forms k x y (form_of x) (form_of y) (says x) (says y)
right k (x ∷ y ∷ z ∷ cs) = (omega arith, omega arith)

pub early_right : (k n : ℕ) → Early (early_of k n)
early_right k n = cond_both (nat_lt 59 k) _ _ Early (λ _. inl refl) (λ _. cond_both (not (n == 2)) _ _ Early (λ _. inr refl) (λ _. tt))

pub early_many : (k n : ℕ) → 2 < n → (f : Refusal) × (early_of k n ≡ Some f)
early_many k n h = cond_both (nat_lt 59 k) _ _ (λ o. (f : Refusal) × (o ≡ Some f)) (λ _. (LetterRange, refl)) (λ _. (WrongCount, rw (ne_eqb n 2 (λ e. omega arith))))

-- resolution on the letter k
abbrev pub resolving : ℕ → Consult
resolving k = record {
  most = 2;
  few = omega arith;
  early = early_of k;
  early_number = λ n f e. subst Early e (early_right k n);
  too_many = early_many k;
  late = late_of k;
  late_number = λ cs f e. subst (Right cs) e (right k cs);
  all_marked = λ cs c ms e. (subst (Right cs) e (right k cs)).0;
  sound = λ cs. right_sound cs (late_of k cs) (right k cs);
  narrow = λ cs c ms a e. (subst (Right cs) e (right k cs)).1 a;
}
