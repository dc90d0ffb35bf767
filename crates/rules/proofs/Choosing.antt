-- The choices among the letters of a mask, from all of them down to none.
use Rattle.std.proofs.Common.{◌≡◌, ℕ, zero, suc, ◌-◌, ◌/◌, ◌%◌, ◌^◌, ◌<◌, ◌≤◌, Some, None, Option, sym, refl, ap, ◌∙◌, subst, ⊎_elim, arith}
use native.Mathlib.Nat.{pow-succ'}
use lib.Bits.{bit_and, and_step, and_le_l, and_le_r, and_self}
use Rattle.std.proofs.lemmas.Bool.{cases_eq, cases_order}
use Rattle.clause.proofs.Masks.{bit-bit_and, bit_lt, within_to}
use Rattle.rules.specs.declared.trial.Choices.{Choices}
use Rattle.rules.specs.Deciding.{Sub, NextSub, all_choices, GivesChoice, choices_left}
use Rattle.rules.specs.TryingSound.{below_power}

-- of the masks of letters of a below one of them, x, (x - 1) & a is the greatest
sub_half : (s a : ℕ) → Sub s a → Sub (s / 2) (a / 2)
sub_half s a h = omega (arith, and_step s a)

greatest : (n a x s : ℕ) → x < 2 ^ n → Sub x a → Sub s a → s < x → s ≤ bit_and (x - 1) a
greatest zero a x s b h g l = absurd (omega arith)
greatest (suc n) a x s b h g l =
    let w = pow-succ' 2 n in
    ⊎_elim
    (λ o. let e : (x - 1) / 2 ≡ x / 2 = omega arith in
    omega (arith, and_step (x - 1) a, ap (λ m. bit_and m (a / 2)) e, sub_half x a h))
    (λ o. let z : x % 2 ≡ 0 = omega arith in let e : (x - 1) / 2 ≡ x / 2 - 1 = omega arith in
    omega (arith, and_step (x - 1) a, and_step s a, ap (λ m. bit_and m (a / 2)) e, greatest n (a / 2) (x / 2) (s / 2) (omega arith) (sub_half x a h) (sub_half s a g) (omega arith)))
    (cases_eq (x % 2) 1)

sub_and : (m a : ℕ) → Sub (bit_and m a) a
sub_and m a = within_to m (bit_and m a) a (omega (arith, and_le_l m a, below_power m)) (λ k h. omega (arith, h, bit-bit_and m a k, bit_lt m k, bit_lt a k))

pub next_sub : (x a : ℕ) → 0 < x → NextSub x a (Some (bit_and (x - 1) a))
next_sub x a p = (omega (arith, and_le_l (x - 1) a), sub_and (x - 1) a, λ h s g l. greatest x a x s (below_power x) h g l)

-- P holds of each choice that was given, and the next is one
abbrev pub DoneTo : ℕ → (ℕ → Type 0) → Option ℕ → Type 0
DoneTo a P None = (z : ℕ) → Sub z a → P z
DoneTo a P (Some x) = Sub x a × ((z : ℕ) → Sub z a → x < z → P z)

abbrev pub Done : ℕ → (ℕ → Type 0) → Choices → Type 0
Done a P s = (s.letters ≡ a) × DoneTo a P s.next

pub done_start : (a : ℕ) (P : ℕ → Type 0) (s : Choices) → s ≡ all_choices a → Done a P s
done_start a P s e = subst (Done a P) (sym e) (refl, (and_self a, λ z h l. absurd (omega (arith, h, and_le_r z a))))

-- the choice that was given is one
pub given_sub : (a x : ℕ) (P : ℕ → Type 0) (s t : Choices) → Done a P s → GivesChoice s (Some x) t → Sub x a
given_sub a x P s t d g = (subst (DoneTo a P) g.0 d.1).0

-- P holds of it too
done_next : (a x : ℕ) (P : ℕ → Type 0) (o : Option ℕ) → DoneTo a P (Some x) → NextSub x a o → P x → DoneTo a P o
done_next a x P None d n p = λ z h. ⊎_elim (λ e. subst P (sym e) p) (λ e. d.1 z h (above z e)) (cases_eq z x)
  where
    above : (z : ℕ) → (z ≡ x → ⊥) → x < z
    above z e = grind (arith, n)
done_next a x P (Some y) d n p = (
  n.1,
  λ z h l. ⊎_elim (λ e. subst P (sym e) p)
      (⊎_elim (λ g. absurd (omega (arith, n.2 d.0 z h g))) (λ g. d.1 z h g)) (cases_order z x),
)

pub done_more : (a x : ℕ) (P : ℕ → Type 0) (s t : Choices) → Done a P s → GivesChoice s (Some x) t → P x → Done a P t
done_more a x P s t d g p = (g.1 ∙ d.0, done_next a x P t.next (subst (DoneTo a P) g.0 d.1) (subst (λ b. NextSub x b t.next) d.0 g.2) p)

-- none is left
pub done_all : (a : ℕ) (P : ℕ → Type 0) (s t : Choices) → Done a P s → GivesChoice s None t → (z : ℕ) → Sub z a → P z
done_all a P s t d g = subst (DoneTo a P) g.0 d.1

-- a call of next leaves fewer
pub fewer : (x : ℕ) (s t : Choices) → GivesChoice s (Some x) t → choices_left t.next < choices_left s.next
fewer x s t g = subst (λ o. choices_left t.next < choices_left o) (sym g.0) (less x s.letters t.next g.2)
  where
    less : (x a : ℕ) (o : Option ℕ) → NextSub x a o → choices_left o < choices_left (Some x)
    less x a None n = omega arith
    less x a (Some z) n = omega (arith, n.0)
