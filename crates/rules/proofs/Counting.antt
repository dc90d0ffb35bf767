-- The number of atoms.
use Rattle.std.proofs.Common.{◌≡◌, ℕ, zero, suc, ◌+◌, ◌/◌, ◌^◌, ◌<◌, max, Bool, cond, ◌||◌, eqb, List, [], ◌∷◌, sym, refl, ap, ◌∙◌, arith}
use native.Mathlib.Nat.{pow-succ'}
use lib.Bits.{bit_or}
use lib.Count.{ones, ones_step}
use Rattle.std.proofs.Math.Bool.{or_assoc, or-false}
use Rattle.std.proofs.lemmas.Bool.Decides.{nat_tests}
use Rattle.std.specs.List.{list_any}
use Rattle.clause.specs.declared.syntax.LitSet.{LitSet}
use Rattle.clause.specs.declared.syntax.Clause.{Clause}
use Rattle.clause.specs.Bit.{bit}
use Rattle.clause.proofs.Masks.{bit-bit_or, bit_lt, bit_zero, bit_suc}
use Rattle.clause.specs.Sets.{letters_of, now_of, next_of}
use Rattle.rules.specs.declared.trial.Claim.{Claim}
use Rattle.rules.specs.Trying.{claimed, occurs, how_many, atoms}
use Rattle.rules.specs.Deciding.{letters_with, now_atoms, next_atoms}

many_same : (n : ℕ) (p q : ℕ → Bool) → ((k : ℕ) → p k ≡ q k) → how_many n p ≡ how_many n q
unfolding how_many
many_same zero p q h = refl
many_same (suc n) p q h = λ i. cond (h n i) 1 0 + many_same n p q h i

many_low : (n : ℕ) (p : ℕ → Bool) → how_many (suc n) p ≡ cond (p 0) 1 0 + how_many n (λ k. p (suc k))
unfolding how_many
many_low zero p = refl
many_low (suc n) p = omega (arith, many_low n p)

low_bit : (b : ℕ) → b < 2 → b ≡ cond (eqb b 1) 1 0
low_bit b h = grind (arith, nat_tests)

-- the ones of a mask are its letters
ones_many : (n m : ℕ) → m < 2 ^ n → ones m ≡ how_many n (λ k. eqb (bit m k) 1)
unfolding ones how_many
ones_many zero m h = let z : m ≡ 0 = omega arith in ap ones z
ones_many (suc n) m h =
    let w = pow-succ' 2 n in
    let t = many_same n (λ k. eqb (bit (m / 2) k) 1) (λ k. eqb (bit m (suc k)) 1) (λ k. ap (λ b. eqb b 1) (sym (bit_suc m k))) in
    let l = low_bit (bit m 0) (bit_lt m 0) in
    ones_step m ∙ omega (arith, ones_many n (m / 2) (omega arith), t, l, bit_zero m) ∙ sym (many_low n (λ k. eqb (bit m k) 1))

either_bit : (a b : ℕ) → a < 2 → b < 2 → eqb (max a b) 1 ≡ eqb a 1 || eqb b 1
either_bit a b p q = grind (arith, nat_tests)

or_bit : (a b k : ℕ) → eqb (bit (bit_or a b) k) 1 ≡ eqb (bit a k) 1 || eqb (bit b k) 1
or_bit a b k = ap (λ n. eqb n 1) (bit-bit_or a b k) ∙ either_bit (bit a k) (bit b k) (bit_lt a k) (bit_lt b k)

with_bit : (part : Clause → LitSet) (m k : ℕ) (cs : List Clause) → eqb (bit (letters_with part m cs) k) 1 ≡ eqb (bit m k) 1 || list_any (λ c. occurs k (part c)) cs
with_bit part m k [] = sym (or-false (eqb (bit m k) 1))
with_bit part m k (c ∷ cs) = with_bit part (bit_or m (letters_of (part c))) k cs
    ∙ ap (λ b. b || list_any (λ c. occurs k (part c)) cs) (or_bit m (letters_of (part c)) k ∙ ap (λ b. eqb (bit m k) 1 || b) (or_bit (part c).plus (part c).minus k))
    ∙ or_assoc (eqb (bit m k) 1) (occurs k (part c)) (list_any (λ c. occurs k (part c)) cs)

part_count : (part : Clause → LitSet) (c : Clause) (cs : List Clause) (a : ℕ) → a < 2 ^ 64 → a ≡ letters_with part (letters_of (part c)) cs
    → ones a ≡ how_many 64 (λ k. list_any (λ d. occurs k (part d)) (c ∷ cs))
part_count part c cs a h q = ones_many 64 a h
    ∙ many_same 64 _ _ (λ k. ap (λ n. eqb (bit n k) 1) q ∙ with_bit part (letters_of (part c)) k cs ∙ ap (λ b. b || list_any (λ d. occurs k (part d)) cs) (or_bit (part c).plus (part c).minus k))

pub atoms_count : (e : Claim) (cs : List Clause) (a b : ℕ) → a < 2 ^ 64 → b < 2 ^ 64 → a ≡ now_atoms e cs → b ≡ next_atoms e cs → ones a + ones b ≡ atoms e cs
atoms_count e cs a b g h p q = λ i. part_count now_of (claimed e) cs a g p i + part_count next_of (claimed e) cs b h q i
