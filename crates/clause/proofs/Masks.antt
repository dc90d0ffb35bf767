-- The bits of masks.
use Rattle.std.proofs.Common.{◌≡◌, ℕ, zero, suc, ◌+◌, ◌-◌, ◌/◌, ◌%◌, ◌^◌, ◌<◌, ◌≤◌, min, max, eqb, nat_lt, ◌⊎◌, sym, refl, ap, ◌∙◌, inl, inr, ⊎_elim, div-le_self, div-one, arith, pow-add}
use native.Mathlib.Nat.{pow-succ', div-div-eq-div-mul, zero-div}
use lib.Bits.{bit_and, bit_or, bit_xor, differ, and_step, or_step, xor_step, and_le_l}
use Rattle.std.proofs.lemmas.Nat.{and_shr, or_shr, xor_shr}
use Rattle.std.proofs.lemmas.Bool.{cases_lt, cases_eq, lt-ltb, ltb-true, eqb-true}
use Rattle.std.proofs.Math.Nat.{div-eq_of_lt, div-lt_iff_lt-mul}
use Rattle.clause.proofs.Telling.{same_tests}
use Rattle.clause.specs.Bit.{bit, In}

pub bit_lt : (n k : ℕ) → bit n k < 2
unfolding bit
bit_lt n k = omega arith

pub bit-bit_or : (a b k : ℕ) → bit (bit_or a b) k ≡ max (bit a k) (bit b k)
unfolding bit
bit-bit_or a b k = ap (λ n. n % 2) (or_shr a b k ∙ or_step (a / 2 ^ k) (b / 2 ^ k)) ∙ omega arith

pub bit-bit_and : (a b k : ℕ) → bit (bit_and a b) k ≡ min (bit a k) (bit b k)
unfolding bit
bit-bit_and a b k = ap (λ n. n % 2) (and_shr a b k ∙ and_step (a / 2 ^ k) (b / 2 ^ k)) ∙ omega arith

-- the lowest bit, and the bits above it
pub bit_zero : (n : ℕ) → bit n 0 ≡ n % 2
unfolding bit
bit_zero n = ap (λ m. m % 2) (div-one n)

pub bit_suc : (n k : ℕ) → bit n (suc k) ≡ bit (n / 2) k
unfolding bit
bit_suc n k = ap (λ m. m % 2) (ap (λ e. n / e) (pow-succ' 2 k) ∙ sym (div-div-eq-div-mul n 2 (2 ^ k)))

pub zero_bit : (k : ℕ) → bit 0 k ≡ 0
unfolding bit
zero_bit k = ap (λ m. m % 2) (zero-div (2 ^ k))

-- a number is known by its bits
pub bits_same : (n a b : ℕ) → a < 2 ^ n → b < 2 ^ n → ((k : ℕ) → bit a k ≡ bit b k) → a ≡ b
bits_same zero a b p q h = omega arith
bits_same (suc n) a b p q h =
    let w = pow-succ' 2 n in
    let halves : a / 2 ≡ b / 2 = bits_same n (a / 2) (b / 2) (omega arith) (omega arith) (λ k. sym (bit_suc a k) ∙ h (suc k) ∙ bit_suc b k) in
    let low : a % 2 ≡ b % 2 = sym (bit_zero a) ∙ h 0 ∙ bit_zero b in
    omega arith

-- the complement below 2 ^ n
pub bit_not : (n b k : ℕ) → b < 2 ^ n → k < n → bit ((2 ^ n - 1) - b) k ≡ 1 - bit b k
bit_not zero b k p q = absurd (omega arith)
bit_not (suc n) b zero p q = let w = pow-succ' 2 n in bit_zero ((2 ^ suc n - 1) - b) ∙ omega (arith, bit_zero b)
bit_not (suc n) b (suc k) p q =
    let w = pow-succ' 2 n in
    let half : ((2 ^ suc n - 1) - b) / 2 ≡ (2 ^ n - 1) - b / 2 = omega arith in
    bit_suc ((2 ^ suc n - 1) - b) k ∙ ap (λ m. bit m k) half ∙ bit_not n (b / 2) k (omega arith) (omega arith) ∙ ap (λ m. 1 - m) (sym (bit_suc b k))

pub bit_high : (n a k : ℕ) → a < 2 ^ n → n ≤ k → bit a k ≡ 0
bit_high zero a k p q = let z : a ≡ 0 = omega arith in ap (λ m. bit m k) z ∙ zero_bit k
bit_high (suc n) a zero p q = absurd (omega arith)
bit_high (suc n) a (suc k) p q = let w = pow-succ' 2 n in bit_suc a k ∙ bit_high n (a / 2) k (omega arith) (omega arith)

pub bit_pow : (k : ℕ) → bit (2 ^ k) k ≡ 1
bit_pow zero = bit_zero 1
bit_pow (suc k) = let w = pow-succ' 2 k in let half : 2 ^ suc k / 2 ≡ 2 ^ k = omega arith in bit_suc (2 ^ suc k) k ∙ ap (λ m. bit m k) half ∙ bit_pow k

pub bit_pow_other : (k j : ℕ) → (j ≡ k → ⊥) → bit (2 ^ k) j ≡ 0
bit_pow_other zero zero h = absurd (h refl)
bit_pow_other zero (suc j) h = bit_suc 1 j ∙ zero_bit j
bit_pow_other (suc k) zero h = let w = pow-succ' 2 k in bit_zero (2 ^ suc k) ∙ omega arith
bit_pow_other (suc k) (suc j) h =
    let w = pow-succ' 2 k in
    let half : 2 ^ suc k / 2 ≡ 2 ^ k = omega arith in
    bit_suc (2 ^ suc k) j ∙ ap (λ m. bit m j) half ∙ bit_pow_other k j (λ e. h (ap suc e))

-- what `a & b == a` says
pub within_from : (a b : ℕ) → bit_and a b ≡ a → ((k : ℕ) → In k a → In k b)
within_from a b e j h = omega (arith, bit-bit_and a b j, ap (λ m. bit m j) e, bit_lt b j)

pub within_to : (n a b : ℕ) → a < 2 ^ n → ((k : ℕ) → In k a → In k b) → bit_and a b ≡ a
within_to n a b p h = bits_same n (bit_and a b) a (omega (arith, and_le_l a b)) p (λ k. bit-bit_and a b k ∙ least (bit a k) (bit b k) (bit_lt a k) (bit_lt b k) (h k))
  where
    least : (x y : ℕ) → x < 2 → y < 2 → (x ≡ 1 → y ≡ 1) → min x y ≡ x
    least x y p q h = grind arith

-- `a & !b` at 64 bits
pub bit_rest : (a b j : ℕ) → a < 2 ^ 64 → b < 2 ^ 64 → bit (bit_and a (18446744073709551615 - b)) j ≡ bit a j - bit b j
bit_rest a b j p q = bit-bit_and a _ j ∙ ⊎_elim (λ h. omega (arith, bit_not 64 b j q h, bit_lt a j, bit_lt b j)) (λ h. omega (arith, bit_high 64 a j p h)) (cases_lt j 64)

differ_is : (x y : ℕ) → x < 2 → y < 2 → differ x y ≡ max x y - min x y
differ_is zero y p q = omega arith
differ_is (suc x) zero p q = omega arith
differ_is (suc x) (suc y) p q = differ_is x y (omega arith) (omega arith) ∙ omega arith

pub bit-bit_xor : (a b k : ℕ) → bit (bit_xor a b) k ≡ max (bit a k) (bit b k) - min (bit a k) (bit b k)
unfolding bit
bit-bit_xor a b k =
    ap (λ n. n % 2) (xor_shr a b k ∙ xor_step (a / 2 ^ k) (b / 2 ^ k)) ∙ omega (arith, differ_is (a / 2 ^ k % 2) (b / 2 ^ k % 2) (omega arith) (omega arith))

-- `a ^ (a & b)`
pub bit_less : (a b k : ℕ) → bit (bit_xor a (bit_and a b)) k ≡ bit a k - bit b k
bit_less a b k = bit-bit_xor a (bit_and a b) k ∙ omega (arith, bit-bit_and a b k, bit_lt a k, bit_lt b k)

-- a number that is not 0 has a bit
pub some_bit : (n a : ℕ) → a < 2 ^ n → 0 < a → (j : ℕ) × In j a
some_bit zero a p q = absurd (omega arith)
some_bit (suc n) a p q =
    let w = pow-succ' 2 n in
    ⊎_elim (λ e. (0, bit_zero a ∙ e))
    (λ e. let r = some_bit n (a / 2) (omega arith) (omega arith) in (suc r.0, bit_suc a r.0 ∙ r.1))
    (parity a)
  where
    parity : (a : ℕ) → (a % 2 ≡ 1) ⊎ (a % 2 ≡ 0)
    parity a = grind arith

-- letters in masks
pub in_pow : (k : ℕ) → In k (2 ^ k)
in_pow k = bit_pow k

pub not_in_zero : (k : ℕ) → ¬ In k 0
not_in_zero k h = omega (arith, zero_bit k)

pub in_left : (a b k : ℕ) → In k a → In k (bit_or a b)
in_left a b k h = omega (arith, bit-bit_or a b k, bit_lt b k)

pub in_right : (a b k : ℕ) → In k b → In k (bit_or a b)
in_right a b k h = omega (arith, bit-bit_or a b k, bit_lt a k)

pub in_either : (a b k : ℕ) → In k (bit_or a b) → In k a ⊎ In k b
in_either a b k h = ⊎_elim (λ e. inl e) (λ e. inr (omega (arith, bit-bit_or a b k, bit_lt a k, bit_lt b k))) (cases_eq (bit a k) 1)

-- the bits from m on are those of the number shifted by m
pub bit_shift : (n m k : ℕ) → bit (n / 2 ^ m) k ≡ bit n (m + k)
unfolding bit
bit_shift n m k = ap (λ q. q % 2) (div-div-eq-div-mul n (2 ^ m) (2 ^ k) ∙ ap (λ e. n / e) (sym (pow-add 2 m k)))

pub shifted_some : (n a m : ℕ) → a < 2 ^ n → ¬ (a / 2 ^ (m + 1) ≡ 0) → (k : ℕ) × (m < k) × In k a
shifted_some n a m h z =
    let w = some_bit n (a / 2 ^ (m + 1)) (omega (arith, div-le_self a (2 ^ (m + 1)))) (omega arith) in
    (m + 1 + w.0, omega arith, sym (bit_shift a (m + 1) w.0) ∙ w.1)

pub shifted_none : (a m : ℕ) → a / 2 ^ (m + 1) ≡ 0 → (k : ℕ) → m < k → ¬ In k a
shifted_none a m z k h b =
    let e : m + 1 + (k - (m + 1)) ≡ k = omega arith in
    omega (arith, bit_shift a (m + 1) (k - (m + 1)), ap (λ q. bit q (k - (m + 1))) z, zero_bit (k - (m + 1)), ap (bit a) e)

-- a mask shifted out has no bit that high
pub gone : (a p : ℕ) → 0 < p → eqb (a / p) 0 ≡ nat_lt a p
gone a p h = same_tests _ _
    (λ e. lt-ltb a p (let q = eqb-true (a / p) 0 e in omega (arith, (div-lt_iff_lt-mul {k = p} {x = a} {y = 1} h).0)))
    (λ e. ap (λ q. eqb q 0) (div-eq_of_lt (ltb-true a p e)))

pub in_below : (n a k : ℕ) → a < 2 ^ n → In k a → k < n
in_below n a k h b = ⊎_elim (λ l. l) (λ l. absurd (omega (arith, bit_high n a k h l))) (cases_lt k n)

pub disjoint_from : (a b : ℕ) → bit_and a b ≡ 0 → (k : ℕ) → In k a → In k b → ⊥
disjoint_from a b e k p q = omega (arith, bit-bit_and a b k, ap (λ m. bit m k) e, zero_bit k)

pub disjoint_to : (n a b : ℕ) → a < 2 ^ n → ((k : ℕ) → In k a → In k b → ⊥) → bit_and a b ≡ 0
disjoint_to n a b p h = ⊎_elim
    (λ z. z)
    (λ z. let w = some_bit n (bit_and a b) (omega (arith, and_le_l a b)) (omega arith) in
    absurd (h w.0 (omega (arith, bit-bit_and a b w.0, w.1, bit_lt a w.0)) (omega (arith, bit-bit_and a b w.0, w.1, bit_lt b w.0))))
    (cases_eq (bit_and a b) 0)

-- a letter noted in a mask
pub in_noted : (w k j : ℕ) → In j (bit_or w (2 ^ k)) → ¬ (j ≡ k) → In j w
in_noted w k j h n = omega (arith, bit-bit_or w (2 ^ k) j, bit_pow_other k j n)
