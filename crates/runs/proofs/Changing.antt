-- Letters of a world changed one at a time.
use Rattle.std.proofs.Common.{◌≡◌, ℕ, ◌^◌, ◌<◌, Bool, true, false, cond, eqb, List, length, get_or, set, replicate, refl, ap, ◌∙◌, ⊎_elim, arith}
use lib.Bits.{bit_and, bit_or, bit_xor}
use Rattle.std.proofs.lemmas.Bool.{cases_eq, cases_lt, eq-eqb, ne_eqb}
use Rattle.std.proofs.lemmas.List.{get_or-replicate, get_or_past, get_or-set_same, get_or-set_other, length-replicate}
use Rattle.clause.specs.Bit.{bit}
use Rattle.clause.proofs.Masks.{bit-bit_or, bit_less, bit_pow, bit_pow_other, bit_lt, zero_bit}
use Rattle.runs.specs.declared.world.World.{World}
use Rattle.runs.specs.Table.{letter_in, Changed}

pub with_letter : (a k m : ℕ) → eqb (bit (bit_or a (2 ^ k)) m) 1 ≡ cond (eqb m k) true (eqb (bit a m) 1)
with_letter a k m = ⊎_elim
    (λ e. rw (eq-eqb m k e) (eq-eqb _ 1 (omega (arith, bit-bit_or a (2 ^ k) m, ap (bit (2 ^ k)) e, bit_pow k, bit_lt a m))))
    (λ n. rw (ne_eqb m k n) (ap (λ b. eqb b 1) (omega (arith, bit-bit_or a (2 ^ k) m, bit_pow_other k m n))))
    (cases_eq m k)

pub without_letter : (a k m : ℕ) → eqb (bit (bit_xor a (bit_and a (2 ^ k))) m) 1 ≡ cond (eqb m k) false (eqb (bit a m) 1)
without_letter a k m = ⊎_elim
    (λ e. rw (eq-eqb m k e) (ne_eqb _ 1 (λ q. omega (arith, bit_less a (2 ^ k) m, ap (bit (2 ^ k)) e, bit_pow k, bit_lt a m))))
    (λ n. rw (ne_eqb m k n) (ap (λ b. eqb b 1) (omega (arith, bit_less a (2 ^ k) m, bit_pow_other k m n))))
    (cases_eq m k)

-- one world changed is the table changed
pub world_changed : (ws : List World) (i k : ℕ) (b : Bool) (w : World) → i < length ws
    → ((m : ℕ) → eqb (bit w.letters m) 1 ≡ cond (eqb m k) b (eqb (bit (get_or ws i (record { letters = 0 })).letters m) 1)) → Changed i k b ws (set ws i w)
world_changed ws i k b w h f j m = ⊎_elim
    (λ e. rw (eq-eqb j i e, e, get_or-set_same ws i w (record { letters = 0 }) h) (f m))
    (λ n. rw (ne_eqb j i n, get_or-set_other ws i j w (record { letters = 0 }) n) refl)
    (cases_eq j i)

pub always : {X : Type 0} (n i : ℕ) (x : X) → get_or (replicate n x) i x ≡ x
always n i x = ⊎_elim (λ h. get_or-replicate n i x x h) (λ h. get_or_past (replicate n x) i x (rw (length-replicate n x) h)) (cases_lt i n)

pub all_no : (n i k : ℕ) → letter_in (replicate n (record { letters = 0 })) i k ≡ false
all_no n i k = ap (λ (w : World). eqb (bit w.letters k) 1) (always n i (record { letters = 0 })) ∙ ne_eqb _ 1 (λ e. omega (arith, zero_bit k))
