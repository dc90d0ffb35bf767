-- Letters of one world, told one by one.
use Rattle.std.proofs.Common.{◌≡◌, ℕ, ◌+◌, ◌<◌, ◌≤◌, Bool, cond, ◌&&◌, eqb, ltb, sym, refl, ap, ◌∙◌, ⊎_elim, arith}
use Rattle.std.proofs.lemmas.Bool.{eq-eqb, ne_eqb, lt-ltb, le-ltb, cases_eq, cases_lt, cond-false, and_left, and_right}

pub none_told : (x : ℕ → ℕ → Bool) (n : ℕ) (f : ℕ → Bool) (i m : ℕ) → x i m ≡ cond (eqb i n && ltb m 0) (f m) (x i m)
none_told x n f i m = ⊎_elim
    (λ e. rw (eq-eqb i n e, le-ltb m 0 (omega arith)) refl)
    (λ e. rw (ne_eqb i n e) refl)
    (cases_eq i n)

here : (x y z : ℕ → ℕ → Bool) (n k : ℕ) (f : ℕ → Bool) (i m : ℕ) → i ≡ n → x i m ≡ cond (eqb i n && ltb m k) (f m) (z i m) → y i m ≡ cond (eqb i n && eqb m k) (f k) (x i m)
    → y i m ≡ cond (eqb i n && ltb m (k + 1)) (f m) (z i m)
here x y z n k f i m e a b = ⊎_elim
    (λ q. b ∙ rw (eq-eqb i n e, eq-eqb m k q, lt-ltb m (k + 1) (omega arith)) (ap f (sym q)))
    (λ q. ⊎_elim
    (λ l. let l' : m < k + 1 = omega arith in same_step q ∙ a ∙ ap (λ (t : Bool). cond (eqb i n && t) (f m) (z i m)) (lt-ltb m k l ∙ sym (lt-ltb m (k + 1) l')))
    (λ l. let l' : k + 1 ≤ m = omega (arith, l, q) in same_step q ∙ a ∙ ap (λ (t : Bool). cond (eqb i n && t) (f m) (z i m)) (le-ltb m k l ∙ sym (le-ltb m (k + 1) l')))
    (cases_lt m k))
    (cases_eq m k) where
      same_step : (m ≡ k → ⊥) → y i m ≡ x i m
      same_step q = b ∙ cond-false (eqb i n && eqb m k) (f k) (x i m) (and_right (eqb i n) (eqb m k) (ne_eqb m k q))

pub more_told : (x y z : ℕ → ℕ → Bool) (n k : ℕ) (f : ℕ → Bool) → ((i m : ℕ) → x i m ≡ cond (eqb i n && ltb m k) (f m) (z i m)) → ((i m : ℕ) → y i m ≡ cond (eqb i n && eqb m k) (f k) (x i m))
    → (i m : ℕ) → y i m ≡ cond (eqb i n && ltb m (k + 1)) (f m) (z i m)
more_told x y z n k f a b i m = ⊎_elim
    (λ e. here x y z n k f i m e (a i m) (b i m))
    (λ e. b i m ∙ cond-false (eqb i n && eqb m k) (f k) (x i m) (and_left (eqb i n) (eqb m k) (ne_eqb i n e)) ∙ a i m
    ∙ cond-false (eqb i n && ltb m k) (f m) (z i m) (and_left (eqb i n) (ltb m k) (ne_eqb i n e)) ∙ sym (cond-false (eqb i n && ltb m (k + 1)) (f m) (z i m) (and_left (eqb i n) (ltb m (k + 1)) (ne_eqb i n e))))
    (cases_eq i n)
