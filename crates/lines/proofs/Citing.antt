-- Tests of the elements of a list, and of the lines that are named.
use Rattle.std.proofs.Common.{◌≡◌, ℕ, zero, suc, ◌+◌, ◌/◌, ◌%◌, ◌^◌, ◌<◌, Bool, true, false, cond, ◌||◌, ◌⊎◌, List, [], ◌∷◌, length, get_or, MatchBool, sym, refl, ap, ◌∙◌, subst, inl, inr, ⊎_elim, arith}
use native.Mathlib.Nat.{pow-succ'}
use Rattle.std.proofs.lemmas.Bool.{true≢false, eqb-true, eq-eqb}
use Rattle.std.specs.List.{HoldsAt, AllWithin, list_any, zip, range_with_len}
use Rattle.clause.specs.Tests.{Tells}
use Rattle.clause.specs.Bit.{bit, In}
use Rattle.clause.proofs.Masks.{bit_zero, bit_suc}
use Rattle.rules.specs.Books.{Mark, here, everywhere, marks_of}
use Rattle.protocol.specs.State.{Line, line_at, any_resting}
use Rattle.protocol.specs.Causes.{SomeIn, RestEverywhere}

module _ {X : Type 0} (P : X → Type 0) where
  some_at : (xs : List X) (i : ℕ) → i < length xs → HoldsAt P xs i → SomeIn P xs
  some_at [] i h p = absurd (omega arith)
  some_at (x ∷ xs) zero h p = inl (p x)
  some_at (x ∷ xs) (suc i) h p = inr (some_at xs i (omega arith) p)

  none_in : (xs : List X) → ((i : ℕ) → i < length xs → HoldsAt (λ x. ¬ P x) xs i) → ¬ SomeIn P xs
  none_in (x ∷ xs) f (inl p) = f 0 (omega arith) x p
  none_in (x ∷ xs) f (inr p) = none_in xs (λ i h. f (suc i) (omega arith)) p
  none_in [] f p = p

  pub none_at : (xs : List X) → ¬ SomeIn P xs → (i : ℕ) (d : X) → i < length xs → ¬ P (get_or xs i d)
  none_at [] n i d h p = absurd (omega arith)
  none_at (x ∷ xs) n zero d h p = n (inl p)
  none_at (x ∷ xs) n (suc i) d h p = none_at xs (λ q. n (inr q)) i d (omega arith) p

  -- what `any` answered
  pub any_tells : (r : Bool) (xs : List X) → MatchBool r ((k : ℕ) × (k < length xs) × HoldsAt P xs k) (AllWithin (λ x. ¬ P x) xs 0 (length xs)) → Tells r (SomeIn P xs)
  any_tells true xs (k, h, p) = some_at xs k h p
  any_tells false xs f = none_in xs (λ i h d. f i d (omega arith) h)

pub any_resting_is : (ls : List Line) (ns : List ℕ) → list_any (λ n. (line_at ls n).resting) ns ≡ any_resting ls ns
any_resting_is ls [] = refl
any_resting_is ls (n ∷ ns) = ap (λ b. (line_at ls n).resting || b) (any_resting_is ls ns)

-- lines marked everywhere
rest_in : (ls : List Line) (c : ℕ) (ns : List ℕ) (b : Bool) (ms : List Mark) → ((b ≡ true) × ((line_at ls c).resting ≡ true)) ⊎ RestEverywhere ls ns ms → RestEverywhere ls (c ∷ ns) (cond b everywhere here ∷ ms)
rest_in ls c ns true ms (inl p) = inl p.1
rest_in ls c ns true ms (inr r) = inr r
rest_in ls c ns false ms (inl p) = absurd (true≢false (sym p.0))
rest_in ls c ns false ms (inr r) = r

rest_out : (ls : List Line) (c : ℕ) (ns : List ℕ) (b : Bool) (ms : List Mark) → RestEverywhere ls (c ∷ ns) (cond b everywhere here ∷ ms) → ((b ≡ true) × ((line_at ls c).resting ≡ true)) ⊎ RestEverywhere ls ns ms
rest_out ls c ns true ms (inl p) = inl (refl, p)
rest_out ls c ns true ms (inr r) = inr r
rest_out ls c ns false ms r = inr r

none_rest : (ls : List Line) (ns : List ℕ) → ¬ RestEverywhere ls ns (marks_of (length ns) 0)
none_rest ls [] r = r
none_rest ls (c ∷ ns) r = none_rest ls ns r

-- the bits of m from place a on are those of x
module _ (ls : List Line) (m : ℕ) where
  abbrev pub Resting : ℕ × ℕ → Type 0
  Resting p = In p.0 m × ((line_at ls p.1).resting ≡ true)

  abbrev Shifted : ℕ → ℕ → Type 0
  Shifted a x = (j : ℕ) → bit x j ≡ bit m (a + j)

  shifted_more : (a x : ℕ) → Shifted a x → Shifted (a + 1) (x / 2)
  shifted_more a x e j = let z : a + suc j ≡ (a + 1) + j = omega arith in sym (bit_suc x j) ∙ e (suc j) ∙ ap (bit m) z

  shifted_low : (a x : ℕ) → Shifted a x → x % 2 ≡ bit m a
  shifted_low a x e = let z : a + 0 ≡ a = omega arith in sym (bit_zero x) ∙ e 0 ∙ ap (bit m) z

  rest_from : (k a x : ℕ) (ns : List ℕ) → Shifted a x → SomeIn Resting (zip (range_with_len a k) ns) → RestEverywhere ls ns (marks_of (length ns) x)
  rest_from zero a x ns e p = absurd p
  rest_from (suc k) a x [] e p = absurd p
  rest_from (suc k) a x (c ∷ ns) e (inl p) = rest_in ls c ns _ _ (inl (eq-eqb (x % 2) 1 (shifted_low a x e ∙ p.0), p.1))
  rest_from (suc k) a x (c ∷ ns) e (inr p) = rest_in ls c ns _ _ (inr (rest_from k (a + 1) (x / 2) ns (shifted_more a x e) p))

  rest_to : (k a x : ℕ) (ns : List ℕ) → Shifted a x → x < 2 ^ k → RestEverywhere ls ns (marks_of (length ns) x) → SomeIn Resting (zip (range_with_len a k) ns)
  rest_to k a x [] e h r = absurd r
  rest_to zero a x (c ∷ ns) e h r = let z : x ≡ 0 = omega arith in absurd (none_rest ls (c ∷ ns) (subst (λ y. RestEverywhere ls (c ∷ ns) (marks_of (length (c ∷ ns)) y)) z r))
  rest_to (suc k) a x (c ∷ ns) e h r =
      let w = pow-succ' 2 k in
      ⊎_elim
      (λ q. inl (sym (shifted_low a x e) ∙ eqb-true (x % 2) 1 q.0, q.1))
      (λ q. inr (rest_to k (a + 1) (x / 2) ns (shifted_more a x e) (omega arith) q))
      (rest_out ls c ns _ _ r)

  shifted_none : Shifted 0 m
  shifted_none j = let z : j ≡ 0 + j = omega arith in ap (bit m) z

  pub rest_tells : (ns : List ℕ) (r : Bool) → m < 2 ^ 8 → Tells r (SomeIn Resting (zip (range_with_len 0 8) ns)) → Tells r (RestEverywhere ls ns (marks_of (length ns) m))
  rest_tells ns true h t = rest_from 8 0 m ns shifted_none t
  rest_tells ns false h t = λ q. t (rest_to 8 0 m ns shifted_none h q)
