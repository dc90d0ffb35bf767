-- A list cut at the first b.
use Rattle.std.proofs.Common.{◌≡◌, ℕ, ◌+◌, ◌-◌, ◌<◌, ◌≤◌, eqb, List, [], ◌∷◌, length, take, drop, Some, None, position, sym, refl, ap, ◌∙◌, ⊎_elim, arith}
use Rattle.std.specs.List.{position_or_len, onto_first}
use Rattle.std.proofs.lemmas.Bool.{lt-ltb, le-ltb, cases_lt, cases_eq, eq-eqb, ne_eqb, cond_both}
use Rattle.std.proofs.lemmas.List.{take_rest, length-drop, length-take-le}
use Rattle.std.proofs.lemmas.List.Splits.{slice_split_first}
use Rattle.forms.specs.Cuts.{split}

pub split_here : (b x : ℕ) (xs : List ℕ) → x ≡ b → split b (x ∷ xs) ≡ [] ∷ split b xs
split_here b x xs e = rw (eq-eqb x b e) refl

pub split_later : (b x : ℕ) (xs : List ℕ) → (x ≡ b → ⊥) → split b (x ∷ xs) ≡ onto_first x (split b xs)
split_later b x xs e = rw (ne_eqb x b e) refl

onto_some : (x : ℕ) (ps : List (List ℕ)) → 0 < length (onto_first x ps)
onto_some x [] = omega arith
onto_some x (p ∷ ps) = omega arith

pub split_some : (b : ℕ) (xs : List ℕ) → 0 < length (split b xs)
split_some b [] = omega arith
split_some b (x ∷ xs) = cond_both (eqb x b) ([] ∷ split b xs) (onto_first x (split b xs)) (λ ps. 0 < length ps) (λ _. omega arith) (λ _. onto_some x (split b xs))

-- how many bytes stand before the first b
place : ℕ → List ℕ → ℕ
place b xs = position_or_len (λ x. eqb x b) xs

place_some : (b i : ℕ) (xs : List ℕ) → position (λ x. eqb x b) xs ≡ Some i → (i ≡ place b xs) × (i < length xs)
unfolding place
place_some b i xs e = ⊎_elim
    (λ h. let f = rw (lt-ltb (place b xs) (length xs) h) at e in let q : i ≡ place b xs = cc in (q, omega arith))
    (λ h. let f = rw (le-ltb (place b xs) (length xs) h) at e in let z : ◌≡◌ {A = ℕ} 0 1 = cc in absurd (omega arith))
    (cases_lt (place b xs) (length xs))

place_none : (b : ℕ) (xs : List ℕ) → position (λ x. eqb x b) xs ≡ None → length xs ≤ place b xs
unfolding place
place_none b xs e = ⊎_elim
    (λ h. let f = rw (lt-ltb (place b xs) (length xs) h) at e in let z : ◌≡◌ {A = ℕ} 0 1 = cc in absurd (omega arith))
    (λ h. h)
    (cases_lt (place b xs) (length xs))

split_end : (b : ℕ) (xs : List ℕ) → length xs ≤ place b xs → split b xs ≡ xs ∷ []
unfolding place
split_end b [] h = refl
split_end b (x ∷ xs) h =
    ⊎_elim (λ e. let g = rw (eq-eqb x b e) at h in absurd (omega arith))
    (λ n. let g = rw (ne_eqb x b n) at h in split_later b x xs n ∙ ap (onto_first x) (split_end b xs (omega arith))) (cases_eq x b)

-- the pieces as code slices them
pub cut_some : (b i : ℕ) (xs : List ℕ) → position (λ x. eqb x b) xs ≡ Some i
    → (split b xs ≡ take i xs ∷ split b (take (length xs - (i + 1)) (drop (i + 1) xs))) × (length (take i xs) + 1 + length (take (length xs - (i + 1)) (drop (i + 1) xs)) ≡ length xs)
unfolding place
cut_some b i xs e =
    let q = place_some b i xs e in let n = q.1 in
    let s = slice_split_first (λ x. eqb x b) xs 0 (omega arith) in
    let f : split b xs ≡ take i xs ∷ split b (drop (i + 1) xs) = s ∙ ap (λ k. take k xs ∷ split b (drop (k + 1) xs)) (sym q.0) in
    let r = take_rest xs (i + 1) in
    (f ∙ ap (λ ys. take i xs ∷ split b ys) (sym r), omega (arith, ap length r, length-drop (i + 1) xs, length-take-le i xs (omega arith)))

pub cut_none : (b : ℕ) (xs : List ℕ) → position (λ x. eqb x b) xs ≡ None → split b xs ≡ xs ∷ []
cut_none b xs e = split_end b xs (place_none b xs e)
