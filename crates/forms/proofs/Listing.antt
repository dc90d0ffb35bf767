-- Numbers taken one by one into nine places.
use Rattle.std.proofs.Common.{◌≡◌, ℕ, suc, ◌+◌, ◌-◌, ◌<◌, ◌≤◌, min, cond, List, [], ◌∷◌, ◌++◌, length, take, set, replicate, Some, None, Option, sym, refl, ap, ◌∙◌, ⊎_elim, arith, take_all}
use Rattle.std.proofs.lemmas.Bool.{lt-ltb, le-ltb, cases_lt}
use Rattle.std.proofs.lemmas.List.{length_push, append_assoc, append-nil, set-append_right, take-append-le}
use Rattle.forms.specs.declared.lists.Numbers.{Numbers}
use Rattle.forms.specs.Fields.{and_then}
use Rattle.forms.specs.Forms.{through, number_of}
use Rattle.forms.specs.Lists.{all_numbers, first_nine, nine_of, with_number}

-- the numbers of the parts after those that were taken
abbrev with_all : List ℕ → Option (List ℕ) → Option (List ℕ)
with_all done None = None
with_all done (Some ns) = Some (done ++ ns)

with_more : (done : List ℕ) (k : ℕ) (o : Option (List ℕ)) → with_all (done ++ (k ∷ [])) o ≡ with_all done (and_then o (λ ns. Some (k ∷ ns)))
with_more done k None = refl
with_more done k (Some ns) = ap Some (append_assoc done (k ∷ []) ns)

nine_at : (done : List ℕ) (k : ℕ) → length done < 9 → set (first_nine done).at (length done) k ≡ (first_nine (done ++ (k ∷ []))).at
nine_at done k h =
    let l = length_push done k in
    ap (λ (xs : List ℕ). set (xs ++ replicate (9 - length done) 0) (length done) k) (take_all 9 done (omega arith))
    ∙ set-append_right done (replicate (9 - length done) 0) (length done) (length done) k refl (omega arith)
    ∙ ap (λ i. done ++ set (replicate (9 - length done) 0) i k) (the_same (length done))
    ∙ ap (λ i. done ++ set (replicate i 0) 0 k) (one_less (length done) h)
    ∙ sym (append_assoc done (k ∷ []) (replicate (8 - length done) 0))
    ∙ sym (ap (λ (xs : List ℕ). xs ++ replicate (9 - length (done ++ (k ∷ []))) 0) (take_all 9 (done ++ (k ∷ [])) (omega (arith, l)))
    ∙ ap (λ i. (done ++ (k ∷ [])) ++ replicate i 0) (eight _ (length done) l)) where
      the_same : (n : ℕ) → n - n ≡ 0
      the_same n = omega arith

      one_less : (n : ℕ) → n < 9 → 9 - n ≡ suc (8 - n)
      one_less n h = omega arith

      eight : (m n : ℕ) → m ≡ n + 1 → 9 - m ≡ 8 - n
      eight m n e = omega (arith, e)

nine_count : (done : List ℕ) (k : ℕ) → length done < 9 → min (length done) 9 + 1 ≡ min (length (done ++ (k ∷ []))) 9
nine_count done k h = let l = length_push done k in omega (arith, l)

few : (n : ℕ) → n < 9 → min n 9 ≡ n
few n h = omega arith

many : (n : ℕ) → 9 ≤ n → min n 9 ≡ 9
many n h = omega arith

nine_full : (done : List ℕ) (k : ℕ) → 9 ≤ length done → first_nine (done ++ (k ∷ [])) ≡ first_nine done
nine_full done k h =
    let l = length_push done k in
    ap (λ (xs : List ℕ). record { at = xs ++ replicate (9 - length (done ++ (k ∷ []))) 0; count = min (length (done ++ (k ∷ []))) 9 }) (take-append-le 9 done (k ∷ []) h)
    ∙ ap (λ i. record { at = take 9 done ++ replicate i 0; count = min (length (done ++ (k ∷ []))) 9 }) (nothing _ (length done) l h)
    ∙ ap (λ i. record { at = take 9 done ++ replicate (9 - length done) 0; count = i }) (both _ (length done) l h) where
      nothing : (m n : ℕ) → m ≡ n + 1 → 9 ≤ n → 9 - m ≡ 9 - n
      nothing m n e h = omega (arith, e, h)

      both : (m n : ℕ) → m ≡ n + 1 → 9 ≤ n → min m 9 ≡ min n 9
      both m n e h = omega (arith, e, h)

-- filling the places is taking the first nine
nine_more : (done : List ℕ) (k : ℕ) → with_number (first_nine done) k ≡ first_nine (done ++ (k ∷ []))
nine_more done k = ⊎_elim
    (λ l. let v = first_nine done in
    ap (λ b. cond b (record { at = set v.at v.count k; count = v.count + 1 }) v) (lt-ltb v.count 9 (omega (arith, few (length done) l, l)))
    ∙ ap (λ i. record { at = set v.at i k; count = v.count + 1 }) (few (length done) l)
    ∙ ap (λ (xs : List ℕ). record { at = xs; count = v.count + 1 }) (nine_at done k l)
    ∙ ap (λ i. record { at = (first_nine (done ++ (k ∷ []))).at; count = i }) (nine_count done k l))
    (λ l. let v = first_nine done in
    ap (λ b. cond b (record { at = set v.at v.count k; count = v.count + 1 }) v) (le-ltb v.count 9 (omega (arith, many (length done) l)))
    ∙ sym (nine_full done k l))
    (cases_lt (length done) 9)

abbrev pub listed : Numbers → ℕ → Option Numbers
listed v n = Some (with_number v n)

nine_part : (done : List ℕ) (o : Option ℕ) (ps : List (List ℕ)) → ((ds : List ℕ) → through listed number_of (first_nine ds) ps ≡ nine_of (with_all ds (all_numbers ps)))
    → and_then o (λ k. through listed number_of (with_number (first_nine done) k) ps) ≡ nine_of (with_all done (and_then o (λ n. and_then (all_numbers ps) (λ ns. Some (n ∷ ns)))))
nine_part done None ps h = refl
nine_part done (Some k) ps h = ap (λ (v : Numbers). through listed number_of v ps) (nine_more done k) ∙ h (done ++ (k ∷ [])) ∙ ap nine_of (with_more done k (all_numbers ps))

nine_through : (done : List ℕ) (ps : List (List ℕ)) → through listed number_of (first_nine done) ps ≡ nine_of (with_all done (all_numbers ps))
nine_through done [] = ap (λ (xs : List ℕ). Some (first_nine xs)) (sym (append-nil done))
nine_through done (p ∷ ps) = nine_part done (number_of p) ps (λ ds. nine_through ds ps)

with_none : (o : Option (List ℕ)) → with_all [] o ≡ o
with_none None = refl
with_none (Some ns) = refl

pub all_through : (ps : List (List ℕ)) → through listed number_of (record { at = replicate 9 0; count = 0 }) ps ≡ nine_of (all_numbers ps)
all_through ps = nine_through [] ps ∙ ap nine_of (with_none (all_numbers ps))
