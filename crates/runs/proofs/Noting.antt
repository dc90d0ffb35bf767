-- Letters noted in the worlds one after another.
use Rattle.std.proofs.Common.{◌≡◌, ℕ, ◌+◌, ◌<◌, ◌≤◌, Bool, List, length, get_or, set, sym, ap, ◌∙◌, subst, ⊎_elim, arith}
use Rattle.std.proofs.lemmas.Bool.{cases_eq}
use Rattle.std.proofs.lemmas.List.{get_or-set_same, get_or-set_other}
use Rattle.runs.specs.Moments.{noted, Noted}

-- the letter k is noted in the worlds below i where the test gives true, and the others are as they were
abbrev pub NotedTo : (ℕ → ℕ → Bool → Type 0) → ℕ → List ℕ → List ℕ → ℕ → Type 0
NotedTo Test k ws₀ ws i = (j : ℕ) → (j < i → (b : Bool) × Test j (get_or ws₀ j 0) b × (get_or ws j 0 ≡ noted b k (get_or ws₀ j 0))) × (i ≤ j → get_or ws j 0 ≡ get_or ws₀ j 0)

module _ (Test : ℕ → ℕ → Bool → Type 0) (k : ℕ) where
  pub noted_next : (ws₀ ws : List ℕ) (i : ℕ) → NotedTo Test k ws₀ ws i → (b : Bool) (w : ℕ) → i < length ws → Test i (get_or ws i 0) b → w ≡ noted b k (get_or ws i 0) → NotedTo Test k ws₀ (set ws i w) (i + 1)
  noted_next ws₀ ws i q b w h t e j =
      let same = (q i).1 (omega arith) in
      ⊎_elim
      (λ z. (
        (λ _. subst (λ n. (c : Bool) × Test n (get_or ws₀ n 0) c × (get_or (set ws i w) n 0 ≡ noted c k (get_or ws₀ n 0))) (sym z)
            (b, subst (λ x. Test i x b) same t, get_or-set_same ws i w 0 h ∙ e ∙ ap (noted b k) same)),
        λ l. absurd (omega arith),
      ))
      (λ n. let o = get_or-set_other ws i j w 0 n in ((λ l. let v = (q j).0 (omega arith) in (v.0, v.1, o ∙ v.2)), λ l. o ∙ (q j).1 (omega arith)))
      (cases_eq j i)

  pub noted_still : (ws₀ ws : List ℕ) (i : ℕ) → NotedTo Test k ws₀ ws i → (b : Bool) → Test i (get_or ws i 0) b → get_or ws i 0 ≡ noted b k (get_or ws i 0) → NotedTo Test k ws₀ ws (i + 1)
  noted_still ws₀ ws i q b t e j =
      let same = (q i).1 (omega arith) in
      ⊎_elim
      (λ z. (
        (λ _. subst (λ n. (c : Bool) × Test n (get_or ws₀ n 0) c × (get_or ws n 0 ≡ noted c k (get_or ws₀ n 0))) (sym z)
            (b, subst (λ x. Test i x b) same t, e ∙ ap (noted b k) same)),
        λ l. absurd (omega arith),
      ))
      (λ n. ((λ l. (q j).0 (omega arith)), λ l. (q j).1 (omega arith)))
      (cases_eq j i)

  pub noted_all : (end i : ℕ) (ws ws' : List ℕ) → end ≤ i → length ws' ≡ length ws → NotedTo Test k ws ws' i → Noted Test end k ws ws'
  noted_all end i ws ws' h l q = record { room = l; noted_at = λ j b. (q j).0 (omega arith) }
