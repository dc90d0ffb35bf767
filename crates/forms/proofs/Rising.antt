-- Parts that rise, taken one by one.
use Rattle.std.proofs.Common.{◌≡◌, ℕ, ◌+◌, Bool, true, false, not, cond, ltb, List, [], ◌∷◌, Some, None, Option, refl, sym, ap, ◌∙◌, ⊎_elim, arith}
use Rattle.std.proofs.lemmas.Bool.{lt-ltb, le-ltb, cases_lt}
use Rattle.forms.specs.Fields.{and_then}
use Rattle.forms.specs.Forms.{through, rises, rising, rising_from}

-- one part more, beside the rank of the last
abbrev pub risen : {A S : Type 0} → (A → ℕ) → (S → A → S) → S × Option ℕ → A → Option (S × Option ℕ)
risen rank join p x = cond (rises p.1 (rank x)) (Some (join p.0 x, Some (rank x))) None

abbrev pub joined : {S : Type 0} → Option (S × Option ℕ) → Option S
joined None = None
joined (Some p) = Some p.0

-- the least rank that may follow
abbrev least : Option ℕ → ℕ
least None = 0
least (Some m) = m + 1

not_lower : (o : Option ℕ) (n : ℕ) → ltb n (least o) ≡ not (rises o n)
not_lower None n = le-ltb n 0 (omega arith)
not_lower (Some m) n = ⊎_elim
    (λ h. le-ltb n (m + 1) (omega arith) ∙ ap not (sym (lt-ltb m n h)))
    (λ h. lt-ltb n (m + 1) (omega arith) ∙ ap not (sym (le-ltb m n h)))
    (cases_lt m n)

module _ {A S : Type 0} (rank : A → ℕ) (join : S → A → S) (form : List ℕ → Option A) where
  on_part : (s : S) (last : Option ℕ) (o : Option A) (ps : List (List ℕ))
      → ((t : S) (m : ℕ) → rising_from rank join form t (m + 1) ps ≡ joined (through (risen rank join) form (t, Some m) ps))
      → and_then o (λ x. cond (ltb (rank x) (least last)) None (rising_from rank join form (join s x) (rank x + 1) ps))
      ≡ joined (and_then o (λ x. and_then (risen rank join (s, last) x) (λ t. through (risen rank join) form t ps)))
  on_part s last None ps h = refl
  on_part s last (Some x) ps h =
      ap (λ b. cond b None (rising_from rank join form (join s x) (rank x + 1) ps)) (not_lower last (rank x))
      ∙ by_risen (rises last (rank x)) where
        by_risen : (b : Bool) → cond (not b) None (rising_from rank join form (join s x) (rank x + 1) ps)
            ≡ joined (and_then (cond b (Some (join s x, Some (rank x))) None) (λ t. through (risen rank join) form t ps))
        by_risen true = h (join s x) (rank x)
        by_risen false = refl

  rising_last : (s : S) (last : Option ℕ) (ps : List (List ℕ)) → rising_from rank join form s (least last) ps ≡ joined (through (risen rank join) form (s, last) ps)
  rising_last s last [] = refl
  rising_last s last (p ∷ ps) = on_part s last (form p) ps (λ t m. rising_last t (Some m) ps)

  pub rising_through : (s : S) (ps : List (List ℕ)) → rising rank join form s ps ≡ joined (through (risen rank join) form (s, None) ps)
  rising_through s ps = rising_last s None ps
