-- Guards, and the covers that fit them.
use Rattle.std.proofs.Common.{◌≡◌, ℕ, zero, suc, ◌+◌, ◌<◌, List, [], ◌∷◌, length, Some, None, Option, subst, inl, inr, arith}
use Rattle.std.specs.List.{HoldsAt, AllWithin, zip}
use Rattle.std.specs.Option.{MatchOption}
use Rattle.std.proofs.lemmas.Slice.Zip.{length-zip}
use Rattle.clause.specs.declared.syntax.LitSet.{LitSet}
use Rattle.protocol.specs.State as model
use Rattle.protocol.specs.Causes.{Unfit, Fits}
use Rattle.lines.specs.Named.{Misfit}

module _ (ls : List model.Line) where
  abbrev pub Fit : ℕ × LitSet → Type 0
  Fit p = Fits (model.clause_at ls p.0) p.1

  unfit_at : (k i : ℕ) (ns : List ℕ) (gs : List LitSet) → i < length (zip ns gs) → ((j : ℕ) → j < i → HoldsAt Fit (zip ns gs) j) → HoldsAt (λ p. ¬ Fit p) (zip ns gs) i → Unfit ls k ns gs (k + i)
  unfit_at k i [] gs h f n = absurd (omega arith)
  unfit_at k i (c ∷ cs) [] h f n = absurd (omega arith)
  unfit_at k zero (c ∷ cs) (g ∷ gs) h f n = inl (n (c, g), omega arith)
  unfit_at k (suc i) (c ∷ cs) (g ∷ gs) h f n =
      let z : (k + 1) + i ≡ k + suc i = omega arith in
      inr (f 0 (omega arith) (c, g), subst (Unfit ls (k + 1) cs gs) z (unfit_at (k + 1) i cs gs (omega arith) (λ j q. f (suc j) (omega arith)) n))

  all_fit : (k : ℕ) (ns : List ℕ) (gs : List LitSet) (p : ℕ) → ((j : ℕ) → j < length (zip ns gs) → HoldsAt Fit (zip ns gs) j) → ¬ Unfit ls k ns gs p
  all_fit k [] gs p f u = u
  all_fit k (c ∷ cs) [] p f u = u
  all_fit k (c ∷ cs) (g ∷ gs) p f (inl u) = u.0 (f 0 (omega arith) (c, g))
  all_fit k (c ∷ cs) (g ∷ gs) p f (inr u) = all_fit (k + 1) cs gs p (λ j h. f (suc j) (omega arith)) u.1

  pub misfit : (ns : List ℕ) (gs : List LitSet) (r : Option ℕ) → MatchOption r (AllWithin Fit (zip ns gs) 0 (length (zip ns gs))) (λ i. (i < length (zip ns gs)) × HoldsAt (λ p. ¬ Fit p) (zip ns gs) i × AllWithin Fit (zip ns gs) 0 i) → Misfit ls ns gs r
  misfit ns gs None f = λ p. all_fit 1 ns gs p (λ j h d. f j d (omega arith) h)
  misfit ns gs (Some i) (h, n, f) =
      let z : 1 + i ≡ i + 1 = omega arith in
      (omega (arith, length-zip ns gs), subst (Unfit ls 1 ns gs) z (unfit_at 1 i ns gs h (λ j q d. f j d (omega arith) q) n))
