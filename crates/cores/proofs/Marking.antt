-- Marks.
use Rattle.std.proofs.Common.{◌≡◌, ℕ, ◌+◌, ◌<◌, ◌≤◌, Bool, true, false, ◌⊎◌, List, [], ◌∷◌, ◌++◌, length, get_or, take, set, sym, ◌∙◌, subst, inl, inr, ⊎_elim, arith}
use Rattle.std.proofs.lemmas.List.{take_more, get_or-set_same, get_or-set_other}
use Rattle.std.proofs.lemmas.Bool.{cases_eq}
use Rattle.cores.specs.Marks.{Marked, IsIn, MarkedToo}

pub in_left : (ns : List ℕ) (c m : ℕ) → IsIn ns m → IsIn (ns ++ (c ∷ [])) m
in_left (n ∷ ns) c m (inl e) = inl e
in_left (n ∷ ns) c m (inr p) = inr (in_left ns c m p)
in_left [] c m p = absurd p

pub in_last : (ns : List ℕ) (c m : ℕ) → c ≡ m → IsIn (ns ++ (c ∷ [])) m
in_last [] c m e = inl e
in_last (n ∷ ns) c m e = inr (in_last ns c m e)

pub in_push : (ns : List ℕ) (c m : ℕ) → IsIn (ns ++ (c ∷ [])) m → IsIn ns m ⊎ (c ≡ m)
in_push [] c m (inl e) = inr e
in_push [] c m (inr p) = absurd p
in_push (n ∷ ns) c m (inl e) = inl (inl e)
in_push (n ∷ ns) c m (inr p) = ⊎_elim (λ q. inl (inr q)) (λ e. inr e) (in_push ns c m p)

pub marked_set : (ms : List Bool) (c m : ℕ) → c < length ms → c ≡ m → Marked (set ms c true) m
marked_set ms c m h e = subst (Marked (set ms c true)) e (get_or-set_same ms c true false h)

pub marked_set_kept : (ms : List Bool) (c m : ℕ) → c < length ms → Marked ms m → Marked (set ms c true) m
marked_set_kept ms c m h p = ⊎_elim (λ e. marked_set ms c m h (sym e)) (λ n. get_or-set_other ms c m true false n ∙ p) (cases_eq m c)

pub marked_set_only : (ms : List Bool) (c m : ℕ) → c < length ms → Marked (set ms c true) m → Marked ms m ⊎ (c ≡ m)
marked_set_only ms c m h p = ⊎_elim (λ e. inr (sym e)) (λ n. inl (sym (get_or-set_other ms c m true false n) ∙ p)) (cases_eq m c)

pub too_none : (k : ℕ) (ms : List Bool) → MarkedToo [] k ms ms
too_none k ms = record { kept = λ m p. p; more = λ m p. absurd p; only = λ m p. inl p }

too_push : (cs : List ℕ) (c k : ℕ) (ms u : List Bool) → c < k → c < length u → MarkedToo cs k ms u → MarkedToo (cs ++ (c ∷ [])) k ms (set u c true)
too_push cs c k ms u h l q = record {
  kept = λ m p. marked_set_kept u c m l (q.kept m p);
  more = λ m p b. ⊎_elim (λ p'. marked_set_kept u c m l (q.more m p' b)) (λ e. marked_set u c m l e) (in_push cs c m p);
  only = λ m p. ⊎_elim (λ p'. ⊎_elim (λ a. inl a) (λ a. inr (in_left cs c m a.0, a.1)) (q.only m p')) (λ e. inr (in_last cs c m e, omega arith)) (marked_set_only u c m l p);
}

too_skip : (cs : List ℕ) (c k : ℕ) (ms u : List Bool) → k ≤ c → MarkedToo cs k ms u → MarkedToo (cs ++ (c ∷ [])) k ms u
too_skip cs c k ms u h q = record {
  kept = q.kept;
  more = λ m p b. ⊎_elim (λ p'. q.more m p' b) (λ e. absurd (omega arith)) (in_push cs c m p);
  only = λ m p. ⊎_elim (λ a. inl a) (λ a. inr (in_left cs c m a.0, a.1)) (q.only m p);
}

module _ (cs : List ℕ) (i k : ℕ) (ms u : List Bool) (here : i < length cs) (q : MarkedToo (take i cs) k ms u) where
  pub too_more : get_or cs i 0 < k → get_or cs i 0 < length u → MarkedToo (take (i + 1) cs) k ms (set u (get_or cs i 0) true)
  too_more h l = rw (take_more cs i 0 here) (too_push (take i cs) (get_or cs i 0) k ms u h l q)

  pub too_same : k ≤ get_or cs i 0 → MarkedToo (take (i + 1) cs) k ms u
  too_same h = rw (take_more cs i 0 here) (too_skip (take i cs) (get_or cs i 0) k ms u h q)
