-- Lists of causes joined.
use Rattle.std.proofs.Common.{List, [], ◌∷◌, ◌++◌, inl, inr}
use Rattle.clause.specs.declared.refusal.Fault.{Fault}
use Rattle.clause.specs.declared.refusal.Refusal.{Refusal}
use Rattle.protocol.specs.Causes.{Cause, if, First, NoneOf}

pub none_both : (Ps Qs : List Cause) → NoneOf Ps → NoneOf Qs → NoneOf (Ps ++ Qs)
none_both [] Qs p q = q
none_both (P ∷ Ps) Qs p q = (p.0, none_both Ps Qs p.1 q)

pub first_after : (Ps Qs : List Cause) (f : Fault) → NoneOf Ps → First Qs f → First (Ps ++ Qs) f
first_after [] Qs f p q = q
first_after (P ∷ Ps) Qs f p q = inr (p.0, first_after Ps Qs f p.1 q)

pub first_left : (Ps Qs : List Cause) (f : Fault) → First Ps f → First (Ps ++ Qs) f
first_left [] Qs f q = absurd q
first_left (P ∷ Ps) Qs f (inl p) = inl p
first_left (P ∷ Ps) Qs f (inr q) = inr (q.0, first_left Ps Qs f q.1)

pub not_if : (P : Type 0) (r : Refusal) → ¬ P → (f : Fault) → ¬ if P r f
not_if P r n f q = n q.0
