-- A state taken through the parts of a field.
use Rattle.std.proofs.Common.{◌≡◌, ℕ, List, Some, None, Option, ap, sym, ◌∙◌}
use Rattle.forms.specs.Cuts.{split}
use Rattle.forms.specs.Fields.{and_then}
use Rattle.forms.specs.Forms.{lead, through}
use Rattle.forms.proofs.Splits.{split_some}
use Rattle.forms.proofs.Leading.{lead_parts, lead_stops}

pub through_none : {A S : Type 0} (f : S → A → Option S) (form : List ℕ → Option A) (s : S) (xs : List ℕ) → lead form (split 32 xs) ≡ None → through f form s (split 32 xs) ≡ None
through_none f form s xs h =
    let q = lead_stops form (split 32 xs) (split_some 32 xs) h in
    ap (through f form s) q.2 ∙ ap (λ o. and_then o (λ x. and_then (f s x) (λ t. through f form t q.1))) q.3

through_lead : {A S : Type 0} (f : S → A → Option S) (form : List ℕ → Option A) (s : S) (ps qs : List (List ℕ)) (x : A) → lead form ps ≡ Some (x, qs) → through f form s ps ≡ and_then (f s x) (λ t. through f form t qs)
through_lead f form s ps qs x h =
    let q = lead_parts form ps qs x h in
    ap (through f form s) q.1 ∙ ap (λ o. and_then o (λ y. and_then (f s y) (λ t. through f form t qs))) q.2

pub through_stop : {A S : Type 0} (f : S → A → Option S) (form : List ℕ → Option A) (s : S) (ps qs : List (List ℕ)) (x : A) → lead form ps ≡ Some (x, qs) → None ≡ f s x → through f form s ps ≡ None
through_stop f form s ps qs x h e = through_lead f form s ps qs x h ∙ ap (λ o. and_then o (λ t. through f form t qs)) (sym e)

pub through_on : {A S : Type 0} (f : S → A → Option S) (form : List ℕ → Option A) (s t : S) (ps qs : List (List ℕ)) (x : A) → lead form ps ≡ Some (x, qs) → Some t ≡ f s x → through f form s ps ≡ through f form t qs
through_on f form s t ps qs x h e = through_lead f form s ps qs x h ∙ ap (λ o. and_then o (λ u. through f form u qs)) (sym e)
