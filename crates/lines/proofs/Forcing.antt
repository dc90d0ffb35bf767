-- The causes of named lines, at a stage.
use Rattle.std.proofs.Common.{◌≡◌, ℕ, ◌<◌, ◌≤◌, ◌⊎◌, List, [], ◌∷◌, Option, length, sym, refl, ◌∙◌, inl, inr, arith}
use Rattle.std.proofs.lemmas.List.{length-map}
use Rattle.clause.specs.declared.refusal.Refusal.TheVariants.{NoSuchLine, NotInForce}
use Rattle.clause.specs.Refusals.{plain}
use Rattle.protocol.specs.State as model
use Rattle.protocol.proofs.Causing.{not_if}
use Rattle.protocol.specs.Causes.{First, NoneOf, SomeIn, Outside, Dormant, named}
use Rattle.lines.specs.declared.line.Line.{Line}
use Rattle.lines.specs.View.{line_of, lines_of}
use Rattle.lines.specs.Named.{LoopFrom, Asleep, at_stage}

some_weaker : (P Q : ℕ → Type 0) → ((n : ℕ) → P n → Q n) → (ns : List ℕ) → SomeIn P ns → SomeIn Q ns
some_weaker P Q f [] p = p
some_weaker P Q f (n ∷ ns) (inl p) = inl (f n p)
some_weaker P Q f (n ∷ ns) (inr p) = inr (some_weaker P Q f ns p)

module _ (t : List Line) (first : Option ℕ) (st : model.Stage) (g : ℕ) (from : LoopFrom first (length t) st) where
  abbrev here : model.State
  here = at_stage st g (lines_of t)

  abbrev Beyond : ℕ → Type 0
  Beyond n = (n ≡ 0) ⊎ (length t < n)

  outside_to : (n : ℕ) → Beyond n → Outside here n
  outside_to n (inl e) = inl e
  outside_to n (inr h) = inr (omega (arith, length-map t line_of))

  outside_from : (n : ℕ) → Outside here n → Beyond n
  outside_from n (inl e) = inl e
  outside_from n (inr h) = inr (omega (arith, length-map t line_of))

  pub outside_first : (ns : List ℕ) → SomeIn Beyond ns → First (named here ns) (plain NoSuchLine)
  outside_first ns p = inl (some_weaker Beyond (Outside here) outside_to ns p, refl)

  none_outside : (ns : List ℕ) → ¬ SomeIn Beyond ns → ¬ SomeIn (Outside here) ns
  none_outside ns n p = n (some_weaker (Outside here) Beyond outside_from ns p)

  some_under : (P Q : ℕ → Type 0) (ns : List ℕ) → ¬ SomeIn Beyond ns → ((n : ℕ) → n ≤ length t → P n → Q n) → SomeIn P ns → SomeIn Q ns
  some_under P Q [] a f p = p
  some_under P Q (n ∷ ns) a f (inl p) = let b : ¬ (length t < n) = λ h. a (inl (inr h)) in inl (f n (omega arith) p)
  some_under P Q (n ∷ ns) a f (inr p) = inr (some_under P Q ns (λ h. a (inr h)) f p)

  pub asleep_first : (ns : List ℕ) → ¬ SomeIn Beyond ns → SomeIn (Asleep (lines_of t) first) ns → First (named here ns) (plain NotInForce)
  asleep_first ns a p = inr (not_if _ NoSuchLine (none_outside ns a), inl (some_under _ _ ns a (λ n h q. (q.0, from n h ∙ q.1)) p, refl))

  pub none_named : (ns : List ℕ) → ¬ SomeIn Beyond ns → ¬ SomeIn (Asleep (lines_of t) first) ns → NoneOf (named here ns)
  none_named ns a p = (not_if _ NoSuchLine (none_outside ns a), (not_if _ NotInForce (λ d. p (some_under (Dormant here) (Asleep (lines_of t) first) ns a (λ n h q. (q.0, sym (from n h) ∙ q.1)) d)), tt))
