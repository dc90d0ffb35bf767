-- What goes on over the items of a chain.
use Rattle.std.proofs.Common.{◌≡◌, ◌≤◌, false, cond, Iter, List, [], ◌∷◌, ◌++◌, Bor, Some, None, Option, refl, sym, ap, ◌∙◌, subst}
use Rattle.std.specs.Iterator.{AlwaysYields, Yields}
use Rattle.std.specs.Iterator.Adapters.{option_iter_steps, option_iter_item, option_iter_done, OptionIterYieldsItsItem, flatten_steps, flatten_source, flatten_front, flatten_back, flatten_done}
use Rattle.std.specs.List.{FoldsTo, flat_map}
use Rattle.std.specs.Option.{MatchOption, option_len, option_to_list, unwrap_or}
use Rattle.std.specs.Slice.Iter.{iter_rest}
use Rattle.std.specs.declared.iter.Flatten.{Flatten}
use Rattle.std.specs.declared.option.Iter.{OptionIter}
use Rattle.std.proofs.lemmas.Bool.{MatchBool-at_true, MatchBool-at_false}
use Rattle.std.proofs.lemmas.Fn.{fronts}
use Rattle.std.proofs.lemmas.Iterator.{YieldsList, YieldsList-from_slice}
use Rattle.std.proofs.lemmas.Iterator.Adapters.{YieldsList-from_flatten}
use Rattle.std.proofs.lemmas.List.{append_assoc}
use Rattle.std.proofs.lemmas.Option.{none-some}

-- J holds of the items so far and of what they took p to; the items left are the rest
module _ {S A B P : Type 0} (steps : S → Option A → S → Type 0) (v : A → B) (R : P → A → P → Type 0) (J : List B → P → Type 0)
    (step : (ys : List B) (p : P) (x : A) (q : P) → J ys p → R p x q → J (ys ++ (v x ∷ [])) q) where
  pub along : (xs : List A) (s t : S) (ys all : List B) (p q : P) → AlwaysYields steps v s all → Yields steps s xs t → FoldsTo R p xs q → J ys p
      → (zs : List B) × (rest : List B) × (ys ++ all ≡ zs ++ rest) × AlwaysYields steps v t rest × J zs q
  along [] s t ys all p q w y f j = (ys, all, refl, subst (λ u. AlwaysYields steps v u all) y w, subst (J ys) f j)
  along (x ∷ xs) s t ys [] p q w y f j = absurd (w x y.0 y.1)
  along (x ∷ xs) s t ys (z ∷ all) p q w y f j =
      let n = w.1 x y.0 y.1 in
      let r = along xs y.0 t (ys ++ (v x ∷ [])) all f.0 q n.1 y.2 f.2 (step ys p x f.0 j f.1) in
      (r.0, r.1, ap (λ e. ys ++ (e ∷ all)) (sym n.0) ∙ sym (append_assoc ys (v x ∷ []) all) ∙ r.2, r.3, r.4)

-- what comes next is the first of the rest
pub comes : {S A B : Type 0} (steps : S → Option A → S → Type 0) (v : A → B) (o : Option A) (t u : S) (rest : List B) → steps t o u → AlwaysYields steps v t rest
    → MatchOption o (rest ≡ []) (λ x. (zs : List B) × (rest ≡ v x ∷ zs))
comes steps v None t u [] h w = refl
comes steps v None t u (z ∷ zs) h w = absurd (w.0 u h)
comes steps v (Some x) t u [] h w = absurd (w x u h)
comes steps v (Some x) t u (z ∷ zs) h w = (zs, ap (λ e. e ∷ zs) (sym (w.1 x u h).0))

pub match_to : {A : Type 0} (o : Option A) {P P' : Type 0} {Q Q' : A → Type 0} → (P → P') → ((x : A) → Q x → Q' x) → MatchOption o P Q → MatchOption o P' Q'
match_to None f g m = f m
match_to (Some x) f g m = g x m

-- an option gives its value
module _ {A : Type 0} where
  gives : (o : Option A) (j : OptionIter A) → o ≡ option_iter_item j → option_iter_done j ≡ false → AlwaysYields option_iter_steps (λ y. y.now) j (option_to_list o)
  gives None j e d = λ y k h. none-some y.now (e ∙ sym (MatchBool-at_false _ _ d h.1))
  gives (Some x) j e d = (
    (λ k h. none-some x (MatchBool-at_false _ _ d h.1 ∙ sym e)),
    λ y k h. (ap (λ o. unwrap_or o x) (MatchBool-at_false _ _ d h.1 ∙ sym e), λ y' k' h'. none-some y' (sym (MatchBool-at_true _ _ h.0 h'.1))),
  )

  pub option_gives : (o : Option A) (j : OptionIter A) → option_iter_item j ≡ o → option_iter_done j ≡ false → YieldsList option_iter_steps (λ y. y.now) j (option_to_list o)
  option_gives o j e d = record { runs = gives o j (sym e) d }

  -- what a `&` to an option becomes
  abbrev pub Becomes : Bor (Option A) → OptionIter A → Type 0
  Becomes x j = (option_iter_item j ≡ x.now) × (option_iter_done j ≡ false) × (cond (option_iter_done j) 0 (option_len (option_iter_item j)) ≤ 1) × OptionIterYieldsItsItem A

  -- the values of a slice of options, one after another
  abbrev pub value_steps : Flatten (Iter (Option A)) (OptionIter A) → Option (Bor A) → Flatten (Iter (Option A)) (OptionIter A) → Type 0
  value_steps = flatten_steps fronts Becomes option_iter_steps

  pub values_of : (s : Flatten (Iter (Option A)) (OptionIter A)) (os : List (Option A)) → iter_rest (flatten_source s) ≡ os → flatten_front s ≡ None → flatten_back s ≡ None → flatten_done s ≡ false
      → YieldsList value_steps (λ y. y.now) s (flat_map option_to_list os)
  values_of s os e f b d = YieldsList-from_flatten {s = s} Becomes option_iter_steps (λ y. y.now) option_to_list (λ x j h. option_gives x.now j h.0 h.1) (YieldsList-from_slice {s = flatten_source s} os e) f b d
