-- Places as lines, and numbers copied in front of zeros.
use Rattle.std.proofs.Common.{◌≡◌, ℕ, zero, suc, ◌+◌, ◌-◌, ◌<◌, ◌≤◌, List, [], ◌∷◌, ◌++◌, length, get_or, take, drop, replicate, sym, refl, ap, ◌∙◌, subst, ⊎_elim, arith}
use Rattle.std.proofs.lemmas.List.{get_or-map, get_or_past, length-map, drop-replicate, take_all, take-append-le, length-take-le, append-nil}
use denote.Param.Members.{Mut, Called}
use Rattle.std.specs.Array.{IsFromFnResult, IsFromFnResultFrom}
use Rattle.std.specs.List.{AllByRecursion}
use Rattle.std.proofs.lemmas.Bool.{cases_eq}
use Rattle.clause.specs.Sets.{Narrow}
use Rattle.protocol.specs.State as model
use Rattle.protocol.proofs.Narrow.{under_none}
use Rattle.lines.specs.declared.line.Line.{Line}
use Rattle.lines.specs.View.{line_of, lines_of, IsBlank}

-- what `array::from_fn` gives, where the calls leave the closure as it was
module _ {F B : Type 0} (g : Mut F (ℕ × Unit {0}) B) (f : F) (v : ℕ → B) (same : (i : ℕ) (y : B) (q : F) → Called g f (i, tt) y q → (q ≡ f) × (y ≡ v i)) where
  made_from : (ys : List B) (n a : ℕ) → IsFromFnResultFrom g f ys a n → (i : ℕ) (d : B) → a ≤ i → i < a + n → get_or ys i d ≡ v i
  made_from ys zero a p i d l h = absurd (omega arith)
  made_from ys (suc n) a (q, y, is, call, rest) i d l h =
      let e = same a y q call in
      ⊎_elim
      (λ z. subst (λ j. get_or ys j d ≡ v j) (sym z) (is.1 d ∙ e.1))
      (λ z. made_from ys n (a + 1) (subst (λ p. IsFromFnResultFrom g p ys (a + 1) n) e.0 rest) i d (omega arith) (omega arith))
      (cases_eq i a)

  pub made_at : (ys : List B) (n : ℕ) → IsFromFnResult g f ys n → (i : ℕ) (d : B) → i < n → get_or ys i d ≡ v i
  made_at ys n p i d h = made_from ys n 0 p.each i d (omega arith) (omega arith)

-- the front of a longer list is known by its elements
pub taken_is : {X : Type 0} (d : X) (n : ℕ) (xs ys : List X) → length ys ≡ n → ((i : ℕ) → i < n → get_or ys i d ≡ get_or xs i d) → length xs ≤ n → take (length xs) ys ≡ xs
taken_is d n [] ys l e h = refl
taken_is d n (x ∷ xs) [] l e h = absurd (omega arith)
taken_is d zero (x ∷ xs) (y ∷ ys) l e h = absurd (omega arith)
taken_is d (suc n) (x ∷ xs) (y ∷ ys) l e h = ap (λ w. w ∷ take (length xs) ys) (e 0 (omega arith)) ∙ ap (λ w. x ∷ w) (taken_is d n xs ys (omega arith) (λ i k. e (suc i) (omega arith)) (omega arith))

-- items copied in front of fillers
pub front_padded : {X : Type 0} (d : X) (xs ys : List X) (m : ℕ) → length xs ≤ 8 → m ≡ length xs → ys ≡ take m xs → ys ++ drop (length (take m xs)) (replicate 8 d) ≡ xs ++ replicate (8 - length xs) d
front_padded d xs ys m h e w =
    let a : take m xs ≡ xs = take_all m xs (omega arith) in
    ap (λ zs. zs ++ drop (length (take m xs)) (replicate 8 d)) (w ∙ a)
    ∙ ap (λ zs. xs ++ drop (length zs) (replicate 8 d)) a
    ∙ ap (λ zs. xs ++ zs) (drop-replicate (length xs) 8 d)

pub front_full : {X : Type 0} (d : X) (xs ys : List X) (m : ℕ) → 8 ≤ length xs → m ≡ 8 → ys ≡ take m xs → ys ++ drop (length (take m xs)) (replicate 8 d) ≡ take 8 xs
front_full d xs ys m h e w =
    ap (λ zs. zs ++ drop (length (take m xs)) (replicate 8 d)) w
    ∙ ap (λ k. take m xs ++ drop k (replicate 8 d)) (length-take-le m xs (omega arith))
    ∙ ap (λ zs. take m xs ++ zs) (drop-replicate m 8 d)
    ∙ ap (λ k. take m xs ++ replicate (8 - k) d) e
    ∙ append-nil (take m xs)
    ∙ ap (λ k. take k xs) e

-- the place at i is line i + 1, and past the last there is a blank one
pub line_here : (t : List Line) (n i : ℕ) (x : Line) → i ≡ n - 1 → i < length t → x ≡ get_or t i x → line_of x ≡ model.line_at (lines_of t) n
line_here t n i x ei h e = ap line_of e ∙ sym (get_or-map line_of t i x _ h) ∙ ap (λ j. get_or (lines_of t) j model.blank) ei

blank_is : (x : Line) → IsBlank x → line_of x ≡ model.blank
blank_is x b j = record { clause = b.0 j; cites = take (b.2 j) (b.1 j); resting = b.3 j }

pub line_past : (t : List Line) (n i : ℕ) (x : Line) → i ≡ n - 1 → length t ≤ i → IsBlank x → line_of x ≡ model.line_at (lines_of t) n
line_past t n i x ei h b = blank_is x b ∙ sym (get_or_past (lines_of t) (n - 1) model.blank (omega (arith, length-map t line_of)))

pub front_is : {X : Type 0} (d : X) (ns out : List X) → length ns ≤ 8 → out ≡ ns ++ replicate (8 - length ns) d → take (length ns) out ≡ ns
front_is d ns out h e = ap (take (length ns)) e ∙ take-append-le (length ns) ns _ (omega arith) ∙ take_all (length ns) ns (omega arith)

pub tidy_is : (ns out : List ℕ) → length ns ≤ 8 → out ≡ ns ++ replicate (8 - length ns) 0 → out ≡ take (length ns) out ++ replicate (8 - length ns) 0
tidy_is ns out h e = e ∙ ap (λ zs. zs ++ replicate (8 - length ns) 0) (sym (front_is 0 ns out h e))

-- every line of a table is narrow
narrow_get : (t : List Line) (k : ℕ) → Narrow (get_or (lines_of t) k model.blank).clause
narrow_get [] k = (under_none 59, under_none 59, λ h. omega arith)
narrow_get (x ∷ t) zero = x.narrow
narrow_get (x ∷ t) (suc k) = narrow_get t k

pub narrow_at : (t : List Line) (n : ℕ) → Narrow (model.clause_at (lines_of t) n)
narrow_at t n = narrow_get t (n - 1)

pub narrow_all : (t : List Line) (ns : List ℕ) → AllByRecursion Narrow (model.clauses_at (lines_of t) ns)
narrow_all t [] = tt
narrow_all t (n ∷ ns) = (narrow_at t n, narrow_all t ns)
