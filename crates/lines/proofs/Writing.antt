-- Places written one after another.
use Rattle.std.proofs.Common.{◌≡◌, ℕ, ◌+◌, ◌-◌, ◌<◌, ◌≤◌, List, [], ◌∷◌, ◌++◌, map, length, get_or, take, drop, set, replicate, sym, refl, ap, ◌∙◌, subst, arith}
use borrow.Rule.Slice.PartMut.{put_mid}
use Rattle.std.specs.List.{AllByRecursion}
use Rattle.std.proofs.lemmas.Slice.{put_mid-paste}
use Rattle.std.proofs.lemmas.List.Edits.{paste_all}
use Rattle.std.proofs.lemmas.List.{append_assoc, length-append, length-map, length_push, length-take-le, length-drop, map_more, take_all, take-append-drop, take-append-le, drop_more, map-append, length-replicate}
use Rattle.clause.specs.declared.syntax.LitSet.{LitSet}
use Rattle.clause.specs.Meaning.{none}
use Rattle.protocol.specs.State as model
use Rattle.lines.specs.declared.line.Line.{Line}
use Rattle.lines.specs.View.{line_of, lines_of, Tidy, Written}

-- the first place after some lists is set
set_after : {X : Type 0} (a : List X) (x y : X) (b : List X) → set (a ++ (x ∷ b)) (length a) y ≡ a ++ (y ∷ b)
set_after [] x y b = refl
set_after (z ∷ a) x y b = ap (λ zs. z ∷ zs) (set_after a x y b)

module _ {X : Type 0} (t a xs : List X) (n : ℕ) (y d : X) where
  pub set_mid : n + length xs < length t → set (take n t ++ (xs ++ drop (n + length xs) t)) (n + length xs) y ≡ take n t ++ ((xs ++ (y ∷ [])) ++ drop (n + (length xs + 1)) t)
  set_mid h =
      let m = n + length xs in
      let e : n + (length xs + 1) ≡ m + 1 = omega arith in
      let l : length (take n t ++ xs) ≡ m = length-append (take n t) xs ∙ ap (λ j. j + length xs) (length-take-le n t (omega arith)) in
      ap (λ zs. set zs m y) (sym (append_assoc (take n t) xs (drop m t)))
      ∙ ap (λ zs. set ((take n t ++ xs) ++ zs) m y) (drop_more t m d h)
      ∙ ap (λ j. set ((take n t ++ xs) ++ (get_or t m d ∷ drop (m + 1) t)) j y) (sym l)
      ∙ set_after (take n t ++ xs) (get_or t m d) y (drop (m + 1) t)
      ∙ append_assoc (take n t) xs (y ∷ drop (m + 1) t)
      ∙ ap (λ zs. take n t ++ zs) (sym (append_assoc xs (y ∷ []) (drop (m + 1) t)))
      ∙ ap (λ j. take n t ++ ((xs ++ (y ∷ [])) ++ drop j t)) (sym e)

all_push : {X : Type 0} (P : X → Type 0) (xs : List X) (y : X) → AllByRecursion P xs → P y → AllByRecursion P (xs ++ (y ∷ []))
all_push P [] y a p = (p, tt)
all_push P (x ∷ xs) y a p = (a.0, all_push P xs y a.1 p)

pub written_none : (n : ℕ) (t : List Line) → Written n t [] t
written_none n t = record {
  places = [];
  lines_are = refl;
  tidy = tt;
  table_is = sym (take-append-drop n t) ∙ ap (λ j. take n t ++ drop j t) e;
}
  where
    e : n ≡ n + 0
    e = omega arith

pub written_push : (n : ℕ) (t u : List Line) (ms : List model.Line) (y : Line) (m : model.Line) → n + length ms < length t → line_of y ≡ m → Tidy y → Written n t ms u → Written n t (ms ++ (m ∷ [])) (set u (n + length ms) y)
written_push n t u ms y m h is ty w =
    let xs = w.places in
    let l : length xs ≡ length ms = sym (length-map xs line_of) ∙ ap length w.lines_are in
    let h' : n + length xs < length t = omega arith in
    record {
      places = xs ++ (y ∷ []);
      lines_are = map-append line_of xs (y ∷ []) ∙ ap (λ zs. zs ++ (line_of y ∷ [])) w.lines_are ∙ ap (λ (z : model.Line). ms ++ (z ∷ [])) is;
      tidy = all_push Tidy xs y w.tidy ty;
      table_is = ap (λ zs. set zs (n + length ms) y) w.table_is ∙ ap (λ j. set (take n t ++ (xs ++ drop (n + length xs) t)) (n + j) y) (sym l) ∙ set_mid t [] xs n y y h'
          ∙ ap (λ j. take n t ++ ((xs ++ (y ∷ [])) ++ drop (n + j) t)) (sym (length_push xs y));
    }

-- the lines of the table with what was written
pub written_lines : (n : ℕ) (t : List Line) (ms : List model.Line) (t' : List Line) → n ≤ length t → Written n t ms t' → lines_of (take (n + length ms) t') ≡ lines_of (take n t) ++ ms
written_lines n t ms t' h w =
    let xs = w.places in
    let l : length xs ≡ length ms = sym (length-map xs line_of) ∙ ap length w.lines_are in
    let f : length (take n t ++ xs) ≡ n + length ms = length-append (take n t) xs ∙ ap (λ j. j + length xs) (length-take-le n t h) ∙ ap (λ j. n + j) l in
    ap (λ zs. lines_of (take (n + length ms) zs)) (w.table_is ∙ sym (append_assoc (take n t) xs _))
    ∙ ap lines_of (take-append-le (n + length ms) (take n t ++ xs) _ (omega arith) ∙ take_all (n + length ms) (take n t ++ xs) (omega arith))
    ∙ map-append line_of (take n t) xs ∙ ap (λ zs. lines_of (take n t) ++ zs) w.lines_are

-- one more of the lines that f makes of guards
pub write_more : (f : LitSet → model.Line) (n : ℕ) (t u : List Line) (gs : List LitSet) (i : ℕ) (y : Line) → i < length gs → n + length gs ≤ length t → line_of y ≡ f (get_or gs i none) → Tidy y
    → Written n t (map f (take i gs)) u → Written n t (map f (take (i + 1) gs)) (set u (n + i) y)
write_more f n t u gs i y h r is ty w =
    let l : length (map f (take i gs)) ≡ i = length-map (take i gs) f ∙ length-take-le i gs (omega arith) in
    subst (λ j. Written n t (map f (take (i + 1) gs)) (set u (n + j) y)) l
    (subst (λ (ms : List model.Line). Written n t ms (set u (n + length (map f (take i gs))) y)) (sym (map_more f gs i none h)) (written_push n t u (map f (take i gs)) y (f (get_or gs i none)) (omega arith) is ty w))

pub write_end : (f : LitSet → model.Line) (n : ℕ) (t u : List Line) (gs : List LitSet) (i : ℕ) → i ≡ length gs → Written n t (map f (take i gs)) u → Written n t (map f gs) u
write_end f n t u gs i e w = subst (λ (xs : List LitSet). Written n t (map f xs) u) (take_all i gs (omega arith)) w

-- blanking
pub blanked_is : {X : Type 0} (t ys : List X) (n e a k : ℕ) (x : X) → n ≤ e → e ≤ length t → a ≡ n → k ≡ e - n → ys ≡ replicate (length (take k (drop a t))) x → put_mid a k t ys ≡ take n t ++ (replicate (e - n) x ++ drop e t)
blanked_is t ys n e a k x h l ea ek w =
    let m : length (take k (drop a t)) ≡ e - n = length-take-le k (drop a t) (omega (arith, length-drop a t)) ∙ ek in
    let z : a + k ≡ e = omega arith in
    put_mid-paste a k t ys (replicate (e - n) x) k (w ∙ ap (λ j. replicate j x) m) refl (ek ∙ sym (length-replicate (e - n) x))
    ∙ paste_all t a (replicate (e - n) x) k (ek ∙ sym (length-replicate (e - n) x))
    ∙ ap (λ j. take j t ++ (replicate (e - n) x ++ drop (a + k) t)) ea
    ∙ ap (λ j. take n t ++ (replicate (e - n) x ++ drop j t)) z
