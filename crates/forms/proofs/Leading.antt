-- The first part of a text, read byte by byte.
use Rattle.std.proofs.Common.{◌≡◌, ℕ, ◌+◌, ◌-◌, ◌*◌, ◌<◌, ◌≤◌, Bool, true, false, not, is_some, ◌⊎◌, List, [], ◌∷◌, length, get_or, take, drop, Some, None, Option, sym, refl, ap, ◌∙◌, ⊎_elim, arith, take_all}
use Rattle.std.proofs.lemmas.Bool.{cases_eq}
use Rattle.std.proofs.lemmas.Bool.Decides.{nat_tests}
use Rattle.std.specs.Bool.{then_some}
use Rattle.std.specs.List.{onto_first}
use Rattle.forms.specs.Cuts.{split}
use Rattle.forms.specs.Fields.{and_then}
use Rattle.forms.specs.Forms.{Left, Leads, lead, sole, alone, digits_of, number_of, signed, literal_of}
use Rattle.forms.proofs.Splits.{split_here, split_later, split_some}

-- what `[x, rest @ ..]` calls x and rest
abbrev pub rest : List ℕ → List ℕ
rest xs = take (length xs - 1) (drop 1 xs)

pub whole : (xs : List ℕ) → 0 < length xs → xs ≡ get_or xs 0 0 ∷ rest xs
whole [] h = absurd (omega arith)
whole (x ∷ xs) h = ap (λ ys. x ∷ ys) (sym (take_all _ xs (omega arith)))

pub rest_shorter : (xs : List ℕ) → 0 < length xs → length (rest xs) < length xs
rest_shorter xs h = let e = ap length (whole xs h) in omega (arith, e)

pub rest_within : (xs : List ℕ) → 0 < length xs → length (take (length xs - 1) (drop 1 xs)) ≤ length xs
rest_within xs h = let e = rest_shorter xs h in omega (arith, e)

pub same_length : (xs : List ℕ) → length xs ≤ length xs
same_length xs = omega arith

pub none_left : (xs : List ℕ) → length xs ≡ 0 → xs ≡ []
none_left [] h = refl
none_left (x ∷ xs) h = absurd (omega arith)

-- a part that begins with x
lead_onto : {A : Type 0} (f : List ℕ → Option A) (x : ℕ) (ps : List (List ℕ)) → 0 < length ps → lead f (onto_first x ps) ≡ lead (λ p. f (x ∷ p)) ps
lead_onto f x [] h = absurd (omega arith)
lead_onto f x (p ∷ ps) h = refl

lead_later : {A : Type 0} (f : List ℕ → Option A) (x : ℕ) (xs : List ℕ) → (x ≡ 32 → ⊥) → lead f (split 32 (x ∷ xs)) ≡ lead (λ p. f (x ∷ p)) (split 32 xs)
lead_later f x xs n = ap (lead f) (split_later 32 x xs n) ∙ lead_onto f x (split 32 xs) (split_some 32 xs)

lead_here : {A : Type 0} (f : List ℕ → Option A) (x : ℕ) (xs : List ℕ) → x ≡ 32 → lead f (split 32 (x ∷ xs)) ≡ and_then (f []) (λ a. Some (a, split 32 xs))
lead_here f x xs e = ap (lead f) (split_here 32 x xs e)

lead_same : {A : Type 0} (f g : List ℕ → Option A) (ps : List (List ℕ)) → ((p : List ℕ) → f p ≡ g p) → lead f ps ≡ lead g ps
lead_same f g [] h = refl
lead_same f g (p ∷ ps) h = ap (λ z. and_then z (λ x. Some (x, ps))) (h p)

-- a part that begins with x says nothing
lead_none : {A : Type 0} (f : List ℕ → Option A) (ps : List (List ℕ)) → ((p : List ℕ) → f p ≡ None) → lead f ps ≡ None
lead_none f [] h = refl
lead_none f (p ∷ ps) h = ap (λ z. and_then z (λ x. Some (x, ps))) (h p)

-- the text of code is a first byte and a rest
by_whole : {A : Type 0} (f : List ℕ → Option A) (xs : List ℕ) → 0 < length xs → lead f (split 32 xs) ≡ lead f (split 32 (get_or xs 0 0 ∷ rest xs))
by_whole f xs h = ap (λ ys. lead f (split 32 ys)) (whole xs h)

pub begins : {A : Type 0} (f g : List ℕ → Option A) (xs : List ℕ) → 0 < length xs → (get_or xs 0 0 ≡ 32 → ⊥) → ((p : List ℕ) → f (get_or xs 0 0 ∷ p) ≡ g p) → lead f (split 32 xs) ≡ lead g (split 32 (rest xs))
begins f g xs h n e = by_whole f xs h ∙ lead_later f (get_or xs 0 0) (rest xs) n ∙ lead_same _ g (split 32 (rest xs)) e

pub begins_none : {A : Type 0} (f : List ℕ → Option A) (xs : List ℕ) → 0 < length xs → (get_or xs 0 0 ≡ 32 → ⊥) → ((p : List ℕ) → f (get_or xs 0 0 ∷ p) ≡ None) → lead f (split 32 xs) ≡ None
begins_none f xs h n e = by_whole f xs h ∙ lead_later f (get_or xs 0 0) (rest xs) n ∙ lead_none _ (split 32 (rest xs)) e

pub begins_space : {A : Type 0} (f : List ℕ → Option A) (xs : List ℕ) → 0 < length xs → get_or xs 0 0 ≡ 32 → lead f (split 32 xs) ≡ and_then (f []) (λ a. Some (a, split 32 (rest xs)))
begins_space f xs h e = by_whole f xs h ∙ lead_here f (get_or xs 0 0) (rest xs) e

-- a number that ends here
pub alone_end : (n : ℕ) (xs : List ℕ) → length xs < 1 → lead (alone n) (split 32 xs) ≡ Some (n, [])
alone_end n xs h = ap (λ ys. lead (alone n) (split 32 ys)) (none_left xs (omega arith))

pub alone_space : (n : ℕ) (xs : List ℕ) → 0 < length xs → get_or xs 0 0 ≡ 32 → lead (alone n) (split 32 xs) ≡ Some (n, split 32 (take (length xs - 1) (drop 1 xs)))
alone_space n xs h e = begins_space (alone n) xs h e

pub alone_none : (n : ℕ) (xs : List ℕ) → 0 < length xs → (get_or xs 0 0 ≡ 32 → ⊥) → lead (alone n) (split 32 xs) ≡ None
alone_none n xs h e = begins_none (alone n) xs h e (λ p. refl)

-- digits
digit_on : (n x : ℕ) (p : List ℕ) → 48 ≤ x → x ≤ 57 → n < 1000 → digits_of n (x ∷ p) ≡ digits_of (n * 10 + (x - 48)) p
digit_on n x p a b c = grind (arith, nat_tests)

digit_bad : (n x : ℕ) (p : List ℕ) → (x < 48) ⊎ ((57 < x) ⊎ (1000 ≤ n)) → digits_of n (x ∷ p) ≡ None
digit_bad n x p h = grind (arith, nat_tests)

pub digits_step : (n : ℕ) (xs : List ℕ) → 0 < length xs → 48 ≤ get_or xs 0 0 → get_or xs 0 0 ≤ 57 → n < 1000
    → lead (digits_of n) (split 32 xs) ≡ lead (digits_of (n * 10 + (get_or xs 0 0 - 48))) (split 32 (take (length xs - 1) (drop 1 xs)))
digits_step n xs h a b c = begins (digits_of n) (digits_of (n * 10 + (get_or xs 0 0 - 48))) xs h (λ e. absurd (omega arith)) (λ p. digit_on n (get_or xs 0 0) p a b c)

-- where no digit may follow, a number ends or is none
pub digits_stop : (n : ℕ) (xs : List ℕ) → 0 < length xs → (get_or xs 0 0 < 48) ⊎ ((57 < get_or xs 0 0) ⊎ (1000 ≤ n)) → lead (digits_of n) (split 32 xs) ≡ lead (alone n) (split 32 xs)
digits_stop n xs h w = ⊎_elim
    (λ e. begins_space (digits_of n) xs h e ∙ sym (begins_space (alone n) xs h e))
    (λ e. begins_none (digits_of n) xs h e (λ p. digit_bad n (get_or xs 0 0) p w) ∙ sym (alone_none n xs h e))
    (cases_eq (get_or xs 0 0) 32)

pub digits_stop_end : (n : ℕ) (xs : List ℕ) → length xs < 1 → lead (digits_of n) (split 32 xs) ≡ lead (alone n) (split 32 xs)
digits_stop_end n [] h = refl
digits_stop_end n (x ∷ xs) h = absurd (omega arith)

-- a number's first digit
zero_on : (x : ℕ) (p : List ℕ) → x ≡ 48 → number_of (x ∷ p) ≡ alone 0 p
zero_on x p e = grind (arith, nat_tests)

first_on : (x : ℕ) (p : List ℕ) → 49 ≤ x → x ≤ 57 → number_of (x ∷ p) ≡ digits_of (x - 48) p
first_on x p a b = grind (arith, nat_tests)

first_bad : (x : ℕ) (p : List ℕ) → (x < 48) ⊎ (57 < x) → number_of (x ∷ p) ≡ None
first_bad x p h = grind (arith, nat_tests)

pub number_zero : (xs : List ℕ) → 0 < length xs → get_or xs 0 0 ≡ 48 → lead number_of (split 32 xs) ≡ lead (alone 0) (split 32 (take (length xs - 1) (drop 1 xs)))
number_zero xs h e = begins number_of (alone 0) xs h (λ q. absurd (omega arith)) (λ p. zero_on (get_or xs 0 0) p e)

pub number_first : (xs : List ℕ) → 0 < length xs → 49 ≤ get_or xs 0 0 → get_or xs 0 0 ≤ 57 → lead number_of (split 32 xs) ≡ lead (digits_of (get_or xs 0 0 - 48)) (split 32 (take (length xs - 1) (drop 1 xs)))
number_first xs h a b = begins number_of (digits_of (get_or xs 0 0 - 48)) xs h (λ q. absurd (omega arith)) (λ p. first_on (get_or xs 0 0) p a b)

pub number_bad : (xs : List ℕ) → 0 < length xs → (get_or xs 0 0 < 48) ⊎ (57 < get_or xs 0 0) → lead number_of (split 32 xs) ≡ None
number_bad xs h w = ⊎_elim
    (λ e. begins_space number_of xs h e)
    (λ e. begins_none number_of xs h e (λ p. first_bad (get_or xs 0 0) p w))
    (cases_eq (get_or xs 0 0) 32)

pub number_end : (xs : List ℕ) → length xs < 1 → lead number_of (split 32 xs) ≡ None
number_end [] h = refl
number_end (x ∷ xs) h = absurd (omega arith)

-- a sign
plus_on : (x : ℕ) (p : List ℕ) → x ≡ 43 → literal_of (x ∷ p) ≡ signed true p
plus_on x p e = grind (arith, nat_tests)

minus_on : (x : ℕ) (p : List ℕ) → x ≡ 45 → literal_of (x ∷ p) ≡ signed false p
minus_on x p e = grind (arith, nat_tests)

sign_bad : (x : ℕ) (p : List ℕ) → (x ≡ 43 → ⊥) → (x ≡ 45 → ⊥) → literal_of (x ∷ p) ≡ None
sign_bad x p a b = grind (arith, nat_tests)

pub literal_plus : (xs : List ℕ) → 0 < length xs → get_or xs 0 0 ≡ 43 → lead literal_of (split 32 xs) ≡ lead (signed true) (split 32 (take (length xs - 1) (drop 1 xs)))
literal_plus xs h e = begins literal_of (signed true) xs h (λ q. absurd (omega arith)) (λ p. plus_on (get_or xs 0 0) p e)

pub literal_minus : (xs : List ℕ) → 0 < length xs → get_or xs 0 0 ≡ 45 → lead literal_of (split 32 xs) ≡ lead (signed false) (split 32 (take (length xs - 1) (drop 1 xs)))
literal_minus xs h e = begins literal_of (signed false) xs h (λ q. absurd (omega arith)) (λ p. minus_on (get_or xs 0 0) p e)

pub literal_bad : (xs : List ℕ) → 0 < length xs → (get_or xs 0 0 ≡ 43 → ⊥) → (get_or xs 0 0 ≡ 45 → ⊥) → lead literal_of (split 32 xs) ≡ None
literal_bad xs h a b = ⊎_elim
    (λ e. begins_space literal_of xs h e)
    (λ e. begins_none literal_of xs h e (λ p. sign_bad (get_or xs 0 0) p a b))
    (cases_eq (get_or xs 0 0) 32)

pub literal_end : (xs : List ℕ) → length xs < 1 → lead literal_of (split 32 xs) ≡ None
literal_end [] h = refl
literal_end (x ∷ xs) h = absurd (omega arith)

some_same : {A : Type 0} (x y : A) → Some x ≡ Some y → x ≡ y
some_same x y h = cc

-- the parts that lead has passed
lead_back : {A : Type 0} (o : Option A) (ps : List (List ℕ)) → and_then {B = A × List (List ℕ)} o (λ x. Some (x, ps)) ≡ None → o ≡ None
lead_back None ps h = refl
lead_back (Some x) ps h = let z : ◌≡◌ {A = ℕ} 0 1 = cc in absurd (omega arith)

lead_on : {A : Type 0} (o : Option A) (ps qs : List (List ℕ)) (w : A) → and_then {B = A × List (List ℕ)} o (λ x. Some (x, ps)) ≡ Some (w, qs) → (o ≡ Some w) × (ps ≡ qs)
lead_on None ps qs w h = let z : ◌≡◌ {A = ℕ} 0 1 = cc in absurd (omega arith)
lead_on (Some x) ps qs w h = let e = some_same (x, ps) (w, qs) h in (ap (λ z. Some z.0) e, ap (λ z. z.1) e)

-- a list of parts that begins so
pub lead_parts : {A : Type 0} (f : List ℕ → Option A) (ps qs : List (List ℕ)) (w : A) → lead f ps ≡ Some (w, qs) → (p : List ℕ) × (ps ≡ p ∷ qs) × (f p ≡ Some w)
lead_parts f [] qs w h = let z : ◌≡◌ {A = ℕ} 0 1 = cc in absurd (omega arith)
lead_parts f (p ∷ ps) qs w h = let q = lead_on (f p) ps qs w h in (p, ap (λ rs. p ∷ rs) q.1, q.0)

pub lead_stops : {A : Type 0} (f : List ℕ → Option A) (ps : List (List ℕ)) → 0 < length ps → lead f ps ≡ None → (p : List ℕ) × (qs : List (List ℕ)) × (ps ≡ p ∷ qs) × (f p ≡ None)
lead_stops f [] h e = absurd (omega arith)
lead_stops f (p ∷ ps) h e = (p, ps, refl, lead_back (f p) ps e)

-- a field of one part
pub sole_none : {A : Type 0} (f : List ℕ → Option A) (ps : List (List ℕ)) → lead f ps ≡ None → sole f ps ≡ None
sole_none f [] h = refl
sole_none f (p ∷ []) h = lead_back (f p) [] h
sole_none f (p ∷ q ∷ ps) h = refl

pub sole_one : {A : Type 0} (f : List ℕ → Option A) (ps : List (List ℕ)) (w : A) → lead f ps ≡ Some (w, []) → sole f ps ≡ Some w
sole_one f ps w h = let q = lead_parts f ps [] w h in ap (sole f) q.1 ∙ q.2

sole_two : {A : Type 0} (f : List ℕ → Option A) (p : List ℕ) (qs : List (List ℕ)) → 0 < length qs → sole f (p ∷ qs) ≡ None
sole_two f p [] h = absurd (omega arith)
sole_two f p (q ∷ qs) h = refl

pub sole_more : {A : Type 0} (f : List ℕ → Option A) (ps : List (List ℕ)) (w : A) (xs : List ℕ) → lead f ps ≡ Some (w, split 32 xs) → None ≡ sole f ps
sole_more f ps w xs h = let q = lead_parts f ps (split 32 xs) w h in sym (ap (sole f) q.1 ∙ sole_two f q.0 (split 32 xs) (split_some 32 xs))

-- the one part of a field, where no text is left after it
pub sole_left : {A S : Type 0} (text : S → List ℕ) (f : List ℕ → Option A) (ps : List (List ℕ)) (bound : ℕ) (w : A) (after : Option S) → Left text (lead f ps) bound w after → then_some (not (is_some after)) w ≡ sole f ps
sole_left text f ps bound w None h = sym (sole_one f ps w h)
sole_left text f ps bound w (Some s) h = sole_more f ps w (text s) h.0

-- a number with its sign
pub signed_none : (s : Bool) (ps : List (List ℕ)) → lead number_of ps ≡ None → lead (signed s) ps ≡ None
signed_none s [] h = refl
signed_none s (p ∷ ps) h = ap (λ o. and_then (and_then o (λ n. Some (record { letter = n; positive = s }))) (λ x. Some (x, ps))) (lead_back (number_of p) ps h)

pub signed_some : (s : Bool) (ps qs : List (List ℕ)) (n : ℕ) → lead number_of ps ≡ Some (n, qs) → lead (signed s) ps ≡ Some (record { letter = n; positive = s }, qs)
signed_some s ps qs n h =
    let q = lead_parts number_of ps qs n h in
    ap (lead (signed s)) q.1 ∙ ap (λ o. and_then (and_then o (λ m. Some (record { letter = m; positive = s }))) (λ x. Some (x, qs))) q.2

-- the same of another text
left_by : {A S : Type 0} (text : S → List ℕ) (o o' : Option (A × List (List ℕ))) (b b' : ℕ) (x : A) (r : Option S) → o ≡ o' → b' ≤ b → Left text o' b' x r → Left text o b x r
left_by text o o' b b' x None e l h = e ∙ h
left_by text o o' b b' x (Some s) e l h = let k = h.1 in (e ∙ h.0, omega (arith, k, l))

pub leads_by : {A S : Type 0} (text : S → List ℕ) (o o' : Option (A × List (List ℕ))) (b b' : ℕ) (r : Option (A × Option S)) → o ≡ o' → b' ≤ b → Leads text o' b' r → Leads text o b r
leads_by text o o' b b' None e l h = e ∙ h
leads_by text o o' b b' (Some p) e l h = left_by text o o' b b' p.0 p.1 e l h
