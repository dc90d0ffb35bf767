-- Records made of the fields that were read.
use Rattle.std.proofs.Common.{◌≡◌, ℕ, Bool, true, false, List, Some, None, Ok, Err, Option, Result, MatchResult, IsOkAnd, refl, ap, ◌∙◌}
use Rattle.clause.specs.declared.refusal.Fault.{Fault}
use Rattle.forms.specs.Fields.{two_of, three_of, four_of, five_of}
use Rattle.records.specs.Fields.{formed, counted, and_so, closed, one_field, two_fields, three_fields, four_fields}

-- what `map` makes of an answer
abbrev Mapped : {A R : Type 0} → (A → R → Type 0) → Result A Fault → Result R Fault → Type 0
Mapped P o r = MatchResult o (λ x. IsOkAnd r (P x)) (λ e. r ≡ Err e)

after : {A R : Type 0} → (A → R) → Result A Fault → Result R Fault
after make (Ok x) = Ok (make x)
after make (Err e) = Err e

mapped : {A R : Type 0} (P : A → R → Type 0) (make : A → R) → ((x : A) (y : R) → P x y → y ≡ make x) → (o : Result A Fault) (r : Result R Fault) → Mapped P o r → r ≡ after make o
unfolding after
mapped P make h (Ok x) (Ok y) m = ap Ok (h x y m)
mapped P make h (Ok x) (Err e) m = absurd m
mapped P make h (Err e) r m = m

-- the fields are read before a record is made of them
counted_first : {A B R : Type 0} (make : B → R) (o : Option A) (f : A → Result B Fault) (g : A → Result R Fault) → ((x : A) → after make (f x) ≡ g x) → after make (counted o f) ≡ counted o g
unfolding after
counted_first make None f g h = refl
counted_first make (Some x) f g h = h x

so_first : {A B R : Type 0} (make : B → R) (o : Result A Fault) (f : A → Result B Fault) (g : A → Result R Fault) → ((x : A) → after make (f x) ≡ g x) → after make (and_so o f) ≡ and_so o g
unfolding after
so_first make (Ok x) f g h = h x
so_first make (Err e) f g h = refl

closed_first : {B R : Type 0} (make : B → R) (e : Bool) (k : ℕ) (x : B) → after make (closed e k x) ≡ closed e k (make x)
unfolding after
closed_first make true k x = refl
closed_first make false k x = refl

pub one_made : {A R : Type 0} (P : A → R → Type 0) (f : List ℕ → Option A) (make : A → R) (fs : List (List ℕ)) (e : Bool) (o : Result A Fault) (r : Result R Fault)
    → o ≡ one_field f (λ a. a) fs e → MatchResult o (λ x. IsOkAnd r (P x)) (λ e. r ≡ Err e) → ((x : A) (y : R) → P x y → y ≡ make x) → r ≡ one_field f make fs e
one_made P f make fs e o r q m h =
    mapped P make h o r m ∙ ap (after make) q
    ∙ counted_first make (two_of fs) _ _ (λ p. so_first make (formed 2 (f p.1)) _ _ (λ a. closed_first make e 3 a))

pub two_made : {A B R : Type 0} (P : A × B → R → Type 0) (f : List ℕ → Option A) (g : List ℕ → Option B) (make : A → B → R) (fs : List (List ℕ)) (e : Bool) (o : Result (A × B) Fault) (r : Result R Fault)
    → o ≡ two_fields f g (λ a b. (a, b)) fs e → MatchResult o (λ x. IsOkAnd r (P x)) (λ e. r ≡ Err e) → ((x : A × B) (y : R) → P x y → y ≡ make x.0 x.1) → r ≡ two_fields f g make fs e
two_made {A} {B} {R} P f g make fs e o r q m h = let made : A × B → R = λ p. make p.0 p.1 in
    mapped P made h o r m ∙ ap (after made) q
    ∙ counted_first made (three_of fs) _ _ (λ p. so_first made (formed 2 (f p.1)) _ _ (λ a. so_first made (formed 3 (g p.2)) _ _ (λ b. closed_first made e 4 (a, b))))

pub three_made : {A B C R : Type 0} (P : A × B × C → R → Type 0) (f : List ℕ → Option A) (g : List ℕ → Option B) (i : List ℕ → Option C) (make : A → B → C → R) (fs : List (List ℕ)) (e : Bool) (o : Result (A × B × C) Fault) (r : Result R Fault)
    → o ≡ three_fields f g i (λ a b c. (a, b, c)) fs e → MatchResult o (λ x. IsOkAnd r (P x)) (λ e. r ≡ Err e) → ((x : A × B × C) (y : R) → P x y → y ≡ make x.0 x.1 x.2) → r ≡ three_fields f g i make fs e
three_made {A} {B} {C} {R} P f g i make fs e o r q m h = let made : A × B × C → R = λ p. make p.0 p.1 p.2 in
    mapped P made h o r m ∙ ap (after made) q
    ∙ counted_first made (four_of fs) _ _ (λ p. so_first made (formed 2 (f p.1)) _ _ (λ a. so_first made (formed 3 (g p.2)) _ _ (λ b. so_first made (formed 4 (i p.3)) _ _ (λ c. closed_first made e 5 (a, b, c)))))

pub four_made : {A B C D R : Type 0} (P : A × B × C × D → R → Type 0) (f : List ℕ → Option A) (g : List ℕ → Option B) (i : List ℕ → Option C) (j : List ℕ → Option D) (make : A → B → C → D → R) (fs : List (List ℕ)) (e : Bool) (o : Result (A × B × C × D) Fault) (r : Result R Fault)
    → o ≡ four_fields f g i j (λ a b c d. (a, b, c, d)) fs e → MatchResult o (λ x. IsOkAnd r (P x)) (λ e. r ≡ Err e) → ((x : A × B × C × D) (y : R) → P x y → y ≡ make x.0 x.1 x.2 x.3) → r ≡ four_fields f g i j make fs e
four_made {A} {B} {C} {D} {R} P f g i j make fs e o r q m h = let made : A × B × C × D → R = λ p. make p.0 p.1 p.2 p.3 in
    mapped P made h o r m ∙ ap (after made) q
    ∙ counted_first made (five_of fs) _ _ (λ p. so_first made (formed 2 (f p.1)) _ _ (λ a. so_first made (formed 3 (g p.2)) _ _ (λ b. so_first made (formed 4 (i p.3)) _ _ (λ c. so_first made (formed 5 (j p.4)) _ _ (λ d. closed_first made e 6 (a, b, c, d))))))
