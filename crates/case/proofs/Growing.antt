-- A table and its state grow by the lines that are written.
use Rattle.std.proofs.Common.{◌≡◌, ℕ, zero, suc, ◌+◌, ◌<◌, ◌≤◌, Option, List, [], ◌∷◌, ◌++◌, length, take, drop, set, Ok, Err, Result, sym, refl, ap, ◌∙◌, subst, inl, ⊎_elim, arith}
use Rattle.std.specs.List.{AllByRecursion}
use Rattle.std.proofs.lemmas.List.{append_assoc, length-append, length-map, length-take-le, drop-drop}
use Rattle.std.proofs.lemmas.Bool.{cases_eq}
use Rattle.clause.specs.declared.refusal.Fault.{Fault}
use Rattle.clause.specs.declared.refusal.Refusal.TheVariants.{NoRoom, WrongSize}
use Rattle.clause.specs.Refusals.{plain}
use Rattle.protocol.specs.State as model
use Rattle.protocol.specs.Calls.{Call, Answer, number, refused, Exists}
use Rattle.protocol.specs.Causes.{Cause, First, NoneOf, checks, places, full, causes}
use Rattle.protocol.specs.Answers.{Answered, Adding, Adds, added}
use Rattle.protocol.proofs.Causing.{none_both, first_after, first_left, not_if}
use Rattle.protocol.proofs.Adding.{one_place, adding_result}
use Rattle.lines.specs.declared.line.Line.{Line}
use Rattle.lines.specs.View.{line_of, Tidy, Written, BlankFrom, IsBlank}
use Rattle.lines.specs.Named.{LoopFrom}
use Rattle.lines.proofs.Writing.{written_none, written_push, written_lines}
use Rattle.protocol.specs.History.{then}
use Rattle.drafts.specs.Drafts.{Drafted, SealedDraft, StageDraft}
use Rattle.case.specs.declared.stage.Body.{Body}
use Rattle.case.specs.declared.stage.Sealed.{Sealed}
use Rattle.case.specs.View.{front, view_at, view_sealed}
use Rattle.case.specs.Calling.{answer_of, Put, AddedBy, AddsDraft, Led, Called}

-- the number of lines
pub front_length : (n : ℕ) (t : List Line) → n ≤ length t → length (front n t) ≡ n
front_length n t h = length-map (take n t) line_of ∙ length-take-le n t h

drop_front : {X : Type 0} (a b : List X) → drop (length a) (a ++ b) ≡ b
drop_front [] b = refl
drop_front (x ∷ a) b = drop_front a b

-- the new lines of a state that has grown
pub new_lines : {X : Type 0} (n : ℕ) (a b c : List X) → length a ≡ n → c ≡ a ++ b → drop n c ≡ b
new_lines n a b c e q = ap (drop n) q ∙ ap (λ m. drop m (a ++ b)) (sym e) ∙ drop_front a b

drop_more_all : {X : Type 0} (P : X → Type 0) (m : ℕ) (xs : List X) → AllByRecursion P xs → AllByRecursion P (drop m xs)
drop_more_all P zero xs a = a
drop_more_all P (suc m) [] a = tt
drop_more_all P (suc m) (x ∷ xs) a = drop_more_all P m xs a.1

-- the places after what was written are as they were
pub written_tail : (n : ℕ) (t : List Line) (ms : List model.Line) (t' : List Line) → n ≤ length t → Written n t ms t' → drop (n + length ms) t' ≡ drop (n + length ms) t
written_tail n t ms t' h w =
    let xs = w.places in
    let l : length xs ≡ length ms = sym (length-map xs line_of) ∙ ap length w.lines_are in
    let f : length (take n t ++ xs) ≡ n + length ms = length-append (take n t) xs ∙ ap (λ j. j + length xs) (length-take-le n t h) ∙ ap (λ j. n + j) l in
    new_lines (n + length ms) (take n t ++ xs) (drop (n + length xs) t) t' f (w.table_is ∙ sym (append_assoc (take n t) xs _)) ∙ ap (λ j. drop (n + j) t) l

pub blank_after : (n : ℕ) (t : List Line) (ms : List model.Line) (t' : List Line) → n ≤ length t → Written n t ms t' → BlankFrom n t → BlankFrom (n + length ms) t'
blank_after n t ms t' h w b = subst (AllByRecursion IsBlank) (drop-drop (length ms) n t ∙ sym (written_tail n t ms t' h w)) (drop_more_all IsBlank (length ms) (drop n t) b)

-- one place set
pub set_written : (n : ℕ) (t : List Line) (x : Line) → n < length t → Tidy x → Written n t (line_of x ∷ []) (set t n x)
set_written n t x h ty = let e : n + 0 ≡ n = omega arith in
    subst (λ m. Written n t (line_of x ∷ []) (set t m x)) e (written_push n t t [] x (line_of x) (omega arith) refl ty (written_none n t))

module _ (b : Body) (t : List Line) (long : length t ≡ 1000) (st : model.Stage) (c : Call) (ad : Adding c) where
  abbrev here : model.State
  here = view_at st b t

  last_is : model.last here ≡ b.last
  last_is = front_length b.last t (omega (arith, b.fits))

  causes_are : causes here c ≡ checks here c ++ full here 1
  causes_are = ap (λ Ps. checks here c ++ Ps) (one_place here c ad)

  pub checked_refusal : (f : Fault) → First (checks here c) f → First (causes here c) f
  checked_refusal f q = first_left (checks here c) (places here c) f q

  pub no_place : (f : Fault) → NoneOf (checks here c) → 1000 ≤ b.last → f ≡ plain NoRoom → First (causes here c) f
  no_place f none h e = subst (λ (Ps : List Cause). First Ps f) (sym causes_are) (first_after (checks here c) (full here 1) f none (inl (omega (arith, last_is), e)))

  -- a refusal handed on
  pub not_added : (r : Result ℕ Fault) (f : Fault) (t' : List Line) → (g : Fault) × (r ≡ Err g) × (g ≡ f) → t' ≡ t → First (causes here c) f → AddedBy st c (answer_of r) b t b t'
  not_added r f t' p e q =
      let a : AddedBy st c (refused f) b t b t = record { answered = (q, refl); place = refl; blank = λ z. z } in
      subst (λ (u : Result ℕ Fault). AddedBy st c (answer_of u) b t b t') (sym p.1) (subst (λ (g : Fault). AddedBy st c (refused g) b t b t') (sym p.2) (subst (AddedBy st c (refused f) b t b) (sym e) a))

  pub line_added : (x : Line) (n : ℕ) (b' : Body) (t' : List Line) → NoneOf (checks here c) → Adds here c (line_of x) → Tidy x → Put 1000 b.last t x (Ok n) t' → b'.last ≡ n → b'.given ≡ b.given → AddedBy st c (number n) b t b' t'
  line_added x n b' t' none ads ty p en eg =
      let h = p.0 in
      let last : b'.last ≡ b.last + 1 = en ∙ p.1 in
      let w : Written b.last t (line_of x ∷ []) t' = subst (Written b.last t (line_of x ∷ [])) (sym p.2) (set_written b.last t x (omega arith) ty) in
      let ls : front b'.last t' ≡ front b.last t ++ (line_of x ∷ []) = ap (λ k. front k t') last ∙ written_lines b.last t (line_of x ∷ []) t' (omega arith) w in
      let vw : view_at st b' t' ≡ added here (line_of x ∷ []) = λ i. record { stage = st; given = eg i; lines = ls i } in
      record {
        answered = (
          subst NoneOf (sym causes_are) (none_both (checks here c) (full here 1) none (not_if _ NoRoom (λ q. omega (arith, last_is)), tt)),
          adding_result here c (number n) (view_at st b' t') ad (line_of x, ads, ap number (p.1 ∙ ap (λ k. k + 1) (sym last_is)), vw),
        );
        place = subst (λ k. Written k t (drop k (front b'.last t')) t') (sym last_is)
            (subst (λ (ms : List model.Line). Written b.last t ms t') (sym (new_lines b.last (front b.last t) (line_of x ∷ []) _ last_is ls)) w);
        blank = λ z. subst (λ k. BlankFrom k t') (sym last) (blank_after b.last t (line_of x ∷ []) t' (omega arith) w z);
      }

-- whatever led here leads on
pub leads : (c : Call) (a : Answer) (s : model.State) (t : List Line) (s' : model.State) (t' : List Line) → Exists s.stage c → Answered s c a s' → (BlankFrom (model.last s) t → BlankFrom (model.last s') t')
    → (h : List (Call × Answer)) → Led h s t → Led ((c, a) ∷ h) s' t'
leads c a s t s' t' x q f h l = record { history = then c a s' l.history x q; blank = f l.blank }

-- a table of another size
pub wrong_size : {X : Type 0} (view : X → List Line → model.State) (c : Call) (f : Fault) (s : X) (t : List Line) → (length t ≡ 1000 → ⊥) → f ≡ plain WrongSize → Called view c (refused f) s t s t
wrong_size view c f s t n e = record {
  exact = record { wrong = λ _. (ap refused e, refl, refl); right = λ z. absurd (n z) };
  place = refl;
  onward = λ z. absurd (n z);
}

-- a call refused
pub refused_call : {X : Type 0} (view : X → List Line → model.State) (c : Call) (f : Fault) (s : X) (t : List Line) → length t ≡ 1000 → Exists (view s t).stage c → First (causes (view s t) c) f → Called view c (refused f) s t s t
refused_call view c f s t long x q = record {
  exact = record { wrong = λ z. absurd (z long); right = λ _. (q, refl) };
  place = refl;
  onward = λ _. leads c (refused f) (view s t) t (view s t) t x (q, refl) (λ b. b);
}

pub sealed_adds : (c : Call) (d : Result Line Fault) (r : Result ℕ Fault) (s : Sealed) (t : List Line) (s' : Sealed) (t' : List Line) → length t ≡ 1000 → length t' ≡ length t → Exists model.sealed c → Adding c
    → Drafted (view_sealed s t) c d → AddsDraft d r s.body t s'.body t' → Called view_sealed c (answer_of r) s t s' t'
sealed_adds c d r s t s' t' long same x ad dr q =
    let w = q model.sealed c ad dr in
    let e = front_length s.body.last t (omega (arith, s.body.fits)) in
    let e' = front_length s'.body.last t' (omega (arith, s'.body.fits)) in
    record {
      exact = record { wrong = λ z. absurd (z long); right = λ _. w.answered };
      place = w.place;
      onward = λ _. leads c (answer_of r) (view_sealed s t) t (view_sealed s' t') t' x w.answered
          (λ b. subst (λ n. BlankFrom n t') (sym e') (w.blank (subst (λ n. BlankFrom n t) e b)));
    }

-- what is drafted at the lines of a case
pub sealed_draft : (c : Call) (d r : Result Line Fault) (b : Body) (t ls : List Line) → d ≡ r → ls ≡ take b.last t → SealedDraft ls c r → Drafted (view_at model.sealed b t) c d
sealed_draft c d r b t ls h e q =
    subst (λ (x : Result Line Fault). Drafted (view_at model.sealed b t) c x) (sym h) (subst (λ (xs : List Line). SealedDraft xs c r) e q b.given)

pub stage_draft : (first : Option ℕ) (st : model.Stage) (c : Call) (d r : Result Line Fault) (b : Body) (t ls : List Line) → LoopFrom first (length ls) st → d ≡ r → ls ≡ take b.last t → StageDraft first ls c r → Drafted (view_at st b t) c d
stage_draft first st c d r b t ls from h e q =
    subst (λ (x : Result Line Fault). Drafted (view_at st b t) c x) (sym h) (subst (λ (xs : List Line). StageDraft first xs c r) e q st b.given (subst (λ (xs : List Line). LoopFrom first (length xs) st) e from))

-- a call on a sealed case that drafts one line
pub sealed_call : (c : Call) (r : Result ℕ Fault) (s : Sealed) (t : List Line) (s' : Sealed) (t' : List Line) → length t' ≡ length t → Exists model.sealed c → Adding c
    → ((length t ≡ 1000 → ⊥) → (r ≡ Err (plain WrongSize)) × (s'.body ≡ s.body) × (t' ≡ t))
    → (length t ≡ 1000 → (d : Result Line Fault) × Drafted (view_sealed s t) c d × AddsDraft d r s.body t s'.body t') → Called view_sealed c (answer_of r) s t s' t'
sealed_call c r s t s' t' same x ad w q = ⊎_elim
    (λ e. let p = q e in sealed_adds c p.0 r s t s' t' e same x ad p.1 p.2)
    (λ n. let p = w n in
    subst (λ (u : Result ℕ Fault). Called view_sealed c (answer_of u) s t s' t') (sym p.0)
    (subst (λ (u : Body). Called view_sealed c (refused (plain WrongSize)) s t (record { body = u }) t') (sym p.1)
    (subst (λ (u : List Line). Called view_sealed c (refused (plain WrongSize)) s t s u) (sym p.2) (wrong_size view_sealed c (plain WrongSize) s t n refl))))
    (cases_eq (length t) 1000)
