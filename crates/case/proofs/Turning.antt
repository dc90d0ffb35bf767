-- Calls that change the stage.
use Rattle.std.proofs.Common.{◌≡◌, ℕ, ◌+◌, ◌-◌, ◌<◌, ◌≤◌, List, ◌++◌, map, length, take, drop, Ok, Err, Result, sym, refl, ap, ◌∙◌, subst, inl, inr, ⊎_elim, arith}
use Rattle.std.proofs.lemmas.List.{length-map, length-take-le, take-take, take-map, take_all, take-append-le}
use Rattle.std.proofs.lemmas.Bool.{cases_eq}
use Rattle.std.proofs.Math.Bridge.{le_prop}
use Rattle.clause.specs.declared.refusal.Fault.{Fault}
use Rattle.clause.specs.declared.refusal.Refusal.TheVariants.{WrongSize, LetterRange, WrongCount, NoRoom}
use Rattle.clause.specs.Refusals.{plain}
use Rattle.clause.specs.declared.syntax.LitSet.{LitSet}
use Rattle.clause.specs.declared.syntax.Literal.{Literal}
use Rattle.protocol.specs.State as model
use Rattle.protocol.specs.Calls.{Call, open_loop, close, abandon, number, refused, Exists}
use Rattle.protocol.specs.Causes.{First, NoneOf, causes, SomeOver}
use Rattle.protocol.specs.Answers.{Answered, Adding, assumed, nevers}
use Rattle.protocol.proofs.Causing.{not_if}
use Rattle.lines.specs.declared.line.Line.{Line}
use Rattle.lines.specs.View.{line_of, lines_of, Written, Blanked, BlankFrom}
use Rattle.lines.specs.Named.{at_stage}
use Rattle.lines.proofs.Writing.{written_lines}
use Rattle.drafts.specs.Drafts.{Drafted}
use Rattle.case.specs.declared.stage.Body.{Body}
use Rattle.case.specs.declared.stage.OpenLoop.{OpenLoop}
use Rattle.case.specs.declared.stage.Sealed.{Sealed}
use Rattle.case.specs.View.{front, view_at, view_sealed, view_loop, guards_in, stage_of}
use Rattle.case.specs.Calling.{Placed, Called, AddsDraft, answer_of}
use Rattle.case.specs.Looping.{LoopOf, Turned, Opened, Closed}
use Rattle.case.proofs.Growing.{front_length, new_lines, blank_after, leads, wrong_size}
use Rattle.case.proofs.Giving.{blanked_from}

module _ {X Y : Type 0} (view : X → List Line → model.State) (view' : Y → List Line → model.State) (c : Call) (s : X) (t : List Line) where
  pub turned_refused : (f : Fault) → length t ≡ 1000 → Exists (view s t).stage c → First (causes (view s t) c) f → Turned view view' c (Err (s, f)) s t t
  turned_refused f long x q = record {
    wrong = λ z. absurd (z long);
    right = λ _. (q, refl);
    back = refl;
    onward = λ _. leads c (refused f) (view s t) t (view s t) t x (q, refl) (λ b. b);
  }

  pub turned_ok : (y : Y) (n : ℕ) (t' : List Line) → length t ≡ 1000 → Exists (view s t).stage c → Answered (view s t) c (number n) (view' y t') → (BlankFrom (model.last (view s t)) t → BlankFrom (model.last (view' y t')) t') → Turned view view' c (Ok (y, n)) s t t'
  turned_ok y n t' long x q f = record {
    wrong = λ z. absurd (z long);
    right = λ _. q;
    back = tt;
    onward = λ _. leads c (number n) (view s t) t (view' y t') t' x q f;
  }

-- lines written after the last one of a body: the table, and what is blank after it
module _ (b : Body) (t t' : List Line) (ms : List model.Line) (long : length t ≡ 1000) (w : Written b.last t ms t') (n : ℕ) (en : n ≡ b.last + length ms) (top : n ≤ length t') where
  pub grown_lines : front n t' ≡ front b.last t ++ ms
  grown_lines = ap (λ j. front j t') en ∙ written_lines b.last t ms t' (omega (arith, b.fits)) w

  pub grown_place : Written (length (front b.last t)) t (drop (length (front b.last t)) (front n t')) t'
  grown_place =
      let e = front_length b.last t (omega (arith, b.fits)) in
      subst (λ k. Written k t (drop k (front n t')) t') (sym e) (subst (λ (xs : List model.Line). Written b.last t xs t') (sym (new_lines b.last (front b.last t) ms _ e grown_lines)) w)

  pub grown_blank : BlankFrom (length (front b.last t)) t → BlankFrom (length (front n t')) t'
  grown_blank z =
      let e = front_length b.last t (omega (arith, b.fits)) in
      subst (λ k. BlankFrom k t') (sym (front_length n t' top ∙ en)) (blank_after b.last t ms t' (omega (arith, b.fits)) w (subst (λ k. BlankFrom k t) e z))

-- open
pub opened_ok : (s : Sealed) (t t' : List Line) (l : Literal) (gs : List LitSet) (o : OpenLoop) (n : ℕ) → length t ≡ 1000 → length t' ≡ length t → l.letter ≤ 19 → ¬ SomeOver gs → 1 ≤ length gs → length gs ≤ 8
    → s.body.last + length gs ≤ 1000 → LoopOf s l gs o → n ≡ s.body.last + 1 → Written s.body.last t (map (assumed l) gs) t' → Opened (open_loop l gs) (Ok (o, n)) s t t'
opened_ok s t t' l gs o n long same a w low high room is en wr =
    let m = length-map gs (assumed l) in
    let e = front_length s.body.last t (omega (arith, s.body.fits)) in
    let el : o.body.last ≡ s.body.last + length (map (assumed l) gs) = is.last ∙ ap (λ k. s.body.last + k) (sym m) in
    let top : o.body.last ≤ length t' = omega (arith, o.body.fits) in
    let first : n ≡ model.last (view_sealed s t) + 1 = en ∙ ap (λ k. k + 1) (sym e) in
    let ls = grown_lines s.body t t' (map (assumed l) gs) long wr o.body.last el top in
    let q : Answered (view_sealed s t) (open_loop l gs) (number n) (view_loop o t') = (
      (not_if _ LetterRange (⊎_elim (λ h. omega arith) w), (not_if _ WrongCount (⊎_elim (λ h. omega arith) (λ h. omega arith)), (not_if _ NoRoom (λ h. omega arith), tt))),
      (ap number first, λ i. record { stage = model.loop ((is.first ∙ ap (λ k. k + 1) (sym e)) i) (is.literal i) (is.guards i); given = is.given i; lines = ls i }),
    ) in (
      turned_ok view_sealed view_loop (open_loop l gs) s t o n t' long tt q (grown_blank s.body t t' (map (assumed l) gs) long wr o.body.last el top),
      grown_place s.body t t' (map (assumed l) gs) long wr o.body.last el top,
    )

-- a loop is told by its numbers
pub same_loop : (o : OpenLoop) (b : Body) → b ≡ o.body → (own : b.given + 1 ≤ o.first) (placed : o.first ≤ b.last + 1) (guarded : o.count ≤ 8) (plain : o.literal.letter ≤ 19) (narrow : ¬ SomeOver (guards_in o))
    → ◌≡◌ {A = OpenLoop} (record { body = b; first = o.first; literal = o.literal; guards = o.guards; count = o.count; own = own; placed = placed; guarded = guarded; plain = plain; narrow = narrow }) o
same_loop o b e = subst
    (λ (q : Body). (own : q.given + 1 ≤ o.first) (placed : o.first ≤ q.last + 1) (guarded : o.count ≤ 8) (plain : o.literal.letter ≤ 19) (narrow : ¬ SomeOver (guards_in o))
    → ◌≡◌ {A = OpenLoop} (record { body = q; first = o.first; literal = o.literal; guards = o.guards; count = o.count; own = own; placed = placed; guarded = guarded; plain = plain; narrow = narrow }) o)
    (sym e)
    (λ own placed guarded plain narrow.
    let n : narrow ≡ o.narrow = λ i x. (let p : narrow x ≡ o.narrow x = absurd (narrow x) in p i) in
    λ i. record { body = o.body; first = o.first; literal = o.literal; guards = o.guards; count = o.count; own = le_prop own o.own i; placed = le_prop placed o.placed i; guarded = le_prop guarded o.guarded i; plain = le_prop plain o.plain i; narrow = n i })

-- infer in a loop
pub loop_call : (c : Call) (r : Result ℕ Fault) (o : OpenLoop) (t : List Line) (o' : OpenLoop) (t' : List Line) → length t' ≡ length t → Exists (stage_of o) c → Adding c
    → stage_of o' ≡ stage_of o → ((length t ≡ 1000 → ⊥) → (r ≡ Err (plain WrongSize)) × (o' ≡ o) × (t' ≡ t))
    → (length t ≡ 1000 → (d : Result Line Fault) × Drafted (view_loop o t) c d × AddsDraft d r o.body t o'.body t') → Called view_loop c (answer_of r) o t o' t'
loop_call c r o t o' t' same x ad es w q = ⊎_elim
    (λ long.
    let p = q long in
    let k = p.2 (stage_of o) c ad p.1 in
    let v : view_at (stage_of o) o'.body t' ≡ view_loop o' t' = ap (λ st. view_at st o'.body t') (sym es) in
    let e = front_length o.body.last t (omega (arith, o.body.fits)) in
    let e' = front_length o'.body.last t' (omega (arith, o'.body.fits)) in
    let a : Answered (view_loop o t) c (answer_of r) (view_loop o' t') = subst (λ (u : model.State). Answered (view_loop o t) c (answer_of r) u) v k.answered in
    record {
      exact = record { wrong = λ z. absurd (z long); right = λ _. a };
      place = subst (λ (u : model.State). Placed (answer_of r) (view_loop o t) t u t') v k.place;
      onward = λ _. leads c (answer_of r) (view_loop o t) t (view_loop o' t') t' x a
          (λ z. subst (λ n. BlankFrom n t') (sym e') (k.blank (subst (λ n. BlankFrom n t) e z)));
    })
    (λ n. let p = w n in
    subst (λ (u : Result ℕ Fault). Called view_loop c (answer_of u) o t o' t') (sym p.0)
    (subst (λ (u : OpenLoop). Called view_loop c (refused (plain WrongSize)) o t u t') (sym p.1)
    (subst (λ (u : List Line). Called view_loop c (refused (plain WrongSize)) o t o u) (sym p.2) (wrong_size view_loop c (plain WrongSize) o t n refl))))
    (cases_eq (length t) 1000)

-- close
pub closed_ok : (o : OpenLoop) (t t' : List Line) (ls : List Line) (ns : List ℕ) (gs : List LitSet) (s : Sealed) (n : ℕ) → length t ≡ 1000 → length t' ≡ length t → ls ≡ take o.body.last t → gs ≡ guards_in o
    → (length ls ≡ o.body.last → NoneOf (causes (at_stage (stage_of o) o.body.given (lines_of ls)) (close ns)) × (length ns ≡ length (guards_in o)) × (o.body.last + length ns ≤ 1000))
    → s.body.last ≡ o.body.last + length ns → s.body.given ≡ o.body.given → n ≡ o.body.last + 1
    → Written o.body.last t (map (nevers o.literal ns) gs) t' → Closed (close ns) (Ok (s, n)) o t t'
closed_ok o t t' ls ns gs s n long same el eg ck es eg' en wr =
    let f = length-take-le o.body.last t (omega (arith, o.body.fits)) in
    let k = ck (ap length el ∙ f) in
    let none = subst (λ (xs : List Line). NoneOf (causes (at_stage (stage_of o) o.body.given (lines_of xs)) (close ns))) el k.0 in
    let ms = map (nevers o.literal ns) gs in
    let m : length ms ≡ length ns = length-map gs (nevers o.literal ns) ∙ ap length eg ∙ sym k.1 in
    let ez : s.body.last ≡ o.body.last + length ms = es ∙ ap (λ j. o.body.last + j) (sym m) in
    let top : s.body.last ≤ length t' = omega (arith, s.body.fits) in
    let e = front_length o.body.last t (omega (arith, o.body.fits)) in
    let lines = grown_lines o.body t t' ms long wr s.body.last ez top in
    let q : Answered (view_loop o t) (close ns) (number n) (view_sealed s t') = (
      none,
      (ap number (en ∙ ap (λ j. j + 1) (sym e)), λ i. record { stage = model.sealed; given = eg' i; lines = (lines ∙ ap (λ xs. front o.body.last t ++ map (nevers o.literal ns) xs) eg) i }),
    ) in (
      turned_ok view_loop view_sealed (close ns) o t s n t' long tt q (grown_blank o.body t t' ms long wr s.body.last ez top),
      grown_place o.body t t' ms long wr s.body.last ez top,
    )

-- abandon
pub abandoned_ok : (o : OpenLoop) (t t' : List Line) (s : Sealed) (n : ℕ) → length t ≡ 1000 → length t' ≡ length t → s.body.last ≡ o.first - 1 → s.body.given ≡ o.body.given → n ≡ o.first - 1 → Blanked (o.first - 1) o.body.last t t'
    → Turned view_loop view_sealed abandon (Ok (s, n)) o t t'
abandoned_ok o t t' s n long same es eg en b =
    let c = o.first - 1 in
    let low : c ≤ o.body.last = omega (arith, o.placed) in
    let h : c ≤ length t = omega (arith, o.body.fits) in
    let tk : take c t' ≡ take c t = ap (take c) b.table_is ∙ take-append-le c (take c t) _ (omega (arith, length-take-le c t h)) ∙ take_all c (take c t) (omega (arith, length-take-le c t h)) in
    let ls : front s.body.last t' ≡ take c (front o.body.last t) =
    ap (λ j. front j t') es ∙ ap lines_of tk ∙ sym (take-map line_of c (take o.body.last t) ∙ ap lines_of (take-take c o.body.last t low)) in
    let q : Answered (view_loop o t) abandon (number n) (view_sealed s t') = (tt, (ap number en, λ i. record { stage = model.sealed; given = eg i; lines = ls i })) in
    turned_ok view_loop view_sealed abandon o t s n t' long tt q
    (λ z. subst (λ k. BlankFrom k t') (sym (front_length s.body.last t' (omega (arith, s.body.fits)) ∙ es)) (blanked_from c o.body.last t t' h b (subst (λ k. BlankFrom k t) (front_length o.body.last t (omega (arith, o.body.fits))) z)))
