-- An accepted refutation in a text is a contradiction of the clauses that are written there.
use Rattle.std.proofs.Common.{◌≡◌, ℕ, ◌+◌, ◌-◌, ◌<◌, ◌≤◌, Bool, List, [], ◌∷◌, ◌++◌, length, IfOk, Some, None, Ok, Err, Result, sym, refl, ap, ◌∙◌, subst, ⊎_elim, arith}
use Rattle.std.proofs.lemmas.Bool.{cases_lt}
use Rattle.std.proofs.lemmas.List.{length_push, get_or_append_left, get_or_at, append-nil, append_assoc}
use Rattle.clause.specs.declared.refusal.Fault.{Fault}
use Rattle.clause.specs.declared.syntax.Clause.{Clause}
use Rattle.clause.specs.Meaning.{Keeps}
use Rattle.rules.specs.ResolvingSound.{resolving}
use Rattle.rules.specs.TryingSound.{trying}
use Rattle.protocol.specs.State as model
use Rattle.protocol.specs.Calls.{Call, Answer, number, core, Exists, give, seal, infer, wait_line, wait_literal, open_loop, close, abandon, draw, draw_alone, refute}
use Rattle.protocol.specs.Answers.{Answered, derived}
use Rattle.protocol.specs.History.{History, begun, then}
use Rattle.protocol.proofs.Invariant.{IsIntake}
use Rattle.protocol.proofs.Steps.{Frozen, step}
use Rattle.protocol.proofs.Histories.{holds}
use Rattle.protocol.proofs.Histories as past
use Rattle.lines.specs.declared.line.Line.{Line}
use Rattle.case.specs.declared.stage.Sealed.{Sealed}
use Rattle.case.specs.View.{view_sealed}
use Rattle.records.specs.declared.record.Record.{Record}
use Rattle.records.specs.declared.record.Record.TheVariants.{Give, Seal, WaitLine, WaitLiteral, Resolve, Trial, OpenLoop, CloseLoop, Abandon, DrawFor, Draw, Refute}
use Rattle.records.specs.Records.{record_of}
use Rattle.text.specs.declared.stage.Verdict.{Verdict}
use Rattle.text.specs.declared.stage.Verdict.TheVariants.{Open, Contradiction}
use Rattle.text.specs.Calls.{Step, listed, guarded}
use Rattle.text.specs.Reading.{Found, Reads, ends, stops, goes, verdict, Judged, Ending, found, told, Comes}
use Rattle.text.specs.Promise.{given_by, given_in, givens, Core, Promised, Agrees, NoRun}
use Rattle.text.proofs.Standings.{at, no_ok}

abbrev Sound : Found → model.State → List ℕ → List Clause → Type 0
Sound None s row cs = Unit {0}
Sound (Some p) s row cs = (¬ IsIntake s.stage) × Core cs row p.count

record Good (v : Found) (s : model.State) (row : List ℕ) (cs : List Clause) : Type 0 where
  story : (h : List (Call × Answer)) × History h s
  agrees : Agrees s cs
  sound : Sound v s row cs

-- the clauses so far, with a record's own
abbrev more : Record → List Clause → List Clause
more (Give c) cs = cs ++ (c ∷ [])
more Seal cs = cs
more (WaitLine n) cs = cs
more (WaitLiteral l) cs = cs
more (Resolve a b k) cs = cs
more (Trial n x ns) cs = cs
more (OpenLoop l gs) cs = cs
more (CloseLoop ns) cs = cs
more Abandon cs = cs
more (DrawFor n m) cs = cs
more (Draw n) cs = cs
more (Refute n) cs = cs

more_is : (w : Record) (cs gs : List Clause) → more w cs ++ gs ≡ cs ++ given_by w gs
more_is (Give c) cs ds = append_assoc cs (c ∷ []) ds
more_is Seal cs ds = refl
more_is (WaitLine n) cs ds = refl
more_is (WaitLiteral l) cs ds = refl
more_is (Resolve a b k) cs ds = refl
more_is (Trial n x ns) cs ds = refl
more_is (OpenLoop l gs) cs ds = refl
more_is (CloseLoop ns) cs ds = refl
more_is Abandon cs ds = refl
more_is (DrawFor n m) cs ds = refl
more_is (Draw n) cs ds = refl
more_is (Refute n) cs ds = refl

same_row : (v : Found) (s t : model.State) (row row' : List ℕ) (cs : List Clause) → ¬ IsIntake t.stage → row' ≡ row → Sound v s row cs → Sound v t row' cs
same_row None s t row row' cs late e q = tt
same_row (Some p) s t row row' cs late e q = (late, subst (λ (z : List ℕ). Core cs z p.count) (sym e) q.1)

frozen_agrees : (s t : model.State) (cs : List Clause) → Frozen s t → Agrees s cs → Agrees t cs
frozen_agrees s t cs f a = let e = f.1 in (a.0 ∙ sym f.1, λ m h k. let k' : m ≤ s.given = omega arith in f.2 m h k' ∙ a.1 m h k')

-- a call after the intake that leaves the row alone
late_good : (v : Found) (s : model.State) (row row' : List ℕ) (cs : List Clause) (c : Call) (a : Answer) (t : model.State) → ¬ IsIntake s.stage
    → Good v s row cs → Exists s.stage c → Answered s c a t → row' ≡ row → Good v t row' cs
late_good v s row row' cs c a t late g x q e =
    let f = (step s c a t (holds g.story.1) x q).frozen late in
    record { story = ((c, a) ∷ g.story.0, then c a t g.story.1 x q); agrees = frozen_agrees s t cs f g.agrees; sound = same_row v s t row row' cs f.0 e g.sound }

core_of : (s : model.State) (cs : List Clause) (n count : ℕ) (before row : List ℕ) (t : model.State) (h : List (Call × Answer)) → History h s → Agrees s cs
    → Exists s.stage (refute n before) → Answered s (refute n before) (core row count) t → Core cs row count
core_of s cs n count before row t h hi a x q =
    let k = ((past.promise).1 h s hi).refuted n count before row t x q in
    let l = a.0 in (
      k.0,
      k.2,
      k.4,
      (λ m y. let b = k.1.within m y in let u = b.0 in let w = b.1 in (u, omega arith)),
      λ r w. k.5 r (λ m y. let b = k.1.within m y in subst (Keeps r) (sym (a.1 m b.0 b.1)) (w m y)),
    )

refute_good : (v : Found) (s : model.State) (row row' : List ℕ) (cs : List Clause) (n m : ℕ) (t : model.State) → ¬ IsIntake s.stage
    → Good v s row cs → Exists s.stage (refute n row) → Answered s (refute n row) (core row' m) t → Good (Some (record { line = n; count = m })) t row' cs
refute_good v s row row' cs n m t late g x q =
    let c = refute n row in let a = core row' m in
    let f = (step s c a t (holds g.story.1) x q).frozen late in
    record {
      story = ((c, a) ∷ g.story.0, then c a t g.story.1 x q);
      agrees = frozen_agrees s t cs f g.agrees;
      sound = (f.0, core_of s cs n m row row' t g.story.0 g.story.1 g.agrees x q);
    }

given_agrees : (g : ℕ) (ls : List model.Line) (cs : List Clause) (c : Clause) → g ≡ length ls → Agrees (at model.intake g ls) cs → Agrees (at model.intake (g + 1) (ls ++ (derived c [] ∷ []))) (cs ++ (c ∷ []))
given_agrees g ls cs c e a =
    let l = a.0 in (
      length_push cs c ∙ ap (λ n. n + 1) l,
      λ m h k. ⊎_elim
          (λ q. let i : m - 1 < length ls = omega arith in let j : m - 1 < length cs = omega arith in
          ap (λ (x : model.Line). x.clause) (get_or_append_left ls _ _ (m - 1) i) ∙ a.1 m h (omega arith) ∙ sym (get_or_append_left cs _ _ (m - 1) j))
          (λ q. let i : length ls ≡ m - 1 = omega arith in let j : length cs ≡ m - 1 = omega arith in
          ap (λ (x : model.Line). x.clause) (get_or_at ls _ [] _ (m - 1) i) ∙ sym (get_or_at cs c [] _ (m - 1) j))
          (cases_lt m (g + 1)),
    )

early : (v : Found) (s t : model.State) (row row' : List ℕ) (cs ds : List Clause) → IsIntake s.stage → Sound v s row cs → Sound v t row' ds
early None s t row row' cs ds i q = tt
early (Some p) s t row row' cs ds i q = absurd (q.0 i)

advance : (st : model.Stage) (g : ℕ) (ls : List model.Line) (w : Record) (v : Found) (row row' : List ℕ) (cs : List Clause) (j : ℕ) (t : model.State)
    → Good v (at st g ls) row cs → Step (at st g ls) w row (Ok j) t row' → Good (found w v j) t row' (more w cs)
advance model.intake g ls (Give c) v row row' cs j t gd q = record {
  story = ((give c, number j) ∷ gd.story.0, then (give c) (number j) t gd.story.1 tt q.0);
  agrees = subst (λ (z : model.State). Agrees z (cs ++ (c ∷ []))) (sym q.0.1.1) (given_agrees g ls cs c ((holds gd.story.1).all_given tt) gd.agrees);
  sound = early v (at model.intake g ls) t row row' cs (cs ++ (c ∷ [])) tt gd.sound;
}
advance model.intake g ls Seal v row row' cs j t gd q = record {
  story = ((seal, number j) ∷ gd.story.0, then seal (number j) t gd.story.1 tt q.0);
  agrees = subst (λ (z : model.State). Agrees z cs) (sym q.0.1.1) gd.agrees;
  sound = early v (at model.intake g ls) t row row' cs cs tt gd.sound;
}
advance model.intake g ls (WaitLine n) v row row' cs j t gd q = no_ok q.0
advance model.intake g ls (WaitLiteral l) v row row' cs j t gd q = no_ok q.0
advance model.intake g ls (Resolve a b k) v row row' cs j t gd q = no_ok q.0
advance model.intake g ls (Trial n x ns) v row row' cs j t gd q = no_ok q.0
advance model.intake g ls (OpenLoop l gs) v row row' cs j t gd q = no_ok q.0
advance model.intake g ls (CloseLoop ns) v row row' cs j t gd q = no_ok q.0
advance model.intake g ls Abandon v row row' cs j t gd q = no_ok q.0
advance model.intake g ls (DrawFor n m) v row row' cs j t gd q = no_ok q.0
advance model.intake g ls (Draw n) v row row' cs j t gd q = no_ok q.0
advance model.intake g ls (Refute n) v row row' cs j t gd q = no_ok q.0
advance model.sealed g ls (Give c) v row row' cs j t gd q = no_ok q.0
advance model.sealed g ls Seal v row row' cs j t gd q = no_ok q.0
advance model.sealed g ls (WaitLine n) v row row' cs j t gd q = late_good v (at model.sealed g ls) row row' cs (wait_line n) (number j) t (λ z. z) gd tt q.0 q.1
advance model.sealed g ls (WaitLiteral l) v row row' cs j t gd q = late_good v (at model.sealed g ls) row row' cs (wait_literal l) (number j) t (λ z. z) gd tt q.0 q.1
advance model.sealed g ls (Resolve a b k) v row row' cs j t gd q = late_good v (at model.sealed g ls) row row' cs (infer (resolving k) (a ∷ b ∷ [])) (number j) t (λ z. z) gd tt q.0 q.1
advance model.sealed g ls (Trial n x ns) v row row' cs j t gd q = late_good v (at model.sealed g ls) row row' cs (infer (trying (record { now = n; next = x })) (listed ns)) (number j) t (λ z. z) gd tt q.0 q.1
advance model.sealed g ls (OpenLoop l gs) v row row' cs j t gd q = late_good v (at model.sealed g ls) row row' cs (open_loop l (guarded gs)) (number j) t (λ z. z) gd tt q.0 q.1
advance model.sealed g ls (CloseLoop ns) v row row' cs j t gd q = no_ok q.0
advance model.sealed g ls Abandon v row row' cs j t gd q = no_ok q.0
advance model.sealed g ls (DrawFor n m) v row row' cs j t gd q = late_good v (at model.sealed g ls) row row' cs (draw n m) (number j) t (λ z. z) gd tt q.0 q.1
advance model.sealed g ls (Draw n) v row row' cs j t gd q = late_good v (at model.sealed g ls) row row' cs (draw_alone n) (number j) t (λ z. z) gd tt q.0 q.1
advance model.sealed g ls (Refute n) v row row' cs j t gd q = refute_good v (at model.sealed g ls) row row' cs n j t (λ z. z) gd tt q.0
advance (model.loop f d hs) g ls (Give c) v row row' cs j t gd q = no_ok q.0
advance (model.loop f d hs) g ls Seal v row row' cs j t gd q = no_ok q.0
advance (model.loop f d hs) g ls (WaitLine n) v row row' cs j t gd q = no_ok q.0
advance (model.loop f d hs) g ls (WaitLiteral l) v row row' cs j t gd q = no_ok q.0
advance (model.loop f d hs) g ls (Resolve a b k) v row row' cs j t gd q = late_good v (at (model.loop f d hs) g ls) row row' cs (infer (resolving k) (a ∷ b ∷ [])) (number j) t (λ z. z) gd tt q.0 q.1
advance (model.loop f d hs) g ls (Trial n x ns) v row row' cs j t gd q = late_good v (at (model.loop f d hs) g ls) row row' cs (infer (trying (record { now = n; next = x })) (listed ns)) (number j) t (λ z. z) gd tt q.0 q.1
advance (model.loop f d hs) g ls (OpenLoop l gs) v row row' cs j t gd q = no_ok q.0
advance (model.loop f d hs) g ls (CloseLoop ns) v row row' cs j t gd q = late_good v (at (model.loop f d hs) g ls) row row' cs (close (listed ns)) (number j) t (λ z. z) gd tt q.0 q.1
advance (model.loop f d hs) g ls Abandon v row row' cs j t gd q = late_good v (at (model.loop f d hs) g ls) row row' cs abandon (number j) t (λ z. z) gd tt q.0 q.1
advance (model.loop f d hs) g ls (DrawFor n m) v row row' cs j t gd q = no_ok q.0
advance (model.loop f d hs) g ls (Draw n) v row row' cs j t gd q = no_ok q.0
advance (model.loop f d hs) g ls (Refute n) v row row' cs j t gd q = no_ok q.0

-- a line that was accepted
told_on : (n : ℕ) (w : Record) (v y : Found) (s t : model.State) (row row' : List ℕ) (cs : List Clause) (a : Result ℕ Fault)
    → Good v s row cs → Step s w row a t row' → ◌≡◌ {A = Result Found Fault} (Ok y) (told n s w v a) → Good y t row' (more w cs)
told_on n w v y s t row row' cs (Ok m) g q e =
    let z : y ≡ found w v m = cc in
    subst (λ (x : Found). Good x t row' (more w cs)) (sym z) (advance s.stage s.given s.lines w v row row' cs m t g q)
told_on n w v y s t row row' cs (Err f) g q e = let z : ◌≡◌ {A = ℕ} 0 1 = cc in absurd (omega arith)

line_on : (n : ℕ) (o : Result Record Fault) (v w : Found) (s t : model.State) (row row' : List ℕ) (cs gs : List Clause)
    → Good v s row cs → Judged n o v s row (Ok w) t row' → (ds : List Clause) × Good w t row' ds × (ds ++ gs ≡ cs ++ given_in o gs)
line_on n (Ok k) v w s t row row' cs gs g q = (more k cs, told_on n k v w s t row row' cs q.0 g q.1 q.2, more_is k cs gs)
line_on n (Err f) v w s t row row' cs gs g q = let e = q.0 in let z : ◌≡◌ {A = ℕ} 0 1 = cc in absurd (omega arith)

-- what an accepted text is
abbrev Accepted : List Clause → model.State → List ℕ → Verdict → Type 0
Accepted cs u row x = Promised cs row x × Agrees u cs

ends_on : (v : Found) (s : model.State) (k : ℕ) (row : List ℕ) (cs : List Clause) → Sound v s row cs → Promised cs row (verdict v k)
ends_on None s k row cs q = tt
ends_on (Some p) s k row cs q = q.1

accept : (v : Found) (s t : model.State) (row : List ℕ) (cs : List Clause) (r : Result Verdict Fault) → r ≡ Ok (verdict v (model.last t)) → Sound v s row cs → Agrees t cs → IfOk r (Accepted (cs ++ []) t row)
accept v s t row cs r e q a =
    subst (λ (z : Result Verdict Fault). IfOk z (Accepted (cs ++ []) t row)) (sym e)
    (subst (λ (ds : List Clause). Accepted ds t row (verdict v (model.last t))) (sym (append-nil cs)) (ends_on v s (model.last t) row cs q, a))

end_on : (st : model.Stage) (g : ℕ) (ls : List model.Line) (n : ℕ) (v : Found) (t : model.State) (row : List ℕ) (cs : List Clause) (r : Result Verdict Fault)
    → Ending st n v (at st g ls) r t → Sound v (at st g ls) row cs → Agrees (at st g ls) cs → IfOk r (Accepted (cs ++ []) t row)
end_on model.intake g ls n v t row cs r q d a = accept v (at model.intake g ls) t row cs r q.1 d (subst (λ (z : model.State). Agrees z cs) (sym q.0) a)
end_on model.sealed g ls n v t row cs r q d a = accept v (at model.sealed g ls) t row cs r q.1 d (subst (λ (z : model.State). Agrees z cs) (sym q.0) a)
end_on (model.loop f l gs) g ls n v t row cs r q d a = subst (λ (z : Result Verdict Fault). IfOk z (Accepted (cs ++ []) t row)) (sym q.1) tt

promise : {n : ℕ} {ls : List (List ℕ × Bool)} {v : Found} {s : model.State} {row : List ℕ} {r : Result Verdict Fault} {u : model.State} {row' : List ℕ}
    → Reads n ls v s row r u row' → (cs : List Clause) → Good v s row cs → IfOk r (Accepted (cs ++ givens ls) u row')
promise (ends {n = n} {v = v} {s = s} {t = t} {row = row} {r = r} q) cs g = end_on s.stage s.given s.lines n v t row cs r q g.sound g.agrees
promise (stops t q e) cs g = tt
promise (goes {n = n} {l = l} {ls = ls} {v = v} {w = w} {s = s} {t = t} {u = u} {row = row} {row' = row'} {row'' = row''} {r = r} q h) cs g =
    let p = line_on n (record_of l.0 l.1) v w s t row row' cs (givens ls) g q in
    subst (λ (z : List Clause). IfOk r (Accepted z u row'')) p.2 (promise h p.0 p.1)

promised : (ls : List (List ℕ × Bool)) (row : List ℕ) (r : Result Verdict Fault) (u : model.State) (row' : List ℕ) → Reads 1 ls None model.fresh row r u row' → IfOk r (Accepted (givens ls) u row')
promised ls row r u row' h = promise h [] (record { story = ([], begun); agrees = (refl, λ m a b. absurd (omega arith)); sound = tt })

no_run : (cs : List Clause) (row : List ℕ) (x : Verdict) → Promised cs row x → NoRun cs x
no_run cs row (Open n) p = tt
no_run cs row (Contradiction n count) p = λ r k. p.4 r (λ m y. let b = p.3 m y in k m b.0 b.1)

-- in the terms of the reader's answer
pub verdict_part : (ls : List (List ℕ × Bool)) (row : List ℕ) (r : Result (Sealed × Verdict) Fault) (t : List Line) (row' : List ℕ) → Comes 1 ls None model.fresh row r t row'
    → IfOk r (λ p. Promised (givens ls) row' p.1 × Agrees (view_sealed p.0 t) (givens ls) × NoRun (givens ls) p.1)
verdict_part ls row (Ok p) t row' h =
    let a = promised ls row (Ok p.1) h.0 row' h.1 in
    (a.0, subst (λ (z : model.State). Agrees z (givens ls)) (sym h.3) a.1, no_run (givens ls) row' p.1 a.0)
verdict_part ls row (Err f) t row' h = tt
