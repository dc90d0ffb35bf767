use Rattle.std.proofs.Common.{◌≡◌, ℕ, ◌-◌, List, ◌++◌, length, take, None, Ok, Err, Result, sym, ap, ◌∙◌, subst, inl, arith, rules}
use Rattle.std.proofs.lemmas.List.{length-map}
use Rattle.std.proofs.lemmas.Result.{err_from_is_err_and}
use Rattle.clause.specs.declared.refusal.Fault.{Fault}
use Rattle.clause.specs.declared.syntax.Clause.{Clause}
use Rattle.clause.specs.Sets.{Narrow}
use Rattle.rules.specs.Books.{Consult, marks_of, conclusion_of, outcome_of, Masks}
use Rattle.clause.specs.declared.refusal.Refusal.{Refusal}
use Rattle.protocol.specs.State.{State, clause_at, clauses_at}
use Rattle.protocol.specs.Calls.{infer}
use Rattle.protocol.specs.Causes.{First, NoneOf, counted, named, consulted, checks}
use Rattle.protocol.proofs.Causing.{none_both, first_after, first_left}
use Rattle.lines.specs.View.{lines_of}
use Rattle.lines.specs.Named.{at_stage}
use Rattle.lines.proofs.Placing.{narrow_all}
use Rattle.drafts.proofs.Drafting.{exit_draft}
use Rattle.drafts.proofs.Consulting.{at_most_8, not_counted, late_refused, rest_refused, none_consulted}
use Rattle.drafts.proofs.infers.inferred.Goals as goal

-- past the counts and the named lines
first-consulted : (b : Consult) (s : State) (ns : List ℕ) (f : Fault) → NoneOf (counted b (length ns)) → NoneOf (named s ns) → First (consulted s.lines b ns) f → First (checks s (infer b ns)) f
first-consulted b s ns f p q r = first_after (counted b (length ns)) (named s ns ++ consulted s.lines b ns) f p (first_after (named s ns) (consulted s.lines b ns) f q r)

-- what the book answered of the clauses gathered, it answers of the cited ones
late_is : (b : Consult) (cs ks : List Clause) (n : ℕ) (r : Result Masks Refusal) → take n cs ≡ ks → length ks ≡ n → b.late (take (n - 0) cs) ≡ outcome_of (length (take (n - 0) cs)) r → b.late ks ≡ outcome_of n r
late_is b cs ks n r e l q =
    let z : n - 0 ≡ n = omega arith in
    subst (λ (xs : List Clause). b.late xs ≡ outcome_of n r) e
    (subst (λ m. b.late (take m cs) ≡ outcome_of (length (take m cs)) r) z q ∙ ap (λ (xs : List Clause). outcome_of (length xs) r) e ∙ ap (λ m. outcome_of m r) l)

pub slice_bounds-consult-end : goal.slice_bounds-consult-end
slice_bounds-consult-end g c =
    let h = at_most_8 (g.B.RuleBook.meaning c.args.book.now c.args.evidence) (length c.args.cites.now) (sym c.in_default.ensures) in
    let w = c.clauses-clauses.ensures.long in
    search rules

pub returns-in-Some : goal.returns-in-Some
returns-in-Some g c st gi from = inl (c.in-Some.refusal, sym c.in-Some.ensures, c.of.ensures)

pub returns-in_err-check : goal.returns-in_err-check
returns-in_err-check g c st gi from =
    let b = g.B.RuleBook.meaning c.args.book.now c.args.evidence in
    let t = c.args.lines.now in let ns = c.args.cites.now in
    let s = at_stage st gi (lines_of t) in
    exit_draft s (infer b ns) _ _ (err_from_is_err_and c.from_residual.result c.from_residual.ensures.1)
    (first_after (counted b (length ns)) (named s ns ++ consulted (lines_of t) b ns) _ (not_counted b (length ns) (sym c.in_default.ensures)) (first_left (named s ns) (consulted (lines_of t) b ns) _ (c.in_err-check.ensures st gi from)))

pub returns-in-Err : goal.returns-in-Err
returns-in-Err g c st gi from =
    let b = g.B.RuleBook.meaning c.args.book.now c.args.evidence in
    let t = c.args.lines.now in let ns = c.args.cites.now in let ls = lines_of t in
    let early : b.early (length ns) ≡ None = sym c.in_default.ensures in
    let q = late_is b c.clauses-clauses.result (clauses_at ls ns) (length ns) (Err c.in-Err.refusal) (c.clauses-clauses.ensures.front (at_most_8 b (length ns) early)) (length-map ns (clause_at ls)) c.in-Err.ensures.answer in
    first-consulted b (at_stage st gi ls) ns _ (not_counted b (length ns) early) (c.in_ok-check.ensures st gi from) (late_refused b ls ns c.in-Err.refusal _ q c.of-in-Err.ensures)

pub returns-then-rests_everywhere : goal.returns-then-rests_everywhere
returns-then-rests_everywhere g c st gi from =
    let b = g.B.RuleBook.meaning c.args.book.now c.args.evidence in
    let t = c.args.lines.now in let ns = c.args.cites.now in let ls = lines_of t in
    let m = c.in-Ok.masks in
    let early : b.early (length ns) ≡ None = sym c.in_default.ensures in
    let q = late_is b c.clauses-clauses.result (clauses_at ls ns) (length ns) (Ok m) (c.clauses-clauses.ensures.front (at_most_8 b (length ns) early)) (length-map ns (clause_at ls)) c.in-Ok.ensures.answer in
    first-consulted b (at_stage st gi ls) ns _ (not_counted b (length ns) early) (c.in_ok-check.ensures st gi from)
    (rest_refused b ls ns (conclusion_of m) (marks_of (length ns) m.5) q _ c.if-rests_everywhere.ensures c.of-then-rests_everywhere.ensures)

pub returns-else-rests_everywhere : goal.returns-else-rests_everywhere
returns-else-rests_everywhere g c st gi from =
    let b = g.B.RuleBook.meaning c.args.book.now c.args.evidence in
    let t = c.args.lines.now in let ns = c.args.cites.now in let ls = lines_of t in
    let m = c.in-Ok.masks in
    let early : b.early (length ns) ≡ None = sym c.in_default.ensures in
    let few = at_most_8 b (length ns) early in
    let q = late_is b c.clauses-clauses.result (clauses_at ls ns) (length ns) (Ok m) (c.clauses-clauses.ensures.front few) (length-map ns (clause_at ls)) c.in-Ok.ensures.answer in
    let narrow : Narrow c.clause_of.result = subst (λ (k : Clause). Narrow k) (sym c.clause_of.ensures) (b.narrow (clauses_at ls ns) (conclusion_of m) (marks_of (length ns) m.5) (narrow_all t ns) q) in (
      none_both (counted b (length ns)) (named (at_stage st gi ls) ns ++ consulted ls b ns) (not_counted b (length ns) early)
          (none_both (named (at_stage st gi ls) ns) (consulted ls b ns) (c.in_ok-check.ensures st gi from) (none_consulted b ls ns (conclusion_of m) (marks_of (length ns) m.5) q c.if-rests_everywhere.ensures)),
      (
        conclusion_of m,
        marks_of (length ns) m.5,
        q,
        c.citing.ensures.exact narrow few ∙ (λ i. record { clause = c.clause_of.ensures i; cites = ns; resting = c.some_resting-resting.ensures i }),
      ),
      c.citing.ensures.tidy,
    )
