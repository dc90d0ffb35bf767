use Rattle.std.proofs.Common.{◌≡◌, ℕ, List, Option, length, take, Some, None, Ok, Err, subst, rules}
use Rattle.clause.specs.Meaning.{Run}
use Rattle.lines.specs.declared.line.Line.{Line}
use Rattle.lines.specs.View.{lines_of}
use Rattle.case.specs.Verdict.{Lowest}
use Rattle.case.proofs.Showing.{show_broken, show_kept, shown_call}
use Rattle.case.proofs.stage.Sealed.show.Goals as goal

-- the given lines as the code cuts them
cut : (given m : ℕ) (t u : List Line) (r : Run) (o : Option (ℕ × ℕ)) → m ≡ given → u ≡ t → Lowest r (lines_of (take m u)) o → Lowest r (lines_of (take given t)) o
cut given m t u r o d e q = subst (λ n. Lowest r (lines_of (take n t)) o) d (subst (λ xs. Lowest r (lines_of (take m xs)) o) e q)

pub returns-in-Some-first_broken : goal.returns-in-Some-first_broken
returns-in-Some-first_broken g c =
    let x = g.R.RunSource.meaning c.args.source.now in let s = c.args.self.now in let t = c.args.table.now in
    let e : c.in-Some.table.now ≡ t = search rules in
    let d : c.from.result ≡ s.body.given = search rules in
    let long : length t ≡ 1000 = search rules in
    let n = c.in-Some-first_broken.n in let i = c.in-Some-first_broken.i in
    shown_call s t x long (Err c.at.result) (show_broken s t x long n i _ c.at.ensures
    (cut s.body.given c.from.result t c.in-Some.table.now x.run (Some (n, i)) d e (c.in-Some-first_broken.ensures x c.asked_by.result c.read-moments.ensures c.asked_by.ensures)))

pub returns-in-None : goal.returns-in-None
returns-in-None g c =
    let x = g.R.RunSource.meaning c.args.source.now in let s = c.args.self.now in let t = c.args.table.now in
    let e : c.in-Some.table.now ≡ t = search rules in
    let d : c.from.result ≡ s.body.given = search rules in
    let long : length t ≡ 1000 = search rules in
    shown_call s t x long (Ok (c.lead_in.result, c.loop_length.result)) (show_kept s t x long _ _ c.lead_in.ensures c.loop_length.ensures
    (cut s.body.given c.from.result t c.in-Some.table.now x.run None d e (c.in-None.ensures x c.asked_by.result c.read-moments.ensures c.asked_by.ensures)))
