use Rattle.std.proofs.Common.{Err, sym, ap, ◌∙◌, rules}
use Rattle.clause.specs.declared.syntax.Clause.TheVariants.{Initial, Global, Eventuality}
use Rattle.forms.specs.Cuts.{split}
use Rattle.forms.specs.Forms.{number_in, set_in}
use Rattle.records.specs.declared.record.Record.TheVariants.{Give, WaitLine, WaitLiteral, Resolve, Trial, CloseLoop, DrawFor, Draw, Refute}
use Rattle.records.specs.Fields.{literal_of, letter_of, numbers_of}
use Rattle.records.proofs.Keys.{no_key}
use Rattle.records.proofs.Made.{one_made, two_made, three_made}
use Rattle.records.proofs.case_lines.read_by.Goals as goal

pub returns-in-I : goal.returns-in-I
returns-in-I c = let m = one_made _ set_in (λ s. Give (Initial s)) (split 9 c.args.line.text.now) c.args.line.ended c.one.result c.map.result c.one.ensures c.map.ensures.cases (λ x y p. search rules) in search rules

pub returns-in-G : goal.returns-in-G
returns-in-G c = let m = two_made _ set_in set_in (λ s x. Give (Global s x)) (split 9 c.args.line.text.now) c.args.line.ended c.two.result c.map-in-G.result c.two.ensures c.map-in-G.ensures.cases (λ x y p. search rules) in search rules

pub returns-in-E : goal.returns-in-E
returns-in-E c = let m = two_made _ set_in literal_of (λ s l. Give (Eventuality s l)) (split 9 c.args.line.text.now) c.args.line.ended c.two-in-E.result c.map-in-E.result c.two-in-E.ensures c.map-in-E.ensures.cases (λ x y p. search rules) in search rules

pub returns-in-W : goal.returns-in-W
returns-in-W c = let m = one_made _ number_in WaitLine (split 9 c.args.line.text.now) c.args.line.ended c.one-in-W.result c.map-in-W.result c.one-in-W.ensures c.map-in-W.ensures.cases (λ x y p. search rules) in search rules

pub returns-in-V : goal.returns-in-V
returns-in-V c = let m = one_made _ literal_of WaitLiteral (split 9 c.args.line.text.now) c.args.line.ended c.one-in-V.result c.map-in-V.result c.one-in-V.ensures c.map-in-V.ensures.cases (λ x y p. search rules) in search rules

pub returns-in-R : goal.returns-in-R
returns-in-R c = let m = three_made _ number_in number_in letter_of Resolve (split 9 c.args.line.text.now) c.args.line.ended c.three.result c.map-in-R.result c.three.ensures c.map-in-R.ensures.cases (λ x y p. search rules) in search rules

pub returns-in-T : goal.returns-in-T
returns-in-T c = let m = three_made _ set_in set_in numbers_of Trial (split 9 c.args.line.text.now) c.args.line.ended c.three-in-T.result c.map-in-T.result c.three-in-T.ensures c.map-in-T.ensures.cases (λ x y p. search rules) in search rules

pub returns-in-C : goal.returns-in-C
returns-in-C c = let m = one_made _ numbers_of CloseLoop (split 9 c.args.line.text.now) c.args.line.ended c.one-in-C.result c.map-in-C.result c.one-in-C.ensures c.map-in-C.ensures.cases (λ x y p. search rules) in search rules

pub returns-in-N : goal.returns-in-N
returns-in-N c = let m = two_made _ number_in number_in DrawFor (split 9 c.args.line.text.now) c.args.line.ended c.two-in-N.result c.map-in-N.result c.two-in-N.ensures c.map-in-N.ensures.cases (λ x y p. search rules) in search rules

pub returns-in-M : goal.returns-in-M
returns-in-M c = let m = one_made _ number_in Draw (split 9 c.args.line.text.now) c.args.line.ended c.one-in-M.result c.map-in-M.result c.one-in-M.ensures c.map-in-M.ensures.cases (λ x y p. search rules) in search rules

pub returns-in-X : goal.returns-in-X
returns-in-X c = let m = one_made _ number_in Refute (split 9 c.args.line.text.now) c.args.line.ended c.one-in-X.result c.map-in-X.result c.one-in-X.ensures c.map-in-X.ensures.cases (λ x y p. search rules) in search rules

pub returns-in_default : goal.returns-in_default
returns-in_default c =
    ap Err c.misread.ensures
    ∙ sym (no_key c.args.key (split 9 c.args.line.text.now) c.args.line.ended (search rules) (search rules) (search rules) (search rules) (search rules) (search rules) (search rules) (search rules) (search rules) (search rules) (search rules) (search rules) (search rules) (search rules))
