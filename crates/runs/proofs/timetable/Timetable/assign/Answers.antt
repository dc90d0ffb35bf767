use Rattle.std.proofs.Common.{◌≡◌, Some, None, Err, Option, Result, slice_set, refl, sym, subst, inr, rules, arith}
use Rattle.clause.specs.declared.refusal.Fault.{Fault}
use Rattle.clause.specs.declared.refusal.Refusal.TheVariants.{OutOfRange}
use Rattle.clause.specs.Refusals.{plain}
use Rattle.runs.specs.declared.task.Task.{Task}
use Rattle.runs.specs.declared.timetable.Timetable.{Timetable}
use Rattle.runs.specs.Assigns.{MadeOf, TaskOf, Assigned}
use Rattle.runs.proofs.timetable.Timetable.assign.Goals as goal

pub returns-in_err-self : goal.returns-in_err-self
returns-in_err-self c =
    let a = c.args in
    let task = c.in_ok-task.task in
    let ts = slice_set a.self.now.tasks a.letter (Some task) in
    let s : c.task_of.result ≡ Some task = search rules in
    let k = subst (λ (o : Option Task). TaskOf a.offset a.period a.length o) s c.task_of.ensures in
    let made = subst (λ i. MadeOf (slice_set a.self.now.tasks i (Some task)) c.of-2.result) c.from.ensures c.of-2.ensures in
    let n : c.of-2.result ≡ None = search rules in
    let r : c.from_residual-in_err-self.result ≡ Err (plain OutOfRange) = search rules in
    subst (λ (z : Result (Unit {0}) Fault). Assigned a.letter a.offset a.period a.length a.self.now a.self.now z) (sym r)
    (refl, inr (inr (omega arith, (task, k.1, subst (λ (o : Option Timetable). MadeOf ts o) n made), refl)))

pub returns : goal.returns
returns c =
    let a = c.args in
    let task = c.in_ok-task.task in
    let ts = slice_set a.self.now.tasks a.letter (Some task) in
    let s : c.task_of.result ≡ Some task = search rules in
    let k = subst (λ (o : Option Task). TaskOf a.offset a.period a.length o) s c.task_of.ensures in
    let made = subst (λ i. MadeOf (slice_set a.self.now.tasks i (Some task)) c.of-2.result) c.from.ensures c.of-2.ensures in
    let n : c.of-2.result ≡ Some c.in_ok-self.field-0 = search rules in
    (omega arith, k.0, (task, k.1, subst (λ (o : Option Timetable). MadeOf ts o) n made))
