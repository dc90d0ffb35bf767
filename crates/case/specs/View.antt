-- A case and its table as a state of the protocol.
use Rattle.std.specs.Prelude.{ℕ, List, take}
use Rattle.clause.specs.declared.syntax.LitSet.{LitSet}
use Rattle.protocol.specs.State as model
use Rattle.lines.specs.declared.line.Line.{Line}
use Rattle.lines.specs.View.{lines_of}
use Rattle.case.specs.declared.stage.Body.{Body}
use Rattle.case.specs.declared.stage.Intake.{Intake}
use Rattle.case.specs.declared.stage.OpenLoop.{OpenLoop}
use Rattle.case.specs.declared.stage.Sealed.{Sealed}

-- the first n places of the table, as lines
abbrev pub front : ℕ → List Line → List model.Line
front n t = lines_of (take n t)

abbrev pub view_at : model.Stage → Body → List Line → model.State
view_at st b t = record { stage = st; given = b.given; lines = front b.last t }

abbrev pub view_intake : Intake → List Line → model.State
view_intake s t = record { stage = model.intake; given = s.given; lines = front s.given t }

abbrev pub view_sealed : Sealed → List Line → model.State
view_sealed s t = view_at model.sealed s.body t

abbrev pub guards_in : OpenLoop → List LitSet
guards_in o = take o.count o.guards

abbrev pub stage_of : OpenLoop → model.Stage
stage_of o = model.loop o.first o.literal (guards_in o)

abbrev pub view_loop : OpenLoop → List Line → model.State
view_loop o t = view_at (stage_of o) o.body t
