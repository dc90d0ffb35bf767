use Rattle.runtext.proofs.Reading.{start_tasks}
use Rattle.runtext.proofs.steps.run_step.Goals as goal

pub returns-in-Start-Tasks : goal.returns-in-Start-Tasks
returns-in-Start-Tasks c = start_tasks c.args.stage c.args.what c.new.result c.in-Start-Tasks.is-0 c.in-Start-Tasks.is-1 c.new.ensures
