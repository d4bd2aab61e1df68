use Rattle.std.specs.Arc.{arc_value}
use Rattle.machine.proofs.machine_replay.Opened.{opened_if}
use Rattle.program_runs.proofs.verified_programs.program.open_linked_machine.Goals as goal

pub returns : goal.returns
returns c = λ trees is. opened_if c.runs_are_opened.ensures.holds trees (arc_value c.args.program) c.args.limits is c.open.result c.open.ensures
