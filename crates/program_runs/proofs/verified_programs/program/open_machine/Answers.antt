use Rattle.std.specs.Arc.{arc_value}
use Rattle.machine.proofs.machine_replay.Opened.{of_accepted}
use Rattle.program_runs.proofs.verified_programs.program.open_machine.Goals as goal

pub open_linked_machine-requires : goal.open_linked_machine-requires
open_linked_machine-requires c = of_accepted c.args.verified.now (arc_value c.in_ok-program.program) c.in_ok-program.ensures

pub returns : goal.returns
returns c = c.open_linked_machine.ensures c.args.verified.now c.in_ok-program.ensures
