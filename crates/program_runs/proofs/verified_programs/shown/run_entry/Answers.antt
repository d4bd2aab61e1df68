use Rattle.machine.proofs.schedule_runs.Repeated.{entry_gone}
use Rattle.program_runs.proofs.verified_programs.shown.run_entry.Goals as goal

pub returns : goal.returns
returns c = entry_gone c.repeat.result c.args.entry.event c.args.entry.repeat c.args.machine.now c.repeat.new.self c.repeat.ensures
