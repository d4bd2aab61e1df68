use Rattle.machine.proofs.schedule_runs.Repeated.{entry_gone}
use Rattle.program_runs.proofs.traced_runs.Passing.{done_once}
use Rattle.program_runs.proofs.traced_runs.events.once.Goals as goal

pub returns : goal.returns
returns c =
    let r = c.repeat-why.result in
    done_once c.args.event r.0 r.1 c.args.machine.now c.repeat-why.new.self (entry_gone r c.args.event 1 c.args.machine.now c.repeat-why.new.self c.repeat-why.ensures)
