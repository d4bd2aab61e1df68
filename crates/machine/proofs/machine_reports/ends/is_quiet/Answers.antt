use Rattle.machine.proofs.machine_reports.Quiet.{quiet_told, quiet_at}
use Rattle.machine.proofs.machine_reports.ends.is_quiet.Goals as goal

pub returns-clause-told : goal.returns-clause-told
returns-clause-told c = quiet_told c.args.threads.now c.any_goes_on.result c.any_goes_on.ensures

pub returns-clause-quiet : goal.returns-clause-quiet
returns-clause-quiet c = quiet_at c.args.threads.now _ (quiet_told c.args.threads.now c.any_goes_on.result c.any_goes_on.ensures)
