use Rattle.machine_state.proofs.raised_exceptions.Numbered.{numbered}
use Rattle.machine_state.proofs.raised_exceptions.exceptions_are_numbered.Goals as goal

pub returns : goal.returns
returns c = record { holds = numbered }
