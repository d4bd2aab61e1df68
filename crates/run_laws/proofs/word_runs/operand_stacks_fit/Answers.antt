use Rattle.run_laws.proofs.word_runs.Room.{have_room}
use Rattle.run_laws.proofs.word_runs.operand_stacks_fit.Goals as goal

pub returns : goal.returns
returns c = record { holds = have_room }
