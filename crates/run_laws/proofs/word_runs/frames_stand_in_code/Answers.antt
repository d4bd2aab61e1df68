use Rattle.run_laws.proofs.word_runs.InCode.{in_code}
use Rattle.run_laws.proofs.word_runs.frames_stand_in_code.Goals as goal

pub returns : goal.returns
returns c = record { holds = in_code }
