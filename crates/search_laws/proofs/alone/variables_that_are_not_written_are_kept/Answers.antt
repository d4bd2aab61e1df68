use Rattle.search_laws.proofs.ClassesKept.{variables_kept}
use Rattle.search_laws.proofs.alone.variables_that_are_not_written_are_kept.Goals as goal

pub returns : goal.returns
returns c = record { holds = variables_kept }
