use Rattle.search_laws.proofs.Program.{program_writes}
use Rattle.search_laws.proofs.alone.others_write_what_the_program_writes.Goals as goal

pub returns : goal.returns
returns c = record { holds = program_writes }
