use Rattle.search_laws.proofs.ClassesKept.{lengths_kept}
use Rattle.search_laws.proofs.alone.arrays_keep_their_lengths.Goals as goal

pub returns : goal.returns
returns c = record { holds = lengths_kept }
