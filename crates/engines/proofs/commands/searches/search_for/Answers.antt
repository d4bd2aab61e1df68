use Rattle.std.proofs.Common.{vec_items}
use Rattle.std.specs.Option.{option_map}
use Rattle.engines.proofs.RecordLemmas.{search_undone_of}
use Rattle.engines.proofs.commands.searches.search_for.Goals as goal

pub returns-clause-faulty : goal.returns-clause-faulty
returns-clause-faulty g c = λ asked.
    search_undone_of _ _ _ _ _ _ (option_map vec_items c.searched-outcome.new.file) c.searched-outcome.result c.recorded.result _ _ asked
    c.recorded.ensures.faulty c.searched-outcome.ensures.searched c.searched-outcome.ensures.faulty
