use Rattle.search_laws.proofs.ClassesKept.{texts_kept}
use Rattle.search_laws.proofs.alone.strings_keep_their_texts.Goals as goal

pub returns : goal.returns
returns c = record { holds = texts_kept }
