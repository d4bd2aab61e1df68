use Rattle.search_laws.proofs.ConstantTexts.{constants_texts}
use Rattle.search_laws.proofs.alone.constants_keep_their_texts.Goals as goal

pub returns : goal.returns
returns c = record { holds = constants_texts }
