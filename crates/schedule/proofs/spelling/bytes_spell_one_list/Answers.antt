use Rattle.schedule.proofs.OneList.{spelled_once}
use Rattle.schedule.proofs.spelling.bytes_spell_one_list.Goals as goal

pub returns : goal.returns
returns c = spelled_once
