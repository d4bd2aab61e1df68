use Rattle.schedule.proofs.schedule_text.OneText.{spelled_once}
use Rattle.schedule.proofs.schedule_text.spelling.text_spells_one_schedule.Goals as goal

pub returns : goal.returns
returns c = spelled_once
