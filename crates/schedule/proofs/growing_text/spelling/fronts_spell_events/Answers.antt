use Rattle.schedule.proofs.growing_text.Fronts.{fronts_spell, texts_spell}
use Rattle.schedule.proofs.growing_text.spelling.fronts_spell_events.Goals as goal

pub returns-clause-fronts : goal.returns-clause-fronts
returns-clause-fronts c = fronts_spell

pub returns-clause-whole : goal.returns-clause-whole
returns-clause-whole c = texts_spell
