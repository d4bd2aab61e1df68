use Rattle.machine_state.proofs.limits_at_words.Room.{references_fit}
use Rattle.machine_state.proofs.limits_at_words.references_have_room.Goals as goal

pub returns : goal.returns
returns c = record { holds = references_fit }
