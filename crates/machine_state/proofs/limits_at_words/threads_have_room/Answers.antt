use Rattle.machine_state.proofs.limits_at_words.Room.{thread_words_fit}
use Rattle.machine_state.proofs.limits_at_words.threads_have_room.Goals as goal

pub returns : goal.returns
returns c = record { holds = thread_words_fit }
