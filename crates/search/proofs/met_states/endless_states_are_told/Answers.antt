use Rattle.search.proofs.met_states.EndlessStates.{endless_told}
use Rattle.search.proofs.met_states.endless_states_are_told.Goals as goal

pub returns : goal.returns
returns c = record {
  holds = endless_told c.searches_by_schedules_are_whole.ensures.holds c.traps_are_endless.ensures.holds c.endless_states_are_trapped.ensures.holds
      c.races_are_told_by_words.ensures.holds c.no_event_is_wrong.ensures.holds c.picks_are_in_order.ensures.holds;
}
