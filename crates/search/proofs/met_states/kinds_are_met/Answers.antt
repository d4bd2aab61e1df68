use Rattle.search.proofs.met_states.KindsMet.{met}
use Rattle.search.proofs.met_states.kinds_are_met.Goals as goal

pub returns : goal.returns
returns c = record {
  holds = met c.searches_by_schedules_are_whole.ensures.holds c.schedules_are_complete.ensures.holds c.exceptions_are_met.ensures.holds c.circles_are_met.ensures.holds
      c.conflicts_are_met.ensures.holds c.races_are_told_by_words.ensures.holds c.races_last.ensures.holds;
}
