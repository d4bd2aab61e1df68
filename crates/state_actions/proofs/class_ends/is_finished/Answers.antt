use Rattle.std.proofs.Common.{ap, ◌∙◌}
use Rattle.data_races.specs.EventActions as named
use Rattle.state_actions.proofs.class_ends.is_finished.Goals as goal

pub returns : goal.returns
returns c = λ trees p bounds world program r class at.
    c.is_finished_by.ensures ∙ ap named.is_finished (c.class_status.ensures trees p bounds world program r class at)
