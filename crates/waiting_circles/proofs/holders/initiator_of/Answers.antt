use Rattle.std.proofs.Common.{ap, ◌∙◌}
use Rattle.waiting_circles.specs.Holders.{initiator_in}
use Rattle.waiting_circles.proofs.holders.initiator_of.Goals as goal

pub returns : goal.returns
returns c = λ trees p bounds world program r class at.
    c.initiator_by.ensures ∙ ap initiator_in (c.status_of.ensures trees p bounds world program r class at)
