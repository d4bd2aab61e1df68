use Rattle.std.proofs.Common.{◌∙◌, sym, ap}
use Rattle.model.specs.TypeJoin.{class_join}
use Rattle.hierarchy.specs.Places.{name_at}
use Rattle.hierarchy.proofs.Climbing.{join_same}
use Rattle.hierarchy.proofs.climb.meeting.Goals as goal

pub returns-then-level : goal.returns-then-level
returns-then-level c =
    let files = c.args.set.now in
    let first = c.loop-step.level.first in
    c.loop-step.invariant.join ∙ ap (λ p. class_join files (name_at files first) (name_at files p)) (sym c.if-level.true) ∙ join_same files (name_at files first)
