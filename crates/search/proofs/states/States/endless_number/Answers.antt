use Rattle.std.proofs.Common.{◌∙◌, subst, sym}
use Rattle.std.specs.Arc.{arc_value}
use Rattle.std.proofs.lemmas.List.{length-map}
use Rattle.model.specs.Schedule.{events_of}
use Rattle.search.specs.Edges.{AreBelow}
use Rattle.search.specs.Endless.{WereMet}
use Rattle.search.proofs.Kept.{all_met, states_of}
use Rattle.search.proofs.states.States.endless_number.Goals as goal

pub endless_number-requires : goal.endless_number-requires
endless_number-requires c =
    let inside = c.self.inside in
    subst (λ l. AreBelow c.len.result l) (sym c.as_slice.ensures.value)
    (subst (λ n. AreBelow n inside.edges.items) (length-map inside.tree events_of ∙ sym c.len.ensures) c.self.invariant.1.below)

pub returns-clause-met : goal.returns-clause-met
returns-clause-met c =
    let inside = c.self.inside in
    subst WereMet c.self.view_is
    (all_met inside.kept (states_of (arc_value inside.program) inside.limits inside.tree inside.edges.items inside.kept) c.self.invariant.1)
