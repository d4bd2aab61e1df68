use Rattle.std.proofs.Common.{◌∙◌, ap, subst}
use Rattle.std.specs.Arc.{arc_value}
use Rattle.machine.specs.Machines.{IsOfAccepted}
use Rattle.search.specs.States.{StatesOf}
use Rattle.search.proofs.Kept.{resumed, resumed_in}
use Rattle.search.proofs.states.States.again.Goals as goal

pub resume-requires : goal.resume-requires
resume-requires c =
    resumed c.args.self.now c.args.number c.requires.number (subst IsOfAccepted (ap (λ (s : StatesOf). s.program) c.self.view_is) c.self.invariant.0) c.args.state.now c.requires.state
    c.in_ok-shared.shared c.in_ok-shared.ensures (arc_value c.in_ok-program.program) c.self.inside.limits (c.in_ok-program.ensures ∙ ap (λ (s : StatesOf). s.program) c.self.view_is)
    (ap (λ (s : StatesOf). s.limits) c.self.view_is)

pub returns : goal.returns
returns c =
    resumed_in c.args.self.now c.args.number c.requires.number (subst IsOfAccepted (ap (λ (s : StatesOf). s.program) c.self.view_is) c.self.invariant.0) c.args.state.now c.requires.state
    c.in_ok-shared.shared c.in_ok-shared.ensures (arc_value c.in_ok-program.program) c.self.inside.limits (c.in_ok-program.ensures ∙ ap (λ (s : StatesOf). s.program) c.self.view_is)
    (ap (λ (s : StatesOf). s.limits) c.self.view_is) c.resume.result c.resume.ensures
