use Rattle.std.proofs.Common.{List, Ok, sym, subst, ◌∙◌}
use Rattle.model.specs.Operands.{words}
use Rattle.model.specs.Step.{SteppedOf, PartOf, raised}
use Rattle.thread_stacks.specs.Stacks.{ShownEntry}
use Rattle.machine_state.specs.declared.answers.Effect.{Effect}
use Rattle.machine_state.specs.declared.state.Shared.{Shared}
use Rattle.machine_state.specs.Events.{Becomes}
use Rattle.machine_state.specs.Instructions.{Does, shown_exception}
use Rattle.machine_state.specs.Shown.{Represents}
use Rattle.machine_state.proofs.raised_exceptions.Messages.{message_is}
use Rattle.machine_state.proofs.raised_exceptions.effects.apply.Goals as goal

pub returns-in-Raises : goal.returns-in-Raises
returns-in-Raises c = λ trees bounds inflated world old program r from own shows stepped to does.
    let p = c.args.program.now in
    let t = c.args.thread in
    let fault = c.in-Raises.fault in
    let between = c.args.shared.now in
    let d = subst (λ (e : Effect). Does trees p bounds inflated t world own stepped (Ok e) old between from to) c.in-Raises.is does in
    let b =
    c.raise.ensures trees p bounds inflated world (subst (λ (s : Shared). Represents trees p bounds s world) (sym d.1.shared) r)
    (c.message_of.ensures ∙ message_is trees p program fault) from own shows
    in
    subst (λ (s : SteppedOf (PartOf _)). Becomes trees p bounds inflated world s c.raise.result old c.raise.new.shared from to) (sym d.0)
    (subst (λ (s : Shared). Becomes trees p bounds inflated world (raised words trees t (shown_exception fault) world own) c.raise.result s c.raise.new.shared from to) d.1.shared
    (subst (λ (l : List ShownEntry). Becomes trees p bounds inflated world (raised words trees t (shown_exception fault) world own) c.raise.result between c.raise.new.shared from l) (sym d.1.stack) b))
