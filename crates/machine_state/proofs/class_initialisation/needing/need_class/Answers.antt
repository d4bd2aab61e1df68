use Rattle.std.proofs.Common.{refl, sym, ap, Ok, Err, subst}
use Rattle.model.specs.Operands.{words}
use Rattle.model.specs.ClassInitialisation.{Look}
use Rattle.model.specs.Outcomes.{NoClassDefFound}
use Rattle.model.specs.Step.{needing, raised, begun_class}
use Rattle.machine_state.specs.Events.{Becomes}
use Rattle.machine_state.specs.class_initialisation.Needed.{NeedsBy}
use Rattle.machine_state.proofs.class_initialisation.Looking.{instead}
use Rattle.machine_state.proofs.class_initialisation.needing.need_class.Goals as goal

pub returns-in-Ready : goal.returns-in-Ready
returns-in-Ready c = λ trees bounds inflated world own program r s class at.
    (sym (c.in-Ready.ensures trees c.args.program.now bounds world program r class at), record { shared = refl; stack = refl })

pub returns-in-New : goal.returns-in-New
returns-in-New c = λ trees bounds inflated world own program r s class at.
    let found = c.in-New.ensures trees c.args.program.now bounds world program r class at in
    instead
    (λ result. Becomes trees c.args.program.now bounds inflated world (begun_class words trees c.args.thread class world own) result c.args.shared.now c.begin.new.shared c.args.stack.now c.begin.new.stack)
    (λ result. NeedsBy trees c.args.program.now bounds inflated c.args.thread class world own result c.args.shared.now c.begin.new.shared c.args.stack.now c.begin.new.stack)
    (λ answer h rest. subst (λ (l : Look). Becomes trees c.args.program.now bounds inflated world (needing words trees c.args.thread class l world own rest) (Ok answer) c.args.shared.now c.begin.new.shared c.args.stack.now c.begin.new.stack) found h)
    (λ told h rest. subst (λ (l : Look). Becomes trees c.args.program.now bounds inflated world (needing words trees c.args.thread class l world own rest) (Err told) c.args.shared.now c.begin.new.shared c.args.stack.now c.begin.new.stack) found h)
    c.begin.result c.map.result c.map.ensures.cases (c.begin.ensures trees bounds inflated world own program r s class at)

pub returns-in-Held : goal.returns-in-Held
returns-in-Held c = λ trees bounds inflated world own program r s class at rest. (
  ap (λ (l : Look). needing words trees c.args.thread class l world own rest) (sym (c.in-Held.ensures trees c.args.program.now bounds world program r class at)),
  record { shared = refl; stack = refl },
)

pub returns-in-Failed : goal.returns-in-Failed
returns-in-Failed c = λ trees bounds inflated world own program r s class at.
    let found = c.in-Failed.ensures trees c.args.program.now bounds world program r class at in
    instead
    (λ result. Becomes trees c.args.program.now bounds inflated world (raised words trees c.args.thread NoClassDefFound world own) result c.args.shared.now c.raise.new.shared c.args.stack.now c.args.stack.now)
    (λ result. NeedsBy trees c.args.program.now bounds inflated c.args.thread class world own result c.args.shared.now c.raise.new.shared c.args.stack.now c.args.stack.now)
    (λ answer h rest. subst (λ (l : Look). Becomes trees c.args.program.now bounds inflated world (needing words trees c.args.thread class l world own rest) (Ok answer) c.args.shared.now c.raise.new.shared c.args.stack.now c.args.stack.now) found h)
    (λ told h rest. subst (λ (l : Look). Becomes trees c.args.program.now bounds inflated world (needing words trees c.args.thread class l world own rest) (Err told) c.args.shared.now c.raise.new.shared c.args.stack.now c.args.stack.now) found h)
    c.raise.result c.map-in-Failed.result c.map-in-Failed.ensures.cases (c.raise.ensures trees c.args.program.now bounds inflated world r refl c.args.stack.now own s)
