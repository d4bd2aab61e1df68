use Rattle.std.proofs.Common.{List, ◌∷◌, Ok, Result, sym, ap, subst, ◌∙◌}
use Rattle.model.specs.State as model
use Rattle.thread_stacks.specs.declared.entry.Phase.TheVariants as phase
use Rattle.thread_stacks.specs.Stacks.{ShownEntry, in_phase}
use Rattle.machine_state.specs.shown_stacks.Shown.{ShowsStack}
use Rattle.machine_state.specs.declared.answers.Answer.{Answer}
use Rattle.machine_state.specs.declared.refusals.EventRefusal.{EventRefusal}
use Rattle.machine_state.specs.Memory.{shown_counts}
use Rattle.machine_state.specs.class_initialisation.Steps.{Calls}
use Rattle.machine_state.proofs.Memory.{counts_phased, refused_from}
use Rattle.machine_state.proofs.class_initialisation.Phases.{at_end, back}
use Rattle.machine_state.proofs.class_initialisation.steps.call_over.Goals as goal

pub returns-in-Ok-Done : goal.returns-in-Ok-Done
returns-in-Ok-Done c = λ trees bounds inflated world program is class rest s method code callee.
    let p = c.args.program.now in
    subst (λ (r : Result Answer EventRefusal). Calls p r c.args.thread c.args.callee c.args.frames c.args.shared.now c.call.new.shared c.set_phase.new.self c.call.new.stack) (c.in-Ok-Done.is ∙ ap (λ (a : Answer). Ok a) c.in-Ok-Done.field-0-is) c.call.ensures trees bounds inflated world program is (model.Initialisation class model.End ∷ rest)
    (subst (λ (l : List ShownEntry). ShowsStack trees p l (model.Initialisation class model.End ∷ rest)) (sym c.set_phase.ensures) (at_end trees p class rest c.args.stack.now s))
    method code callee

pub returns-in-Ok-NotEnabled : goal.returns-in-Ok-NotEnabled
returns-in-Ok-NotEnabled c = λ trees bounds inflated world program is class rest s method code callee.
    let p = c.args.program.now in
    let h =
    subst (λ (r : Result Answer EventRefusal). Calls p r c.args.thread c.args.callee c.args.frames c.args.shared.now c.call.new.shared c.set_phase.new.self c.call.new.stack) (c.in-Ok-NotEnabled.is ∙ ap (λ (a : Answer). Ok a) c.in-Ok-NotEnabled.field-0-is) c.call.ensures trees bounds inflated world program is (model.Initialisation class model.End ∷ rest)
    (subst (λ (l : List ShownEntry). ShowsStack trees p l (model.Initialisation class model.End ∷ rest)) (sym c.set_phase.ensures) (at_end trees p class rest c.args.stack.now s))
    method code callee in
    (h.0, record { shared = h.1.shared; stack = c.set_phase-in-Ok-NotEnabled.ensures ∙ ap (in_phase phase.Super) (h.1.stack ∙ c.set_phase.ensures) ∙ back trees p class rest c.args.stack.now s })

pub returns-in-Err : goal.returns-in-Err
returns-in-Err c = λ trees bounds inflated world program is class rest s method code callee.
    let p = c.args.program.now in
    let h =
    c.in-Err.ensures trees bounds inflated world program is (model.Initialisation class model.End ∷ rest)
    (subst (λ (l : List ShownEntry). ShowsStack trees p l (model.Initialisation class model.End ∷ rest)) (sym c.set_phase.ensures) (at_end trees p class rest c.args.stack.now s))
    method code callee in (
      refused_from trees bounds inflated world c.set_phase.new.self c.args.stack.now _ c.in-Err.refusal (ap shown_counts c.set_phase.ensures ∙ counts_phased phase.End c.args.stack.now) h.0,
      record { shared = h.1.shared; stack = c.set_phase-in-Err.ensures ∙ ap (in_phase phase.Super) (h.1.stack ∙ c.set_phase.ensures) ∙ back trees p class rest c.args.stack.now s },
    )
