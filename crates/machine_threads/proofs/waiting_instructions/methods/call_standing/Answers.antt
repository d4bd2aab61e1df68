use Rattle.std.proofs.Common.{◌+◌, ◌∷◌, drop, refl, sym, ap, subst}
use Rattle.model.specs.State.{Invocation}
use Rattle.model.specs.Frames.{at_call}
use Rattle.model.specs.Step.{is_enabled_by}
use Rattle.linked_code.specs.declared.method.MethodBody.TheVariants as body
use Rattle.machine_instructions.specs.called_methods.Frames.{IsPlaceBehind}
use Rattle.machine_instructions.proofs.called_methods.RunMethods.{missing, runs_body, calling, built_in_done, pushes_is, monitor_there, event_of}
use Rattle.machine_threads.proofs.waiting_instructions.Enabled.{stands_same}
use Rattle.machine_threads.proofs.waiting_instructions.methods.call_standing.Goals as goal

pub returns-in_default : goal.returns-in_default
returns-in_default c = λ trees bounds inflated state frame rest site chosen operands is.
    absurd (missing c.methods_are_run.ensures.holds trees c.args.program.now bounds inflated c.args.thread c.args.shared.now c.args.stack.now state frame rest site (record { method = c.args.method; object = c.args.object; operands = operands }) chosen is (sym c.in_default.ensures))

pub returns-in-Abstract : goal.returns-in-Abstract
returns-in-Abstract c = λ trees bounds inflated state frame rest site chosen operands is.
    let run = c.methods_are_run.ensures.holds in
    ap (λ x. is_enabled_by (event_of run trees c.args.program.now bounds inflated c.args.thread c.args.shared.now c.args.stack.now state frame rest site (record { method = c.args.method; object = c.args.object; operands = operands }) chosen is c.args.frames 0 x))
    (runs_body run trees c.args.program.now bounds inflated c.args.thread c.args.shared.now c.args.stack.now state frame rest site (record { method = c.args.method; object = c.args.object; operands = operands }) chosen is c.in-Some.row.now (sym c.in-Some.ensures) body.Abstract c.in-Abstract.is)

pub returns-in-BuiltIn : goal.returns-in-BuiltIn
returns-in-BuiltIn c = λ trees bounds inflated state frame rest site chosen operands is.
    let run = c.methods_are_run.ensures.holds in
    let next = is.shown.place + 1 in
    let behind = subst (λ s. IsPlaceBehind s next) (sym is.is_stack) (λ h. refl) in
    stands_same c.built_in_standing.result c.args.frames _ _
    (λ n. built_in_done run trees c.args.program.now bounds inflated c.args.thread c.args.shared.now c.args.stack.now state frame rest site (record { method = c.args.method; object = c.args.object; operands = operands }) chosen is c.in-Some.row.now (sym c.in-Some.ensures) c.in-BuiltIn.built_in c.in-BuiltIn.is n 0)
    (c.built_in_standing.ensures trees c.args.program.now bounds inflated state frame rest operands next site.next c.args.frames
    (calling run trees c.args.program.now bounds inflated c.args.thread c.args.shared.now c.args.stack.now state frame rest site (record { method = c.args.method; object = c.args.object; operands = operands }) chosen is c.in-Some.row.now (sym c.in-Some.ensures) c.in-BuiltIn.built_in c.in-BuiltIn.is next behind))

pub returns-in-Code : goal.returns-in-Code
returns-in-Code c = λ trees bounds inflated state frame rest site chosen operands is.
    let run = c.methods_are_run.ensures.holds in
    stands_same c.code_standing.result c.args.frames _ _
    (λ n. sym (pushes_is run trees c.args.program.now bounds inflated c.args.thread c.args.shared.now c.args.stack.now state frame rest site (record { method = c.args.method; object = c.args.object; operands = operands }) chosen is c.in-Some.row.now (sym c.in-Some.ensures) c.in-Code.field-0 c.in-Code.is c.entered-entered.result c.entered-entered.ensures n 0 refl))
    (c.code_standing.ensures trees c.args.program.now bounds state.world (Invocation frame ∷ rest) (Invocation (at_call frame (drop operands frame.place.slots.stack)) ∷ rest) _ is.lent.represents is.lent.shows_stack
    (monitor_there run trees c.args.program.now bounds inflated c.args.thread c.args.shared.now c.args.stack.now state frame rest site (record { method = c.args.method; object = c.args.object; operands = operands }) chosen is c.in-Some.row.now (sym c.in-Some.ensures) c.in-Code.field-0 c.in-Code.is c.entered-entered.result c.entered-entered.ensures) refl)
