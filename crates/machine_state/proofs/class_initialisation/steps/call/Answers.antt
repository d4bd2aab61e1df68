use Rattle.machine_state.proofs.class_initialisation.steps.call.Goals as goal

pub returns-in-Ok : goal.returns-in-Ok
returns-in-Ok c = λ trees bounds inflated world program is own s method code callee.
    c.apply.ensures trees bounds inflated world c.args.shared.now program is.represents c.args.stack.now own s _ c.first_call.new.stack
    (c.in-Ok.ensures trees c.args.program.now bounds inflated world is own s method code callee)

pub returns-in-Err : goal.returns-in-Err
returns-in-Err c = λ trees bounds inflated world program is own s method code callee.
    c.in-Err.ensures trees c.args.program.now bounds inflated world is own s method code callee
