use Rattle.std.proofs.Common.{sym}
use Rattle.linked_code.specs.declared.method.MethodBody.TheVariants as body
use Rattle.machine_state.proofs.class_initialisation.Rows.{method_missing, has_code, is_callee}
use Rattle.machine_state.proofs.class_initialisation.initialisers.callee_at.Goals as goal

pub returns-in-None-clause-callee : goal.returns-in-None-clause-callee
returns-in-None-clause-callee c = λ trees program method code at is_body.
    absurd (method_missing c.methods_are_read.ensures.holds trees c.args.program.now program c.args.method method code at is_body (sym c.in-None.ensures))

pub returns-in-Abstract-clause-callee : goal.returns-in-Abstract-clause-callee
returns-in-Abstract-clause-callee c = λ trees program method code at is_body.
    absurd (has_code c.methods_are_read.ensures.holds trees c.args.program.now program c.args.method method code at is_body c.in-Some.row.now (sym c.in-Some.ensures) body.Abstract c.in-Abstract.is)

pub returns-in-BuiltIn-clause-callee : goal.returns-in-BuiltIn-clause-callee
returns-in-BuiltIn-clause-callee c = λ trees program method code at is_body.
    absurd (has_code c.methods_are_read.ensures.holds trees c.args.program.now program c.args.method method code at is_body c.in-Some.row.now (sym c.in-Some.ensures) (body.BuiltIn c.in-BuiltIn.field-0) c.in-BuiltIn.is)

pub returns-in-Code-clause-callee : goal.returns-in-Code-clause-callee
returns-in-Code-clause-callee c = λ trees program method code at is_body.
    is_callee c.methods_are_read.ensures.holds trees c.args.program.now program c.args.method method code at is_body c.in-Some.row.now (sym c.in-Some.ensures) c.in-Code.code c.in-Code.is
