use Rattle.std.proofs.Common.{sym}
use Rattle.machine_threads.proofs.thread_begins.Rows.{missing, abstract_has_none, built_in_has_none, is_callee}
use Rattle.machine_threads.proofs.thread_begins.callees.callee_at.Goals as goal

pub returns-in-None-clause-callee : goal.returns-in-None-clause-callee
returns-in-None-clause-callee c = λ trees program method at. absurd (missing c.methods_are_read.ensures.holds trees c.args.program.now program c.args.method method at (sym c.in-None.ensures))

pub returns-in-Abstract-clause-callee : goal.returns-in-Abstract-clause-callee
returns-in-Abstract-clause-callee c = λ trees program method at.
    abstract_has_none c.methods_are_read.ensures.holds trees c.args.program.now program c.args.method method at c.in-Some.row.now (sym c.in-Some.ensures) c.in-Abstract.is

pub returns-in-BuiltIn-clause-callee : goal.returns-in-BuiltIn-clause-callee
returns-in-BuiltIn-clause-callee c = λ trees program method at.
    built_in_has_none c.methods_are_read.ensures.holds trees c.args.program.now program c.args.method method at c.in-Some.row.now (sym c.in-Some.ensures) c.in-BuiltIn.field-0 c.in-BuiltIn.is

pub returns-in-Code-clause-callee : goal.returns-in-Code-clause-callee
returns-in-Code-clause-callee c = λ trees program method at.
    is_callee c.methods_are_read.ensures.holds trees c.args.program.now program c.args.method method at c.in-Some.row.now (sym c.in-Some.ensures) c.in-Code.code c.in-Code.is
    c.args.object c.entered.result c.entered.ensures.entered
